-- Blocks are emptied of files that are given up: nothing else that counts changes, and some block is empty all the time.
use Rattle.std.proofs.Common.{◌≡◌, ◌≢◌, ◌⊎◌, ℕ, ◌+◌, ◌*◌, ◌/◌, ◌%◌, ◌<◌, ◌≤◌, Bool, true, false, cond, List, refl, sym}
use Rattle.std.proofs.Common.{ap, subst, ◌∙◌, inl, inr, ⊎_elim, arith, true≢false, get_or, Result, OnOk, OnErr}
use Rattle.std.specs.Prelude.{Option, Some, None, IsTrue, IsFalse, ◌↔◌}
use Rattle.std.proofs.lemmas.Bool.{cases_eq}
use Rattle.std.proofs.lemmas.Option.{same_Some, none-some}
use Rattle.flash_model.specs.Pages.{Pages, TornPage, IsPlain, blank_page, program_page}
use Rattle.flash_model.specs.State.{FlashState, IsStill, ProgramCase, FailsToProgram, programmed}
use Rattle.flash_model.specs.FlashMedium.{FlashMedium, FlashElapses, EachFlashCase}
use Rattle.flash_record.specs.PageRecord.{PageRecord, record_in}
use Rattle.flash_record.specs.Blank.{blank_is_none}
use Rattle.flash_disk.specs.declared.table.FilePage.{FilePage}
use Rattle.flash_disk.specs.declared.table.FlashPage.{FlashPage}
use Rattle.flash_disk.specs.declared.table.Newest.{Newest}
use Rattle.flash_disk.specs.declared.table.Table.{Table}
use Rattle.flash_disk.specs.declared.layer.LayerState.{LayerState}
use Rattle.flash_disk.specs.Newest.{Placed, record_at, newest, places, page_count, page_limit, IsSpare, IsUsable}
use Rattle.flash_disk.specs.Known.{same_page, page_of, known, page_len, limit_of, HasCapacity, SetsEntry}
use Rattle.flash_disk.specs.Learnt.{number, Led, LedOf}
use Rattle.flash_disk.specs.Standing.{said, IsAgreed, KeepsRecords}
use Rattle.flash_disk.specs.Does.{Does}
use Rattle.flash_disk.specs.Sound.{Sound, IsSoundLayer}
use Rattle.flash_disk.specs.Apart.{copy_of, HoldsOneCopy, KeepsHeld}
use Rattle.flash_disk.specs.Emptied.{IsEmptyBlock, Empties}
use Rattle.flash_disk.specs.Kept.{spares_record, only_kept, HoldsKept, ComesFrom}
use Rattle.flash_disk.specs.Forgetting.{Forgets, LeadsKept, LeavesKept, IsForgetting, IsFreeBlock, IsMovingKept}
use Rattle.flash_disk.specs.Forgetting.{MovesKept}
use Rattle.flash_disk.proofs.Learning.{record_at_place, same_page_is, same_page_refl}
use Rattle.flash_disk.proofs.PageCount.{count_came}
use Rattle.flash_disk.proofs.Sparing.{LiesElsewhere, number_block}
use Rattle.flash_disk.proofs.Standing.{is_newest_of, keeps_refl, keeps_then, keeps_said, keeps_agreed}
use Rattle.flash_disk.proofs.Tearing.{IsTorn, LosesIn, erase_keeps, copy_keeps, torn_program, whole_program, nothing_there}
use Rattle.flash_disk.proofs.Tearing.{whole_torn, whole_here}
use Rattle.flash_disk.proofs.Stretches.{does_then, does_weaken, does_nothing, program_does}
use Rattle.flash_disk.proofs.Clearing.{empty_none, empties_keeps, empties_stands, cleared_sound}
use Rattle.flash_disk.proofs.Holding.{held_refl, held_then, held_lost, held_copied, stand_held}
use Rattle.flash_disk.proofs.Hiding.{visible, hidden_at, hidden_seen, hidden_shown, hidden_same, hidden_torn}
use Rattle.flash_disk.proofs.Hiding.{hidden_keeps, hidden_agreed, hidden_led, newest_kept, kept_said, alike_file}

-- ---- an empty block is spare

empty_spare : (pages : Pages) (n block : ℕ) → IsEmptyBlock pages block → IsSpare pages n block
empty_spare pages n block empty x needed at =
    let is = is_newest_of pages x.says.file x.says.page n x needed.newest_is in
    none-some x.says (sym (empty_none pages block empty x.place at) ∙ is.there)

pub usable_by : (pages : Pages) (blocks spare : ℕ) → page_count pages (places blocks) ≤ page_limit blocks
    → spare < blocks → IsEmptyBlock pages spare → IsUsable pages blocks
usable_by pages blocks spare count within empty = record {
  fits = count;
  block = spare;
  within = within;
  spare = empty_spare pages (places blocks) spare empty;
}

-- ---- records that were there

pub comes_refl : (pages : Pages) (n : ℕ) → ComesFrom pages pages n
comes_refl pages n j q inside there = (j, inside, there)

pub comes_then : (a b c : Pages) (n : ℕ) → ComesFrom a b n → ComesFrom b c n → ComesFrom a c n
comes_then a b c n first second j q inside there =
    let mid = second j q inside there in first mid.0 q mid.1 mid.2

module _ (kept : ℕ → Bool) (blocks : ℕ) where
  abbrev n : ℕ
  n = places blocks

  abbrev hid : Pages → Pages
  hid pages = only_kept kept pages

  -- ---- one stretch after the other

  pub forgets_refl : (pages : Pages) → IsUsable pages blocks → Forgets kept blocks pages pages
  forgets_refl pages usable = record {
    files = λ file own. refl;
    keeps = keeps_refl (hid pages) n;
    only = comes_refl pages n;
    usable = usable;
    apart = λ stand. stand;
  }

  pub forgets_then : (a b c : Pages) → IsAgreed (hid a) n → Forgets kept blocks a b → Forgets kept blocks b c
      → Forgets kept blocks a c
  forgets_then a b c agreed first second = record {
    files = λ file own. second.files file own ∙ first.files file own;
    keeps = keeps_then (hid a) (hid b) n agreed first.keeps (hid c) second.keeps;
    only = comes_then a b c n first.only second.only;
    usable = second.usable;
    apart = λ stand. second.apart (first.apart stand);
  }

  pub moves_refl : (from to : ℕ) (pages : Pages) → MovesKept kept blocks from to pages pages
  moves_refl from to pages = record {
    torn = λ b p other. refl;
    keeps = keeps_refl (hid pages) n;
    only = comes_refl pages n;
    held = λ copy only. held_refl copy to n (hid pages);
  }

  pub moves_then : (from to : ℕ) (a b c : Pages) → from ≢ to → IsAgreed (hid a) n
      → MovesKept kept blocks from to a b → MovesKept kept blocks from to b c → MovesKept kept blocks from to a c
  moves_then from to a b c apart agreed first second = record {
    torn = λ k p other. second.torn k p other ∙ first.torn k p other;
    keeps = keeps_then (hid a) (hid b) n agreed first.keeps (hid c) second.keeps;
    only = comes_then a b c n first.only second.only;
    held = λ copy only. held_then copy to n (hid a) (hid b) (hid c) (first.held copy only)
        (second.held copy (first.held copy only from copy (λ same. absurd (apart same)) only));
  }

  -- ---- what the table leads to

  led_entry : (pages : Pages) (e : Newest) (best : Option Placed) → LedOf (hid pages) n (Some e) best
      → (x : Placed) × (best ≡ Some x) × Led (hid pages) n e x
  led_entry pages e None led = absurd led
  led_entry pages e (Some x) led = (x, refl, led)

  module _ (pages : Pages) (table : Table) (led : LeadsKept kept pages n table) where
    -- an entry of a file that is kept leads to its newest record, or an equal one
    pub leads_to_kept : (key : FilePage) (e : Newest) → kept key.file ≡ true → known table key ≡ Some e
        → (x : Placed) × (newest (hid pages) key.file key.page n ≡ Some x) × Led (hid pages) n e x
    leads_to_kept key e own is = led_entry pages e (newest (hid pages) key.file key.page n)
        (subst (λ o. LedOf (hid pages) n o (newest (hid pages) key.file key.page n)) is (led key own))

    entry_by : (key : FilePage) (x : Placed) (o : Option Newest) → known table key ≡ o
        → LedOf (hid pages) n o (Some x) → (e : Newest) × (known table key ≡ Some e) × Led (hid pages) n e x
    entry_by key x None is led = absurd led
    entry_by key x (Some e) is led = (e, is, led)

    -- and each such record has one
    pub entry_of_kept : (key : FilePage) (x : Placed) → kept key.file ≡ true
        → newest (hid pages) key.file key.page n ≡ Some x
        → (e : Newest) × (known table key ≡ Some e) × Led (hid pages) n e x
    entry_of_kept key x own found = entry_by key x (known table key) refl
        (subst (LedOf (hid pages) n (known table key)) found (led key own))

    over_by : (new : Pages) (e : Option Newest) (before after : Option Placed) → said after ≡ said before
        → ((entry : Newest) → e ≡ Some entry
        → record_at (hid new) (number entry.place) ≡ record_at (hid pages) (number entry.place))
        → LedOf (hid pages) n e before → LedOf (hid new) n e after
    over_by new None None None alike there led = led
    over_by new None None (Some y) alike there led = absurd (none-some y.says (sym alike))
    over_by new None (Some x) after alike there led = absurd led
    over_by new (Some e) None after alike there led = absurd led
    over_by new (Some e) (Some x) None alike there led = absurd (none-some x.says alike)
    over_by new (Some e) (Some x) (Some y) alike there led = let says : x.says ≡ y.says =
        same_Some x.says y.says (sym alike) in record {
          within = led.within;
          leads = record {
            small = led.leads.small;
            there = there e refl ∙ (led.leads.there ∙ ap Some says);
            sequence = led.leads.sequence ∙ ap (λ (q : PageRecord). q.sequence) says;
            len = led.leads.len ∙ ap (λ (q : PageRecord). q.len) says;
            filled = subst (λ (q : PageRecord). (j : ℕ) → e.filled ≤ j → get_or q.bytes j 0 ≡ 0) says
                led.leads.filled;
          };
        }

    -- an entry whose record stands where it stood still leads to it
    pub leads_over : (new : Pages) → IsAgreed (hid pages) n → KeepsRecords (hid pages) (hid new) n → (key : FilePage)
        → kept key.file ≡ true
        → ((e : Newest) → known table key ≡ Some e
        → record_at (hid new) (number e.place) ≡ record_at (hid pages) (number e.place))
        → LedOf (hid new) n (known table key) (newest (hid new) key.file key.page n)
    leads_over new agreed keeps key own there = over_by new (known table key)
        (newest (hid pages) key.file key.page n) (newest (hid new) key.file key.page n)
        (keeps_said (hid pages) (hid new) n agreed keeps key.file key.page) there (led key own)

  -- ---- a block is made blank, which may be cut short

  module _ (pages : Pages) (s : LayerState) (forgetting : IsForgetting kept pages blocks s) where
    pub forgetting_usable : IsUsable pages blocks
    forgetting_usable = usable_by pages blocks s.spare forgetting.count forgetting.within forgetting.empty

    module _ (block : ℕ) (apart : block ≢ s.spare) (out : LeavesKept kept s.table block 64) where
      elsewhere : LiesElsewhere (hid pages) n block
      elsewhere file page x found =
          let key : FilePage = record { file = file; page = page } in
          let own = newest_kept kept pages file page n x found in
          let entry = entry_of_kept pages s.table forgetting.led key x own found in
          let small = entry.2.leads.small in (
            number entry.0.place,
            entry.2.within,
            (λ here. (let far = out key entry.0 own entry.1 (sym (number_block entry.0.place small) ∙ here) in
                omega (arith, far, small))),
            entry.2.leads.there,
          )

      module _ (left : Pages) (empties : Empties block pages left) where
        hidden_loses : LosesIn block (hid pages) (hid left)
        hidden_loses = record {
          only = λ j q there. let now = hidden_seen kept left j q there in
              hidden_shown kept pages j q (empties.only j q now.0) now.1;
          apart = λ j other. hidden_same kept pages left j (ap record_in (empties.elsewhere (j / 64) (j % 64) other));
        }

        pub emptied_keeps : KeepsRecords (hid pages) (hid left) n
        emptied_keeps = erase_keeps (hid pages) (hid left) n block elsewhere hidden_loses

        emptied_only : ComesFrom pages left n
        emptied_only j q inside there = (j, inside, empties.only j q there)

        emptied_count : page_count left n ≤ page_limit blocks
        emptied_count = let less = count_came pages left n emptied_only in
            let fits = forgetting.count in omega (arith, less, fits)

        spare_stays : IsEmptyBlock left s.spare
        spare_stays p small = empties.elsewhere s.spare p (λ same. apart (sym same)) ∙ forgetting.empty p small

        emptied_held : (copy home : ℕ) → KeepsHeld copy home n (hid pages) (hid left)
        emptied_held copy home = held_lost (hid pages) (hid left) copy home n
            (keeps_said (hid pages) (hid left) n forgetting.agreed emptied_keeps) hidden_loses.only

        -- nothing that is kept changed
        pub emptied_forgets : Forgets kept blocks pages left
        emptied_forgets = record {
          files = λ file own. alike_file pages left blocks file
              (kept_said kept pages left n forgetting.agreed emptied_keeps file own);
          keeps = emptied_keeps;
          only = emptied_only;
          usable = usable_by left blocks s.spare emptied_count forgetting.within spare_stays;
          apart = λ stand b. (let own = stand b in (
            own.0,
            emptied_held own.0 (b + 1) b own.0 (λ same. absurd (omega (arith, same))) own.1,
          ));
        }

        emptied_there : (key : FilePage) (e : Newest) → kept key.file ≡ true → known s.table key ≡ Some e
            → record_at (hid left) (number e.place) ≡ record_at (hid pages) (number e.place)
        emptied_there key e own is =
            let found = leads_to_kept pages s.table forgetting.led key e own is in
            let small = found.2.leads.small in
            hidden_loses.apart (number e.place) (λ here.
            (let far = out key e own is (sym (number_block e.place small) ∙ here) in omega (arith, far, small)))

        -- and it goes on
        pub emptied_goes_on : IsForgetting kept left blocks s
        emptied_goes_on = record {
          led = λ key own. leads_over pages s.table forgetting.led left forgetting.agreed emptied_keeps key own
              (λ e is. emptied_there key e own is);
          room = forgetting.room;
          agreed = keeps_agreed (hid pages) (hid left) n forgetting.agreed emptied_keeps;
          count = emptied_count;
          within = forgetting.within;
          empty = spare_stays;
        }

    -- ---- what is kept was copied to a block that was blank

    module _ (from to : ℕ) (to_spare : to ≢ s.spare) (blank : IsEmptyBlock pages to) (left : Pages)
        (moves : MovesKept kept blocks from to pages left) where
      moved_empty : IsEmptyBlock left s.spare
      moved_empty p small = moves.torn s.spare p (λ same. to_spare (sym same)) ∙ forgetting.empty p small

      blank_none : (j : ℕ) → j / 64 ≡ to → record_at (hid pages) j ≡ None
      blank_none j at = hidden_at kept pages j ∙ ap (visible kept) (empty_none pages to blank j at)

      blank_holds : (copy : ℕ) → HoldsOneCopy (hid pages) n to copy
      blank_holds copy file page x found j inside at there = absurd (none-some x.says (sym (blank_none j at) ∙ there))

      -- nothing that is kept changed
      pub moves_forgets : Forgets kept blocks pages left
      moves_forgets = record {
        files = λ file own. alike_file pages left blocks file
            (kept_said kept pages left n forgetting.agreed moves.keeps file own);
        keeps = moves.keeps;
        only = moves.only;
        usable = usable_by left blocks s.spare
            (let less = count_came pages left n moves.only in let fits = forgetting.count in omega (arith, less, fits))
            forgetting.within moved_empty;
        apart = λ stand. (let own = stand from in
            stand_held (hid pages) (hid left) blocks own.0 to (moves.held own.0 own.1) (blank_holds own.0) stand);
      }

  -- ---- what a page says to which the table leads

  module _ (pages : Pages) (table : Table) (led : LeadsKept kept pages n table) (block page : ℕ) (inside : page < 64)
      (bytes : List ℕ) (read : bytes ≡ pages block page) where
    read_is : record_at pages (64 * block + page) ≡ record_in bytes
    read_is = record_at_place pages block page inside ∙ ap record_in (sym read)

    -- where an entry of a file that is kept leads to it
    pub says_kept : (key : FilePage) (e : Newest) → kept key.file ≡ true → known table key ≡ Some e
        → e.place.block ≡ block → e.place.page ≡ page
        → (x : Placed) × (newest (hid pages) key.file key.page n ≡ Some x) × Led (hid pages) n e x
        × (record_in bytes ≡ Some x.says) × (page_of x.says ≡ key) × (kept x.says.file ≡ true)
    says_kept key e own is at_block at_page =
        let found = leads_to_kept pages table led key e own is in
        let same : number e.place ≡ 64 * block + page = omega (arith, at_block, at_page) in
        let there : record_at (hid pages) (64 * block + page) ≡ Some found.0.says =
        subst (λ k. record_at (hid pages) k ≡ Some found.0.says) same found.2.leads.there in
        let now = hidden_seen kept pages (64 * block + page) found.0.says there in
        let newest_is = is_newest_of (hid pages) key.file key.page n found.0 found.1 in (
          found.0,
          found.1,
          found.2,
          sym read_is ∙ now.0,
          same_page_is (page_of found.0.says) key newest_is.of_page,
          now.1,
        )

    -- the newest record that is looked up for it
    pub looked_up_kept : (result : Option (FilePage × Newest))
        → ((r : PageRecord) (e : Newest) → record_in bytes ≡ Some r → kept r.file ≡ true
        → known table (page_of r) ≡ Some e → e.place.block ≡ block → e.place.page ≡ page → result ≡ Some (page_of r, e))
        → (key : FilePage) (e : Newest) → kept key.file ≡ true → known table key ≡ Some e → e.place.block ≡ block
        → e.place.page ≡ page → result ≡ Some (key, e)
    looked_up_kept result found key e own is at_block at_page =
        let says = says_kept key e own is at_block at_page in
        subst (λ k. result ≡ Some (k, e)) says.4 (found says.0.says e says.3 says.5
        (subst (λ k. known table k ≡ Some e) (sym says.4) is) at_block at_page)

    -- no such entry leads to it
    pub leaves_more : LeavesKept kept table block page → (result : Option (FilePage × Newest)) → result ≡ None
        → ((r : PageRecord) (e : Newest) → record_in bytes ≡ Some r → kept r.file ≡ true
        → known table (page_of r) ≡ Some e → e.place.block ≡ block → e.place.page ≡ page → result ≡ Some (page_of r, e))
        → LeavesKept kept table block (page + 1)
    leaves_more out result none found key e own is at_block = ⊎_elim
        (λ here. absurd (none-some (key, e) (sym none ∙ looked_up_kept result found key e own is at_block here)))
        (λ other. (let le = out key e own is at_block in omega (arith, le, other)))
        (cases_eq e.place.page page)

  -- a block whose records are all of files that are kept
  pub holds_by : (pages left : Pages) (block : ℕ) → HoldsKept kept pages block
      → ((p : ℕ) → p < 64 → (q : PageRecord) → record_in (left block p) ≡ Some q
      → (record_in (pages block p) ≡ Some q) ⊎ (kept q.file ≡ true)) → HoldsKept kept left block
  holds_by pages left block holds was p small = spared (record_in (left block p)) (λ q there. ⊎_elim
      (λ before. subst (λ o. spares_record kept o ≡ true) before (holds p small))
      (λ own. own)
      (was p small q there))
    where
      spared : (o : Option PageRecord) → ((q : PageRecord) → o ≡ Some q → kept q.file ≡ true)
          → spares_record kept o ≡ true
      spared None each = refl
      spared (Some q) each = each q refl

  pub empty_holds_kept : (pages : Pages) (block : ℕ) → IsEmptyBlock pages block → HoldsKept kept pages block
  empty_holds_kept pages block empty p small =
      ap (spares_record kept) (ap record_in (empty p small) ∙ blank_is_none)

  -- erasing brings no record
  pub emptied_holds : (pages left : Pages) (block : ℕ) → Empties block pages left → (b : ℕ) → HoldsKept kept pages b
      → HoldsKept kept left b
  emptied_holds pages left block empties b holds = holds_by pages left b holds (λ p small q there. inl
      (sym (record_at_place pages b p small)
      ∙ empties.only (64 * b + p) q (record_at_place left b p small ∙ there)))

  -- ---- a record is copied, which may be cut short

  module _ (pages : Pages) (s : LayerState) (from done : ℕ) (place : FlashPage)
      (moving : IsMovingKept kept pages blocks s from place.block done place.page) where
    abbrev to : ℕ
    to = place.block

    abbrev count : ℕ
    count = place.page

    abbrev at : ℕ
    at = 64 * from + done

    -- no entry of a file that is kept leads to the page
    pub passed_by : LeavesKept kept s.table from (done + 1)
        → IsMovingKept kept pages blocks s from to (done + 1) count
    passed_by out = record {
      forgetting = moving.forgetting;
      within = moving.within;
      to_within = moving.to_within;
      apart = moving.apart;
      to_spare = moving.to_spare;
      behind = (let le = moving.behind in omega (arith, le));
      blank = moving.blank;
      holds = moving.holds;
      out = out;
    }

    module _ (inside : done < 64) (bytes : List ℕ) (read : bytes ≡ pages from done) (key : FilePage) (old : Newest)
        (own : kept key.file ≡ true) (is : known s.table key ≡ Some old) (block : old.place.block ≡ from)
        (page : old.place.page ≡ done) where
      abbrev here : (x : Placed) × (newest (hid pages) key.file key.page n ≡ Some x) × Led (hid pages) n old x
          × (record_in bytes ≡ Some x.says) × (page_of x.says ≡ key) × (kept x.says.file ≡ true)
      here = says_kept pages s.table moving.forgetting.led from done inside bytes read key old own is block page

      abbrev r : PageRecord
      r = here.0.says

      small : count < 64
      small = let le = moving.behind in omega (arith, le, inside)

      blank : pages to count ≡ blank_page
      blank = moving.blank count (omega arith) small

      nothing : record_at pages (number place) ≡ None
      nothing = nothing_there pages to count small blank

      hidden_nothing : record_at (hid pages) (number place) ≡ None
      hidden_nothing = hidden_at kept pages (number place) ∙ ap (visible kept) nothing

      at_inside : at < n
      at_inside = let within = moving.within in omega (arith, within, inside)

      at_says : record_at pages at ≡ Some r
      at_says = read_is pages s.table moving.forgetting.led from done inside bytes read ∙ here.3

      module _ (left : Pages) (torn_block : TornPage to count pages left)
          (torn : IsTorn pages left (number place) (Some r)) where
        hid_torn : IsTorn (hid pages) (hid left) (number place) (Some r)
        hid_torn = hidden_torn kept pages left n (number place) r here.5 torn

        pub copy_kept : KeepsRecords (hid pages) (hid left) n
        copy_kept = copy_keeps (hid pages) (hid left) n (number place) at r hidden_nothing at_inside
            (hidden_shown kept pages at r at_says here.5) hid_torn

        copy_only : ComesFrom pages left n
        copy_only = let keeps = copy_keeps pages left n (number place) at r nothing at_inside at_says torn in keeps.only

        copy_file : r.file ≡ key.file
        copy_file = ap (λ (k : FilePage). k.file) here.4

        -- nothing that is kept changed, and the record's copy alone came to the block
        pub copy_moves : MovesKept kept blocks from to pages left
        copy_moves = record {
          torn = λ b p other. torn_block b p (inl other);
          keeps = copy_kept;
          only = copy_only;
          held = λ copy holds. held_copied (hid pages) (hid left) copy to n
              (keeps_said (hid pages) (hid left) n moving.forgetting.agreed copy_kept) (number place) r hid_torn
              (number_block place small)
              (ap copy_of copy_file ∙ holds key.file key.page here.0 here.1 at at_inside
              (let e : at / 64 ≡ from = omega (arith, inside) in e) (hidden_shown kept pages at r at_says here.5));
        }

      pub copy_torn_moves : (left : Pages) → TornPage to count pages left
          → IsPlain pages (program_page pages to count bytes) left → MovesKept kept blocks from to pages left
      copy_torn_moves left torn plain = copy_moves left torn
          (subst (IsTorn pages left (number place)) here.3 (torn_program pages to count small blank left bytes torn plain))

      abbrev written : Pages
      written = program_page pages to count bytes

      written_torn : IsTorn pages written (number place) (Some r)
      written_torn = subst (IsTorn pages written (number place)) here.3 (whole_program pages to count small bytes)

      pub copy_whole_moves : MovesKept kept blocks from to pages written
      copy_whole_moves = copy_moves written (whole_torn pages to count bytes) written_torn

      abbrev pub led_to : Newest
      led_to = record old { place = place }

      module _ (table : Table) (sets : SetsEntry s.table table key led_to) where
        abbrev keeps : KeepsRecords (hid pages) (hid written) n
        keeps = copy_kept written (whole_torn pages to count bytes) written_torn

        now_there : record_at (hid written) (number place) ≡ Some r
        now_there = hidden_shown kept written (number place) r (whole_here pages to count small bytes ∙ here.3) here.5

        lead_here : (best : Option Placed) → said best ≡ Some r → LedOf (hid written) n (Some led_to) best
        lead_here None alike = absurd (none-some r alike)
        lead_here (Some y) alike = let same : r ≡ y.says = same_Some r y.says (sym alike) in
            let led = here.2.leads in record {
              within = (let few = small in let within = moving.to_within in omega (arith, few, within));
              leads = record {
                small = small;
                there = now_there ∙ ap Some same;
                sequence = led.sequence ∙ ap (λ (q : PageRecord). q.sequence) same;
                len = led.len ∙ ap (λ (q : PageRecord). q.len) same;
                filled = subst (λ (q : PageRecord). (j : ℕ) → old.filled ≤ j → get_or q.bytes j 0 ≡ 0) same led.filled;
              };
            }

        alike_now : said (newest (hid written) key.file key.page n) ≡ Some r
        alike_now = keeps_said (hid pages) (hid written) n moving.forgetting.agreed keeps key.file key.page
            ∙ ap said here.1

        other_there : (k : FilePage) (e : Newest) → kept k.file ≡ true → known s.table k ≡ Some e
            → record_at (hid written) (number e.place) ≡ record_at (hid pages) (number e.place)
        other_there k e own_k is_k =
            let found = leads_to_kept pages s.table moving.forgetting.led k e own_k is_k in
            (hid_torn written (whole_torn pages to count bytes) written_torn).elsewhere (number e.place)
            (λ same. none-some found.0.says (sym hidden_nothing
            ∙ subst (λ m. record_at (hid pages) m ≡ Some found.0.says) same found.2.leads.there))

        led_by : (k : FilePage) → kept k.file ≡ true → (b : Bool) → same_page key k ≡ b
            → LedOf (hid written) n (cond b (Some led_to) (known s.table k)) (newest (hid written) k.file k.page n)
        led_by k own_k true same = subst (λ (q : FilePage).
            LedOf (hid written) n (Some led_to) (newest (hid written) q.file q.page n)) (same_page_is key k same)
            (lead_here (newest (hid written) key.file key.page n) alike_now)
        led_by k own_k false same = leads_over pages s.table moving.forgetting.led written moving.forgetting.agreed keeps
            k own_k (λ e is_k. other_there k e own_k is_k)

        out_by : (k : FilePage) (e : Newest) → kept k.file ≡ true → (b : Bool) → same_page key k ≡ b
            → cond b (Some led_to) (known s.table k) ≡ Some e → e.place.block ≡ from → done + 1 ≤ e.place.page
        out_by k e own_k true same is_k at_from =
            absurd (moving.apart (sym at_from ∙ ap (λ (q : Newest). q.place.block)
            (sym (same_Some led_to e is_k))))
        out_by k e own_k false same is_k at_from =
            let le = moving.out k e own_k is_k at_from in ⊎_elim
            (λ last. (let other = says_kept pages s.table moving.forgetting.led from done inside bytes read k e own_k
            is_k at_from last
            in
            let one : r ≡ other.0.says = same_Some r other.0.says (sym here.3 ∙ other.3) in
            let page_is : key ≡ k = sym here.4 ∙ (ap page_of one ∙ other.4) in
            absurd (true≢false (sym (same_page_refl key) ∙ (ap (same_page key) page_is ∙ same)))))
            (λ more. omega (arith, le, more))
            (cases_eq e.place.page done)

        -- the table leads to it
        pub copied_goes_on : (t : LayerState) → t ≡ record s { table = table }
            → IsMovingKept kept written blocks t from to (done + 1) (count + 1)
        copied_goes_on t state =
            subst (λ (q : LayerState). IsMovingKept kept written blocks q from to (done + 1) (count + 1))
            (sym state) (record {
              forgetting = record {
                led = λ k own_k. subst (λ o. LedOf (hid written) n o (newest (hid written) k.file k.page n))
                    (sym (sets.known_is k)) (led_by k own_k (same_page key k) refl);
                room = sets.room moving.forgetting.room;
                agreed = keeps_agreed (hid pages) (hid written) n moving.forgetting.agreed keeps;
                count = (let less = count_came pages written n
                    (copy_only written (whole_torn pages to count bytes) written_torn) in
                    let fits = moving.forgetting.count in omega (arith, less, fits));
                within = moving.forgetting.within;
                empty = λ p few. whole_torn pages to count bytes s.spare p (inl (λ same. moving.to_spare (sym same)))
                    ∙ moving.forgetting.empty p few;
              };
              within = moving.within;
              to_within = moving.to_within;
              apart = moving.apart;
              to_spare = moving.to_spare;
              behind = (let le = moving.behind in omega (arith, le));
              blank = λ p past few. whole_torn pages to count bytes to p (inr (λ same. omega (arith, past, same)))
                  ∙ moving.blank p (omega (arith, past)) few;
              holds = holds_by pages written to moving.holds (λ p few q there. ⊎_elim
                  (λ same. inr (ap (λ (z : PageRecord). kept z.file) (same_Some q r
                  (sym there ∙ (ap (λ k. record_in (written to k)) same ∙ (sym (record_at_place written to count small)
                  ∙ (whole_here pages to count small bytes ∙ here.3))))) ∙ here.5))
                  (λ other. inl (ap record_in (sym (whole_torn pages to count bytes to p (inr other))) ∙ there))
                  (cases_eq p count));
              out = λ k e own_k is_k. out_by k e own_k (same_page key k) refl (sym (sets.known_is k) ∙ is_k);
            })

-- ---- the start

module _ (kept : ℕ → Bool) where
  -- where the spare block is empty and nothing rivals, files can be given up
  pub sound_starts : (pages : Pages) (blocks : ℕ) (s : LayerState) → Sound pages blocks s → IsFalse s.has_rivals
      → IsEmptyBlock pages s.spare → IsForgetting kept pages blocks s
  sound_starts pages blocks s sound agreed empty = record {
    led = hidden_led kept pages (places blocks) s.table sound.knows.led;
    room = sound.knows.led.room;
    agreed = hidden_agreed kept pages (places blocks) (sound.agreed agreed);
    count = (let count = sound.count in let fits = sound.counted.fits in let limit =
        sound.limit in omega (arith, count, fits, limit));
    within = sound.within;
    empty = empty;
  }

  module _ (m : FlashMedium) (s : LayerState) (sound : IsSoundLayer m s) (agreed : IsFalse s.has_rivals) where
    -- making the spare block blank changes nothing that is kept
    cleared_by : (left : Pages) → Empties s.spare m.state.pages left → Forgets kept m.blocks m.state.pages left
    cleared_by left empties =
        let pages = m.state.pages in
        let n = places m.blocks in
        let all = empties_keeps m s sound agreed left empties in
        let keeps = hidden_keeps kept pages left n all in record {
          files = λ file own. alike_file pages left m.blocks file
              (kept_said kept pages left n (hidden_agreed kept pages n (sound.agreed agreed)) keeps file own);
          keeps = keeps;
          only = all.only;
          usable = (empties_stands m s sound agreed left empties).usable;
          apart = λ stand b. (let own = stand b in (
            own.0,
            held_lost (only_kept kept pages) (only_kept kept left) own.0 (b + 1) n
                (keeps_said (only_kept kept pages) (only_kept kept left) n
                (hidden_agreed kept pages n (sound.agreed agreed)) keeps)
                (λ j q there. (let now = hidden_seen kept left j q there in
                hidden_shown kept pages j q (empties.only j q now.0) now.1))
                b own.0 (λ same. absurd (omega (arith, same))) own.1,
          ));
        }

    pub clearing_forgets : (now : FlashMedium) → Does (Empties s.spare m.state.pages) m now
        → Does (Forgets kept m.blocks m.state.pages) m now
    clearing_forgets now = does_weaken m now (Empties s.spare m.state.pages) (Forgets kept m.blocks m.state.pages)
        cleared_by

    -- and then files can be given up
    pub cleared_starts : (now : FlashMedium) → now.blocks ≡ m.blocks → Does (Empties s.spare m.state.pages) m now
        → (t : LayerState) → t ≡ record s { cleared = t.cleared }
        → (IsTrue t.cleared → IsEmptyBlock now.state.pages s.spare) → IsTrue t.cleared
        → IsForgetting kept now.state.pages now.blocks t
    cleared_starts now blocks does t state blank cleared = sound_starts now.state.pages now.blocks t
        (cleared_sound m s sound agreed now blocks does t state blank)
        (subst (λ (q : LayerState). IsFalse q.has_rivals) (sym state) agreed)
        (subst (λ (q : LayerState). IsEmptyBlock now.state.pages q.spare) (sym state) (blank cleared))

  -- calls after one that only looked
  pub forgets_after : (a b c : FlashMedium) → FlashElapses a b → FlashElapses b c → b.state ≡ a.state
      → EachFlashCase (IsStill a.state) a b → IsUsable a.state.pages a.blocks
      → Does (Forgets kept b.blocks b.state.pages) b c → Does (Forgets kept a.blocks a.state.pages) a c
  forgets_after a b c first second same still usable late =
      does_then a b c (Forgets kept a.blocks a.state.pages) first second
      (does_nothing a b (Forgets kept a.blocks a.state.pages) same still
      (forgets_refl kept a.blocks a.state.pages usable))
      (subst (λ (z : FlashState). Does (Forgets kept a.blocks z.pages) b c) same
      (subst (λ k. Does (Forgets kept k b.state.pages) b c) first.blocks late))

  -- ---- stretches

  module _ (a b c : FlashMedium) (first : FlashElapses a b) (second : FlashElapses b c)
      (agreed : IsAgreed (only_kept kept a.state.pages) (places a.blocks)) where
    pub forgets_on : Does (Forgets kept a.blocks a.state.pages) a b → Does (Forgets kept b.blocks b.state.pages) b c
        → Does (Forgets kept a.blocks a.state.pages) a c
    forgets_on early late = does_then a b c (Forgets kept a.blocks a.state.pages) first second early
        (does_weaken b c (Forgets kept b.blocks b.state.pages) (Forgets kept a.blocks a.state.pages)
        (λ pages later. forgets_then kept a.blocks a.state.pages b.state.pages pages agreed early.now
        (subst (λ k. Forgets kept k b.state.pages pages) first.blocks later)) late)

    pub moves_on : (from to : ℕ) → from ≢ to → Does (MovesKept kept a.blocks from to a.state.pages) a b
        → Does (MovesKept kept b.blocks from to b.state.pages) b c
        → Does (MovesKept kept a.blocks from to a.state.pages) a c
    moves_on from to apart early late = does_then a b c (MovesKept kept a.blocks from to a.state.pages) first second
        early
        (does_weaken b c (MovesKept kept b.blocks from to b.state.pages) (MovesKept kept a.blocks from to a.state.pages)
        (λ pages later. moves_then kept a.blocks from to a.state.pages b.state.pages pages apart agreed early.now
        (subst (λ k. MovesKept kept k from to b.state.pages pages) first.blocks later)) late)

  module _ (m now : FlashMedium) (s : LayerState) (forgetting : IsForgetting kept m.state.pages m.blocks s) where
    -- a call that only looks
    pub look_forgets : now.state ≡ m.state → EachFlashCase (IsStill m.state) m now
        → Does (Forgets kept m.blocks m.state.pages) m now
    look_forgets same still = does_nothing m now (Forgets kept m.blocks m.state.pages) same still
        (forgets_refl kept m.blocks m.state.pages (forgetting_usable kept m.blocks m.state.pages s forgetting))

    pub look_goes_on : now.state ≡ m.state → now.blocks ≡ m.blocks → IsForgetting kept now.state.pages now.blocks s
    look_goes_on same blocks = subst (λ k. IsForgetting kept now.state.pages k s) (sym blocks)
        (subst (λ (z : FlashState). IsForgetting kept z.pages m.blocks s) (sym same) forgetting)

    -- a block is made blank
    pub emptying_forgets : (block : ℕ) → block ≢ s.spare → LeavesKept kept s.table block 64
        → Does (Empties block m.state.pages) m now → Does (Forgets kept m.blocks m.state.pages) m now
    emptying_forgets block apart out = does_weaken m now (Empties block m.state.pages)
        (Forgets kept m.blocks m.state.pages)
        (λ left empties. emptied_forgets kept m.blocks m.state.pages s forgetting block apart out left empties)

    pub emptying_goes_on : (block : ℕ) → block ≢ s.spare → LeavesKept kept s.table block 64
        → Empties block m.state.pages now.state.pages → now.blocks ≡ m.blocks
        → IsForgetting kept now.state.pages now.blocks s
    emptying_goes_on block apart out empties blocks = subst (λ k. IsForgetting kept now.state.pages k s) (sym blocks)
        (emptied_goes_on kept m.blocks m.state.pages s forgetting block apart out now.state.pages empties)

    -- what is kept was copied to a blank block
    pub moving_forgets : (from to : ℕ) → to ≢ s.spare → IsEmptyBlock m.state.pages to
        → Does (MovesKept kept m.blocks from to m.state.pages) m now → Does (Forgets kept m.blocks m.state.pages) m now
    moving_forgets from to to_spare blank = does_weaken m now (MovesKept kept m.blocks from to m.state.pages)
        (Forgets kept m.blocks m.state.pages)
        (λ left moves. moves_forgets kept m.blocks m.state.pages s forgetting from to to_spare blank left moves)

  module _ (m now : FlashMedium) (from to : ℕ) where
    pub look_moves : now.state ≡ m.state → EachFlashCase (IsStill m.state) m now
        → Does (MovesKept kept m.blocks from to m.state.pages) m now
    look_moves same still = does_nothing m now (MovesKept kept m.blocks from to m.state.pages) same still
        (moves_refl kept m.blocks from to m.state.pages)

    pub look_moving : (s t : LayerState) → t ≡ s → (done count : ℕ) → now.state ≡ m.state → now.blocks ≡ m.blocks
        → IsMovingKept kept m.state.pages m.blocks s from to done count
        → IsMovingKept kept now.state.pages now.blocks t from to done count
    look_moving s t state done count same blocks moving =
        subst (λ (q : LayerState). IsMovingKept kept now.state.pages now.blocks q from to done count) (sym state)
        (subst (λ k. IsMovingKept kept now.state.pages k s from to done count) (sym blocks)
        (subst (λ (z : FlashState). IsMovingKept kept z.pages m.blocks s from to done count) (sym same) moving))

  -- a record is copied, or that failed
  module _ (m : FlashMedium) (s : LayerState) (from done : ℕ) (place : FlashPage)
      (moving : IsMovingKept kept m.state.pages m.blocks s from place.block done place.page) (inside : done < 64)
      (bytes : List ℕ)
      (read : bytes ≡ m.state.pages from done) (key : FilePage) (old : Newest) (own : kept key.file ≡ true)
      (is : known s.table key ≡ Some old) (block : old.place.block ≡ from) (page : old.place.page ≡ done) where
    pub copying_moves : {T E : Type 0} → (now : FlashMedium) (result : Result T E)
        → OnOk result (now.state ≡ programmed m.state place.block place.page bytes)
        → OnErr result (FailsToProgram place.block place.page bytes m.state now.state)
        → EachFlashCase (λ c. IsStill m.state c ⊎ (IsStill now.state c
        ⊎ ProgramCase place.block place.page bytes m.state c)) m now
        → Does (MovesKept kept m.blocks from place.block m.state.pages) m now
    copying_moves now result ok failed cases =
        program_does m now (MovesKept kept m.blocks from place.block m.state.pages) place.block place.page bytes
        result ok failed cases
        (moves_refl kept m.blocks from place.block m.state.pages)
        (copy_whole_moves kept m.blocks m.state.pages s from done place moving inside bytes read key old own is block
        page)
        (copy_torn_moves kept m.blocks m.state.pages s from done place moving inside bytes read key old own is block
        page)

    pub copying_goes_on : (now : FlashMedium) → now.state ≡ programmed m.state place.block place.page bytes
        → now.blocks ≡ m.blocks
        → (t : LayerState) (table : Table) → t ≡ record s { table = table }
        → SetsEntry s.table table key (record old { place = place })
        → IsMovingKept kept now.state.pages now.blocks t from place.block (done + 1) (place.page + 1)
    copying_goes_on now done_now blocks t table state sets =
        subst (λ k. IsMovingKept kept now.state.pages k t from place.block (done + 1) (place.page + 1)) (sym blocks)
        (subst (λ (z : FlashState). IsMovingKept kept z.pages m.blocks t from place.block (done + 1) (place.page + 1))
        (sym done_now)
        (copied_goes_on kept m.blocks m.state.pages s from done place moving inside bytes read key old own is block
        page table sets t state))

-- an entry that a table had was replaced
pub put_sets : (old new : Table) (key : FilePage) (was e : Newest) (done : Bool) → HasCapacity old
    → known old key ≡ Some was
    → (HasCapacity old → IsFalse done ↔ ((known old key ≡ None) × (limit_of old ≤ page_len old)))
    → (IsTrue done → SetsEntry old new key e) → SetsEntry old new key e
put_sets old new key was e true room is full sets = sets refl
put_sets old new key was e false room is full sets = absurd (none-some was (sym ((full room).0 refl).0 ∙ is))

-- ---- a block is emptied into another

module _ (kept : ℕ → Bool) where
  module _ (pages : Pages) (blocks : ℕ) (s : LayerState) (forgetting : IsForgetting kept pages blocks s) where
    -- a block with records of other files is neither the spare one nor one that is free
    pub other_apart : (block : ℕ) → (HoldsKept kept pages block → ⊥) → block ≢ s.spare
    other_apart block other same = other (empty_holds_kept kept blocks pages block
        (subst (IsEmptyBlock pages) (sym same) forgetting.empty))

    module _ (block free : ℕ) (is_free : IsFreeBlock pages blocks s free) (within : block < blocks)
        (other : HoldsKept kept pages block → ⊥) where
      pub other_moves : block ≢ free
      other_moves same = other (empty_holds_kept kept blocks pages block
          (subst (IsEmptyBlock pages) (sym same) is_free.empty))

      pub starts_moving : IsMovingKept kept pages blocks s block free 0 0
      starts_moving = record {
        forgetting = forgetting;
        within = within;
        to_within = is_free.within;
        apart = other_moves;
        to_spare = is_free.apart;
        behind = omega arith;
        blank = λ p past small. is_free.empty p small;
        holds = empty_holds_kept kept blocks pages free is_free.empty;
        out = λ key e own is at. omega arith;
      }

  -- the records that came to a block are of files that are kept
  pub moves_hold : (pages left : Pages) (blocks from to : ℕ) → MovesKept kept blocks from to pages left
      → HoldsKept kept left to → (b : ℕ) → HoldsKept kept pages b → HoldsKept kept left b
  moves_hold pages left blocks from to moves holds b was = ⊎_elim
      (λ same. subst (HoldsKept kept left) (sym same) holds)
      (λ other. λ p small. subst (λ z. spares_record kept (record_in z) ≡ true) (sym (moves.torn b p other))
      (was p small))
      (cases_eq b to)

  -- a block that was free still is, after calls that only look
  pub look_free : (m now : FlashMedium) (s t : LayerState) (block : ℕ) → now.state ≡ m.state → now.blocks ≡ m.blocks
      → t ≡ s → IsFreeBlock m.state.pages m.blocks s block → IsFreeBlock now.state.pages now.blocks t block
  look_free m now s t block same blocks state free = subst (λ (q : LayerState).
      IsFreeBlock now.state.pages now.blocks q block) (sym state)
      (subst (λ k. IsFreeBlock now.state.pages k s block) (sym blocks)
      (subst (λ (z : FlashState). IsFreeBlock z.pages m.blocks s block) (sym same) free))

  -- what is known still fits
  pub look_sound : (m now : FlashMedium) (s t : LayerState) → now.state ≡ m.state → now.blocks ≡ m.blocks → t ≡ s
      → IsSoundLayer m s → IsSoundLayer now t
  look_sound m now s t same blocks state sound = subst (λ (q : LayerState). Sound now.state.pages now.blocks q)
      (sym state) (subst (λ k. Sound now.state.pages k s) (sym blocks)
      (subst (λ (z : FlashState). Sound z.pages m.blocks s) (sym same) sound))

  -- and files still are given up
  pub look_still : (m now : FlashMedium) (s t : LayerState) → now.state ≡ m.state → now.blocks ≡ m.blocks → t ≡ s
      → IsForgetting kept m.state.pages m.blocks s → IsForgetting kept now.state.pages now.blocks t
  look_still m now s t same blocks state forgetting = subst (IsForgetting kept now.state.pages now.blocks) (sym state)
      (look_goes_on kept m now s forgetting same blocks)
