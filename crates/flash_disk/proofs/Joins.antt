-- The newest records of a block are added to those in the current one, and the table leads to them, one by one.
use Rattle.std.proofs.Common.{◌≡◌, ◌≢◌, ◌⊎◌, ℕ, ◌+◌, ◌*◌, ◌/◌, ◌<◌, ◌≤◌, Bool, true, false, cond, List, Result, OnOk}
use Rattle.std.proofs.Common.{OnErr, refl, sym, ap, subst, ◌∙◌, inl, inr, ⊎_elim, arith, true≢false}
use Rattle.std.specs.Prelude.{Option, Some, None, IsTrue, IsFalse, is_some, ◌↔◌}
use Rattle.std.specs.HashMap.{spare}
use Rattle.std.proofs.lemmas.Bool.{cases_eq}
use Rattle.std.proofs.lemmas.Option.{same_Some, none-some}
use Rattle.flash_model.specs.Pages.{Pages, TornPage, IsPlain, program_page, blank_page}
use Rattle.flash_model.specs.State.{FlashState, IsStill, ProgramCase, FailsToProgram, programmed}
use Rattle.flash_model.specs.FlashMedium.{FlashMedium, EachFlashCase}
use Rattle.flash_record.specs.PageRecord.{PageRecord, record_in}
use Rattle.flash_record.specs.Blank.{blank_is_none}
use Rattle.flash_disk.specs.declared.table.FilePage.{FilePage}
use Rattle.flash_disk.specs.declared.table.FlashPage.{FlashPage}
use Rattle.flash_disk.specs.declared.table.Newest.{Newest}
use Rattle.flash_disk.specs.declared.table.Table.{Table}
use Rattle.flash_disk.specs.declared.layer.LayerState.{LayerState}
use Rattle.flash_disk.specs.Newest.{Placed, record_at, newest, places}
use Rattle.flash_disk.specs.FlashFiles.{IsFileLen}
use Rattle.flash_disk.specs.Known.{same_page, page_of, known, page_len, limit_of, len_in, HasLen, HasLenIn, SetsEntry}
use Rattle.flash_disk.specs.Known.{HasCapacity}
use Rattle.flash_disk.specs.Entries.{SameEntries}
use Rattle.flash_disk.specs.Counted.{entries_in, had_in, leads_into, IsInside, IsCountedTable}
use Rattle.flash_disk.specs.Learnt.{number, Led, LedOf, IsLed, HasPlace}
use Rattle.flash_disk.specs.Does.{Does}
use Rattle.flash_disk.specs.Standing.{KeepsRecords}
use Rattle.flash_disk.specs.Sound.{Sound, IsSoundLayer, HasFreshPage, LeavesOut}
use Rattle.flash_disk.specs.Moving.{IsJoining, LeadsFewer, StandsMoved}
use Rattle.flash_disk.specs.Apart.{copy_of, KeepsHeld}
use Rattle.flash_disk.specs.LedApart.{LeadsOnly, IsPair}
use Rattle.flash_disk.proofs.Learning.{record_at_place, same_page_is, same_page_refl}
use Rattle.flash_disk.proofs.Standing.{keeps_said}
use Rattle.flash_disk.proofs.Sparing.{led_elsewhere, spare_of}
use Rattle.flash_disk.proofs.Tearing.{IsTorn, torn_program, torn_elsewhere, torn_copy, whole_copy, whole_torn, whole_here}
use Rattle.flash_disk.proofs.Stretches.{program_does, does_weaken}
use Rattle.flash_disk.proofs.Entering.{still_empty}
use Rattle.flash_disk.proofs.Counting.{one_leads, put_one_less}
use Rattle.flash_disk.proofs.Holding.{held_copied}
use Rattle.flash_disk.proofs.Moving.{record_of, kept_sound, kept_stands, moved_now, says_there}
use Rattle.flash_disk.proofs.Moved.{Follows, led_by}

-- ---- the table

-- an entry of a table in which one was set is that one, or one of another page that was there
pub sets_either : (old new : Table) (key : FilePage) (e : Newest) → SetsEntry old new key e
    → (k : FilePage) (v : Newest) → known new k ≡ Some v
    → ((key ≡ k) × (e ≡ v)) ⊎ ((same_page key k ≡ false) × (known old k ≡ Some v))
sets_either old new key e sets k v now = by (same_page key k) refl (sym (sets.known_is k) ∙ now)
  where
    by : (b : Bool) → same_page key k ≡ b → cond b (Some e) (known old k) ≡ Some v
        → ((key ≡ k) × (e ≡ v)) ⊎ ((same_page key k ≡ false) × (known old k ≡ Some v))
    by true same is = inl (same_page_is key k same, same_Some e v is)
    by false same is = inr (same, is)

-- what putting an entry into a table says
abbrev pub Puts : (old new : Table) → FilePage → Newest → Bool → Type 0
Puts old new key e done = (HasCapacity old → IsFalse done ↔ ((known old key ≡ None) × (limit_of old ≤ page_len old)))
    × (IsTrue done → SetsEntry old new key e)

-- an entry of a page that has one is put
pub put_done : (old new : Table) (key : FilePage) (was : Newest) (done : Bool) → HasCapacity old
    → known old key ≡ Some was
    → (HasCapacity old → IsFalse done ↔ ((known old key ≡ None) × (limit_of old ≤ page_len old))) → IsTrue done
put_done old new key was true room is full = refl
put_done old new key was false room is full = absurd (none-some was (sym ((full room).0 refl).0 ∙ is))

-- and then the same pages have entries
pub set_entries : (old new : Table) (key : FilePage) (was e : Newest) → known old key ≡ Some was
    → SetsEntry old new key e → limit_of new ≡ limit_of old → SameEntries old new
set_entries old new key was e is sets limit = record {
  has = λ k. ap is_some (sets.known_is k) ∙ by k (same_page key k) refl;
  len = sets.len ∙ (ap (λ o. page_len old + cond (is_some o) 0 1) is ∙ omega arith);
  limit = limit;
}
  where
    by : (k : FilePage) (b : Bool) → same_page key k ≡ b
        → is_some (cond b (Some e) (known old k)) ≡ is_some (known old k)
    by k true same = ap is_some (sym is ∙ ap (λ q. known old q) (same_page_is key k same))
    by k false same = refl

-- nothing is to be filled next
pub as_full : (pages : Pages) (blocks : ℕ) (s : LayerState) → Sound pages blocks s
    → Sound pages blocks (record s { fill = 64 })
as_full pages blocks s sound = record {
  knows = sound.knows;
  tops = sound.tops;
  strays = sound.strays;
  limit = sound.limit;
  files = sound.files;
  measured = sound.measured;
  counted = sound.counted;
  count = sound.count;
  memory = sound.memory;
  within = sound.within;
  is_spare = sound.is_spare;
  agreed = sound.agreed;
  rivals = sound.rivals;
  apart = sound.apart;
  fresh = λ room. absurd (omega (arith, room));
  empty = sound.empty;
}

module _ (pages : Pages) (blocks : ℕ) (s : LayerState) (sound : Sound pages blocks s) (agreed : IsFalse s.has_rivals)
    (key : FilePage) (old : Newest) (is : known s.table key ≡ Some old) (place : FlashPage) (small : place.page < 64)
    (within : place.block < blocks) (apart : place.block ≢ s.spare)
    (there : record_at pages (number place) ≡ record_at pages (number old.place)) (table : Table)
    (sets : SetsEntry s.table table key (record old { place = place })) (limit : limit_of table ≡ limit_of s.table)
    (lens : table.lens ≡ s.table.lens) where
  abbrev n : ℕ
  n = places blocks

  abbrev entry : Newest
  entry = record old { place = place }

  same_len : page_len table ≡ page_len s.table
  same_len = sets.len ∙ (ap (λ o. page_len s.table + cond (is_some o) 0 1) is ∙ omega arith)

  follows : Follows pages n old entry
  follows = record {
    small = small;
    within = omega (arith, small, within);
    sequence = refl;
    len = refl;
    filled = refl;
    there = there;
  }

  says_by : (k : FilePage) (b : Bool) → same_page key k ≡ b
      → LedOf pages n (cond b (Some entry) (known s.table k)) (newest pages k.file k.page n)
  says_by k true same = subst (λ (q : FilePage). LedOf pages n (Some entry) (newest pages q.file q.page n))
      (same_page_is key k same)
      (led_by pages n old entry follows (newest pages key.file key.page n)
      (subst (λ o. LedOf pages n o (newest pages key.file key.page n)) is (sound.knows.led.says key)))
  says_by k false same = sound.knows.led.says k

  led_now : IsLed pages n table
  led_now = record {
    says = λ k. subst (λ o. LedOf pages n o (newest pages k.file k.page n)) (sym (sets.known_is k))
        (says_by k (same_page key k) refl);
    room = sets.room sound.knows.led.room;
    fits = sets.fits sound.knows.led.fits;
  }

  leaves : LeavesOut table s.spare
  leaves k v now = ⊎_elim
      (λ here. subst (λ (q : Newest). q.place.block ≢ s.spare) here.1 apart)
      (λ was. sound.apart agreed k v was.1)
      (sets_either s.table table key entry sets k v now)

  pub inside_now : IsCountedTable blocks s.table → IsInside blocks entry
  inside_now counted = record { place = within; twin = (counted.inside key old is).twin }

  -- what is kept fits when the table leads to an equal record
  pub set_sound : IsCountedTable blocks table → (fill : ℕ)
      → (fill < 64 → HasFreshPage pages blocks (record s { fill = fill }))
      → Sound pages blocks (record s { table = table; fill = fill })
  set_sound counted fill fresh = record {
    knows = record {
      led = led_now;
      lens = λ file. subst (λ l. IsFileLen pages n file (len_in l file)) (sym lens) (sound.knows.lens file);
    };
    tops = sound.tops;
    strays = sound.strays;
    limit = limit ∙ sound.limit;
    files = (let files = sound.files in let same = ap (λ l. spare l) lens in let len = same_len in
        omega (arith, files, same, len, limit));
    measured = λ k v now. subst (λ l. HasLenIn l k.file) (sym lens) (⊎_elim
        (λ here. subst (λ (q : FilePage). HasLen s.table q.file) here.0 (sound.measured key old is))
        (λ was. sound.measured k v was.1)
        (sets_either s.table table key entry sets k v now));
    counted = counted;
    count = same_len ∙ sound.count;
    memory = sound.memory;
    within = sound.within;
    is_spare = spare_of pages n s.spare (led_elsewhere pages n table led_now s.spare leaves);
    agreed = sound.agreed;
    rivals = sound.rivals;
    apart = λ _. leaves;
    fresh = λ room. let f = fresh room in record {
      agreed = f.agreed;
      within = f.within;
      apart = f.apart;
      blank = f.blank;
    };
    empty = sound.empty;
  }

-- ---- a record is added

module _ (m : FlashMedium) (s : LayerState) (from done : ℕ)
    (joining : IsJoining m.state.pages m.blocks s from done) (inside : done < 64) (bytes : List ℕ)
    (read : bytes ≡ m.state.pages from done) where
  -- no entry leads to the page
  pub added_none : ((key : FilePage) (e : Newest) → known s.table key ≡ Some e → e.place.block ≡ from
      → e.place.page ≡ done → ⊥)
      → IsJoining m.state.pages m.blocks s from (done + 1)
  added_none none = record {
    sound = joining.sound;
    agreed = joining.agreed;
    within = joining.within;
    apart = joining.apart;
    blank = joining.blank;
    room = joining.room;
    left = λ key e is block. ⊎_elim
        (λ here. absurd (none key e is block here))
        (λ other. (let le = joining.left key e is block in omega (arith, le, other)))
        (cases_eq e.place.page done);
  }

  module _ (key : FilePage) (old : Newest) (is : known s.table key ≡ Some old) (block : old.place.block ≡ from)
      (page : old.place.page ≡ done) where
    abbrev pages : Pages
    pages = m.state.pages

    abbrev size : ℕ
    size = places m.blocks

    abbrev place : FlashPage
    place = record { block = s.current; page = s.fill }

    here : (x : Placed) × Led m.state.pages (places m.blocks) old x × (page_of x.says ≡ key)
        × (record_in bytes ≡ Some x.says)
    here = says_there m s joining.sound from done inside bytes read key old is block page

    abbrev r : PageRecord
    r = here.0.says

    pub room : s.fill < 64
    room = let some = one_leads s.table key old from is block in let enough = joining.room in
        omega (arith, some, enough)

    fresh : HasFreshPage pages m.blocks s
    fresh = joining.sound.fresh room

    pub within_now : s.current < m.blocks
    within_now = fresh.within

    pub blank_now : pages s.current s.fill ≡ blank_page
    blank_now = fresh.blank

    abbrev idle : LayerState
    idle = record s { fill = 64 }

    idle_sound : Sound pages m.blocks idle
    idle_sound = as_full pages m.blocks s joining.sound

    apart_of : (k : FilePage) (e : Newest) → known s.table k ≡ Some e → number e.place ≢ 64 * s.current + s.fill
    apart_of k e found = λ same.
        let to = record_of pages size s.table joining.sound.knows.led k e found in
        let nothing : record_at pages (64 * s.current + s.fill) ≡ None =
        record_at_place pages s.current s.fill room ∙ (ap record_in blank_now ∙ blank_is_none) in
        none-some to.0.says (sym nothing ∙ (ap (record_at pages) (sym same) ∙ to.1.leads.there))

    left_keeps : (left : Pages) → TornPage s.current s.fill pages left
        → IsPlain pages (program_page pages s.current s.fill bytes) left → KeepsRecords pages left size
    left_keeps = torn_copy pages size (number old.place) place bytes r room blank_now here.3 here.1.within
        here.1.leads.there

    left_sound : (left : Pages) → TornPage s.current s.fill pages left → KeepsRecords pages left size
        → Sound left m.blocks idle
    left_sound left torn keeps = kept_sound pages left m.blocks idle idle_sound joining.agreed keeps
        (λ more. absurd (omega (arith, more)))
        (λ cleared. still_empty pages left s.current s.fill s.spare torn fresh.apart (joining.sound.empty cleared))
        (λ k e found. torn_elsewhere pages s.current s.fill left torn (number e.place) (apart_of k e found))

    abbrev written : Pages
    written = program_page pages s.current s.fill bytes

    written_torn : TornPage s.current s.fill pages written
    written_torn = whole_torn pages s.current s.fill bytes

    written_keeps : KeepsRecords pages written size
    written_keeps = whole_copy pages size (number old.place) place bytes r room blank_now here.3 here.1.within
        here.1.leads.there

    written_sound : Sound written m.blocks idle
    written_sound = left_sound written written_torn written_keeps

    -- a call that failed lost nothing
    pub add_failed_keeps : (now : FlashMedium) → FailsToProgram s.current s.fill bytes m.state now.state
        → KeepsRecords pages now.state.pages size
    add_failed_keeps now failed = left_keeps now.state.pages failed.torn failed.plain

    pub add_failed_sound : (now : FlashMedium) → FailsToProgram s.current s.fill bytes m.state now.state
        → now.blocks ≡ m.blocks → IsSoundLayer now (record s { fill = 64 })
    add_failed_sound now failed blocks = subst (λ b. Sound now.state.pages b idle) (sym blocks)
        (left_sound now.state.pages failed.torn (add_failed_keeps now failed))

    pub add_keeps : (now : FlashMedium) → now.state ≡ programmed m.state s.current s.fill bytes
        → KeepsRecords pages now.state.pages size
    add_keeps now done_now = subst (λ (z : FlashState). KeepsRecords pages z.pages size) (sym done_now) written_keeps

    file_is : r.file ≡ key.file
    file_is = ap (λ (k : FilePage). k.file) here.2

    left_held : (left : Pages) → IsTorn pages left (number place) (Some r) → KeepsRecords pages left size
        → (copy : ℕ) → LeadsOnly s.table copy from → KeepsHeld copy s.current size pages left
    left_held left torn keeps copy only = held_copied pages left copy s.current size
        (keeps_said pages left size (joining.sound.agreed joining.agreed) keeps) (number place) r torn
        (let few = room in let at : number place / 64 ≡ s.current = omega (arith, few) in at)
        (ap copy_of file_is ∙ only key old is block)

    left_is : (left : Pages) → TornPage s.current s.fill pages left
        → IsPlain pages (program_page pages s.current s.fill bytes) left → IsTorn pages left (number place) (Some r)
    left_is left torn plain = subst (IsTorn pages left (number place)) here.3
        (torn_program pages s.current s.fill room blank_now left bytes torn plain)

    written_is : IsTorn pages written (number place) (Some r)
    written_is = record {
      elsewhere = λ j other. torn_elsewhere pages s.current s.fill written written_torn j other;
      here = inr (whole_here pages s.current s.fill room bytes ∙ here.3);
    }

    pub add_does : {T E : Type 0} → (now : FlashMedium) (result : Result T E)
        → OnOk result (now.state ≡ programmed m.state s.current s.fill bytes)
        → OnErr result (FailsToProgram s.current s.fill bytes m.state now.state)
        → EachFlashCase (λ c. IsStill m.state c ⊎ (IsStill now.state c ⊎ ProgramCase s.current s.fill bytes m.state c))
        m now
        → Does (StandsMoved s.table from s.current m) m now
    add_does now result ok failed cases =
        program_does m now (StandsMoved s.table from s.current m) s.current s.fill bytes result ok failed cases
        (moved_now s.table from s.current m s joining.sound)
        (record {
          stands = kept_stands m written idle idle_sound joining.agreed written_keeps written_sound;
          held = left_held written written_is written_keeps;
        })
        (λ left torn plain. record {
          stands = kept_stands m left idle idle_sound joining.agreed (left_keeps left torn plain)
              (left_sound left torn (left_keeps left torn plain));
          held = left_held left (left_is left torn plain) (left_keeps left torn plain);
        })

    module _ (table : Table) (sets : SetsEntry s.table table key (record old { place = place })) where
      -- the entry leads elsewhere now
      pub added_fewer : LeadsFewer s.table table from
      added_fewer k v now at = ⊎_elim
          (λ set. absurd (joining.apart (sym at ∙ ap (λ (q : Newest). q.place.block) (sym set.1))))
          (λ was. was.1)
          (sets_either s.table table key (record old { place = place }) sets k v now)

      added_left : ((k : FilePage) (e : Newest) → known s.table k ≡ Some e → e.place.block ≡ from
          → e.place.page ≡ done → key ≡ k) → (k : FilePage) (v : Newest) → known table k ≡ Some v
          → v.place.block ≡ from → done + 1 ≤ v.place.page
      added_left one k v now at = ⊎_elim
          (λ set. absurd (joining.apart (sym at ∙ ap (λ (q : Newest). q.place.block) (sym set.1))))
          (λ was. ⊎_elim
          (λ last. absurd (true≢false (sym (same_page_refl key) ∙ (ap (same_page key) (one k v was.1 at last)
          ∙ was.0))))
          (λ other. (let le = joining.left k v was.1 at in omega (arith, le, other)))
          (cases_eq v.place.page done))
          (sets_either s.table table key (record old { place = place }) sets k v now)

      -- one record more is added
      pub added_one : (now : FlashMedium) → now.state ≡ programmed m.state s.current s.fill bytes
          → now.blocks ≡ m.blocks
          → ((k : FilePage) (e : Newest) → known s.table k ≡ Some e → e.place.block ≡ from → e.place.page ≡ done
          → key ≡ k)
          → limit_of table ≡ limit_of s.table → table.lens ≡ s.table.lens
          → (IsCountedTable m.blocks s.table → IsInside m.blocks (record old { place = place })
          → IsCountedTable m.blocks table)
          → entries_in table from + had_in from (known s.table key)
          ≡ entries_in s.table from + leads_into from (record old { place = place })
          → (fill : ℕ) → fill ≡ s.fill + 1 → (t : LayerState) → t ≡ record s { table = table; fill = fill }
          → IsJoining now.state.pages now.blocks t from (done + 1)
      added_one now done_now blocks one limit lens counted sum fill fill_is t state =
          let copied : record_at written (number place) ≡ record_at written (number old.place) =
          whole_here pages s.current s.fill room bytes ∙ (here.3
          ∙ (sym here.1.leads.there ∙ sym (torn_elsewhere pages s.current s.fill written written_torn
          (number old.place) (apart_of key old is)))) in
          let blank : (p : ℕ) → fill ≤ p → p < 64 → written s.current p ≡ blank_page = λ p past small.
          written_torn s.current p (inr (λ same. omega (arith, past, same, fill_is)))
          ∙ joining.blank p (omega (arith, past, fill_is)) small in
          let inside_table = inside_now written m.blocks idle written_sound joining.agreed key old is place room
          fresh.within fresh.apart copied table sets limit lens joining.sound.counted in
          subst (λ b. IsJoining now.state.pages b t from (done + 1)) (sym blocks)
          (subst (λ (z : FlashState). IsJoining z.pages m.blocks t from (done + 1)) (sym done_now)
          (subst (λ (q : LayerState). IsJoining written m.blocks q from (done + 1)) (sym state) (record {
            sound = set_sound written m.blocks idle written_sound joining.agreed key old is place room fresh.within
                fresh.apart copied table sets limit lens (counted joining.sound.counted inside_table) fill
                (λ more. record {
                  agreed = joining.agreed;
                  within = fresh.within;
                  apart = fresh.apart;
                  blank = blank fill (omega arith) more;
                });
            agreed = joining.agreed;
            within = joining.within;
            apart = joining.apart;
            blank = blank;
            room = (let less = put_one_less s.table table key old (record old { place = place }) from is block
                (λ same. joining.apart (sym same)) sum in
                let enough = joining.room in omega (arith, less, enough, fill_is));
            left = added_left one;
          })))

-- ---- a page was read before

module _ (m look : FlashMedium) (same : look.state ≡ m.state) (blocks : look.blocks ≡ m.blocks) where
  -- what was being added still is
  pub look_joining : (s t : LayerState) → t ≡ s → (from done : ℕ) → IsJoining m.state.pages m.blocks s from done
      → IsJoining look.state.pages look.blocks t from done
  look_joining s t state from done joining = subst (λ (q : LayerState).
      IsJoining look.state.pages look.blocks q from done) (sym state)
      (subst (λ b. IsJoining look.state.pages b s from done) (sym blocks)
      (subst (λ (z : FlashState). IsJoining z.pages m.blocks s from done) (sym same) joining))

-- ---- tables one after the other

pub fewer_refl : (table : Table) (block : ℕ) → LeadsFewer table table block
fewer_refl table block key e is at = is

pub fewer_then : (a b c : Table) (block : ℕ) → LeadsFewer a b block → LeadsFewer b c block → LeadsFewer a c block
fewer_then a b c block first second key e is at = first key e (second key e is at) at

pub fewer_only : (old new : Table) (block copy : ℕ) → LeadsFewer old new block → LeadsOnly old copy block
    → LeadsOnly new copy block
fewer_only old new block copy fewer only key e is at = only key e (fewer key e is at) at

-- when all pages of a block were seen to no entry leads into it
pub joined_out : (pages : Pages) (blocks : ℕ) (s : LayerState) (from done : ℕ) → IsJoining pages blocks s from done
    → 64 ≤ done → LeavesOut s.table from
joined_out pages blocks s from done joining all key e is at =
    let small = (record_of pages (places blocks) s.table joining.sound.knows.led key e is).1.leads.small in
    let past = joining.left key e is at in absurd (omega (arith, small, past, all))

-- what a step did with the entries that were left the whole does with all
pub fewer_does : (old table : Table) (from to : ℕ) (a b : FlashMedium) → LeadsFewer old table from
    → Does (StandsMoved table from to a) a b → Does (StandsMoved old from to a) a b
fewer_does old table from to a b fewer = does_weaken a b (StandsMoved table from to a) (StandsMoved old from to a)
    (λ pages moved. record {
      stands = moved.stands;
      held = λ copy only. moved.held copy (fewer_only old table from copy fewer only);
    })

-- two blocks that may be joined have room in one
pub pair_room : (blocks : ℕ) (table : Table) (spare first second : ℕ) → IsCountedTable blocks table
    → IsPair table spare first second
    → (second < blocks) × (entries_in table first + entries_in table second ≤ 64)
pair_room blocks table spare first second counted pair =
    let same = counted.blocks_are in
    let within = pair.within in
    let second_within = pair.second_within in
    let below : second < blocks = omega (arith, same, second_within) in
    let one = counted.counts first (omega (arith, same, within)) in
    let other = counted.counts second below in
    let few = pair.few in (below, omega (arith, one, other, few))

-- a page that had a place has one where the same pages have entries
pub place_stays : (old new : Table) → SameEntries old new → (key : FilePage) → HasPlace old key → HasPlace new key
place_stays old new same key has = ⊎_elim
    (λ some. inl (same.has key ∙ some))
    (λ more. (let len = same.len in let limit = same.limit in inr (omega (arith, more, len, limit))))
    has
