-- Records are copied to the start of the spare block one by one, and nothing that counts changes.
use Rattle.std.proofs.Common.{◌≡◌, ◌≢◌, ◌⊎◌, ℕ, ◌+◌, ◌*◌, ◌/◌, ◌<◌, ◌≤◌, Bool, true, false, slice_index_or}
use Rattle.std.proofs.Common.{List, [], ◌∷◌, ◌++◌, length, Result, Ok, Err, OnOk, OnErr, refl, sym, ap, subst, ◌∙◌}
use Rattle.std.proofs.Common.{inl, inr, ⊎_elim, arith, eq-eqb, length-append}
use Rattle.std.specs.Prelude.{Option, Some, None, IsTrue, IsFalse, All, nat_eq, ◌&&◌, not, vec_capacity}
use Rattle.std.proofs.lemmas.Bool.{cases_lt, cases_Bool, eqb-true, and_parts, and_from, true≢false}
use Rattle.std.proofs.lemmas.Option.{same_Some}
use Rattle.std.proofs.lemmas.List.Elements.{All-push}
use Rattle.flash_model.specs.Pages.{Pages, TornPage, IsPlain, program_page, blank_page}
use Rattle.flash_model.specs.State.{FlashState, IsStill, ProgramCase, FailsToProgram}
use Rattle.flash_model.specs.State.{programmed}
use Rattle.flash_model.specs.FlashMedium.{FlashMedium, FlashElapses, EachFlashCase}
use Rattle.flash_record.specs.PageRecord.{PageRecord, record_in}
use Rattle.flash_disk.specs.declared.table.FilePage.{FilePage}
use Rattle.flash_disk.specs.declared.table.FlashPage.{FlashPage}
use Rattle.flash_disk.specs.declared.table.Newest.{Newest}
use Rattle.flash_disk.specs.declared.table.Table.{Table}
use Rattle.flash_disk.specs.declared.layer.LayerState.{LayerState}
use Rattle.flash_disk.specs.Newest.{Placed, record_at, newest, places}
use Rattle.flash_disk.specs.FlashFiles.{file_byte}
use Rattle.flash_disk.specs.Known.{same_page, page_of, known}
use Rattle.flash_disk.specs.Learnt.{number, Led, LedOf, IsLed, HasPlace}
use Rattle.flash_disk.specs.Does.{Does}
use Rattle.flash_disk.specs.Standing.{DenotesFiles, KeepsRecords}
use Rattle.flash_disk.specs.Sound.{Sound, IsSoundLayer, HasFreshPage, FitsIn, MayBeAdded, ShowsSame}
use Rattle.flash_disk.specs.Emptied.{IsEmptyBlock}
use Rattle.flash_disk.specs.Moving.{IsMoved, HasKey, IsMoving, StandsMoved}
use Rattle.flash_disk.specs.Apart.{copy_of, KeepsHeld}
use Rattle.flash_disk.specs.LedApart.{LeadsOnly}
use Rattle.flash_disk.proofs.Learning.{record_at_place, same_page_refl}
use Rattle.flash_disk.proofs.Standing.{is_newest_of, keeps_said, keeps_agreed, keeps_strayless, keeps_tops, keeps_known}
use Rattle.flash_disk.proofs.Standing.{keeps_files, keeps_refl, keeps_then, keeps_byte, keeps_len, keeps_may_grow}
use Rattle.flash_disk.proofs.Sparing.{led_elsewhere, spare_of}
use Rattle.flash_disk.proofs.Tearing.{IsTorn, torn_program, torn_elsewhere, torn_copy, whole_copy}
use Rattle.flash_disk.proofs.Tearing.{whole_torn, whole_here}
use Rattle.flash_disk.proofs.Stretches.{does_then, does_weaken, does_nothing, program_does}
use Rattle.flash_disk.proofs.Entering.{as_said, sound_usable}
use Rattle.flash_disk.proofs.PageCount.{count_keeps}
use Rattle.flash_disk.proofs.Holding.{held_refl, held_then, held_copied}

-- the newest record of a page to which an entry leads
by_best : (pages : Pages) (n : ℕ) (key : FilePage) (e : Newest) (best : Option Placed)
    → newest pages key.file key.page n ≡ best → LedOf pages n (Some e) best
    → (x : Placed) × (newest pages key.file key.page n ≡ Some x) × Led pages n e x
by_best pages n key e None is led = absurd led
by_best pages n key e (Some x) is led = (x, is, led)

pub record_of : (pages : Pages) (n : ℕ) (table : Table) → IsLed pages n table → (key : FilePage) (e : Newest)
    → known table key ≡ Some e
    → (x : Placed) × Led pages n e x × (page_of x.says ≡ key)
record_of pages n table led key e is =
    let found = by_best pages n key e (newest pages key.file key.page n) refl
    (subst (λ o. LedOf pages n o (newest pages key.file key.page n)) is (led.says key)) in
    let newest_is = is_newest_of pages key.file key.page n found.0 found.1 in
    let parts = and_parts (nat_eq found.0.says.file key.file) (nat_eq found.0.says.page key.page) newest_is.of_page in
    let file : found.0.says.file ≡ key.file = eqb-true found.0.says.file key.file parts.0 in
    let page : found.0.says.page ≡ key.page = eqb-true found.0.says.page key.page parts.1 in (
      found.0,
      found.2,
      ap (λ f. let k : FilePage = record { file = f; page = found.0.says.page } in k) file
          ∙ ap (λ p. let k : FilePage = record { file = key.file; page = p } in k) page,
    )

-- what counts is kept, and what the table leads to stands where it stood
pub kept_sound : (old new : Pages) (blocks : ℕ) (s : LayerState) → Sound old blocks s → IsFalse s.has_rivals
    → KeepsRecords old new (places blocks) → (s.fill < 64 → HasFreshPage new blocks s)
    → (IsTrue s.cleared → IsEmptyBlock new s.spare)
    → ((key : FilePage) (e : Newest) → known s.table key ≡ Some e
    → record_at new (number e.place) ≡ record_at old (number e.place)) → Sound new blocks s
kept_sound old new blocks s sound agreed keeps fresh empty there =
    let n = places blocks in
    let all_agree = sound.agreed agreed in
    let knows = keeps_known old new n all_agree keeps s.table there sound.knows in record {
      knows = knows;
      tops = keeps_tops old new n keeps s.sequence sound.tops;
      strays = keeps_strayless old new n all_agree keeps s.stray_end sound.strays;
      limit = sound.limit;
      files = sound.files;
      measured = sound.measured;
      counted = sound.counted;
      count = sound.count ∙ sym (count_keeps old new n keeps);
      memory = sound.memory;
      within = sound.within;
      is_spare = spare_of new n s.spare (led_elsewhere new n s.table knows.led s.spare (sound.apart agreed));
      agreed = λ _. keeps_agreed old new n all_agree keeps;
      rivals = λ has_rivals. absurd (true≢false (sym has_rivals ∙ agreed));
      apart = sound.apart;
      fresh = fresh;
      empty = empty;
    }

-- the pages denote the files that they denoted
pub kept_stands : (m : FlashMedium) (new : Pages) (s : LayerState) → IsSoundLayer m s → IsFalse s.has_rivals
    → KeepsRecords m.state.pages new (places m.blocks) → Sound new m.blocks s
    → DenotesFiles m new
kept_stands m new s sound agreed keeps now = record {
  files_are = keeps_files m.state.pages new m.blocks (sound.agreed agreed) keeps;
  usable = sound_usable new m.blocks s now;
  agreed = λ all. keeps_agreed m.state.pages new (places m.blocks) all keeps;
}

pub stands_now : (m : FlashMedium) (s : LayerState) → IsSoundLayer m s → DenotesFiles m m.state.pages
stands_now m s sound = record {
  files_are = refl;
  usable = sound_usable m.state.pages m.blocks s sound;
  agreed =
      λ all. all;
}

-- what the pages denote since a flash they denote since the one before it
stands_since : (a b : FlashMedium) → b.blocks ≡ a.blocks → DenotesFiles a b.state.pages → (pages : Pages)
    → DenotesFiles b pages → DenotesFiles a pages
stands_since a b blocks mid pages stands =
    let over = subst (λ k. DenotesFiles (record b { blocks = k }) pages) blocks stands in record {
      files_are = over.files_are ∙ mid.files_are;
      usable = over.usable;
      agreed = λ all. over.agreed (mid.agreed all);
    }

-- one stretch after the other
pub stands_then : (a b c : FlashMedium) → FlashElapses a b → FlashElapses b c → Does (DenotesFiles a) a b
    → Does (DenotesFiles b) b c → Does (DenotesFiles a) a c
stands_then a b c first second early late =
    does_then a b c (DenotesFiles a) first second early (does_weaken b c (DenotesFiles b) (DenotesFiles a)
    (stands_since a b first.blocks early.now) late)

-- nothing was moved yet
pub moved_now : (table : Table) (from to : ℕ) (m : FlashMedium) (s : LayerState) → IsSoundLayer m s
    → StandsMoved table from to m m.state.pages
moved_now table from to m s sound = record {
  stands = stands_now m s sound;
  held = λ copy only. held_refl copy to (places m.blocks) m.state.pages;
}

pub moved_stands : (table : Table) (from to : ℕ) (a b : FlashMedium) → Does (StandsMoved table from to a) a b
    → Does (DenotesFiles a) a b
moved_stands table from to a b = does_weaken a b (StandsMoved table from to a) (DenotesFiles a) (λ pages moved.
    moved.stands)

pub moved_held : (table : Table) (from to copy : ℕ) (a b : FlashMedium) → LeadsOnly table copy from
    → Does (StandsMoved table from to a) a b → Does (KeepsHeld copy to (places a.blocks) a.state.pages) a b
moved_held table from to copy a b only = does_weaken a b (StandsMoved table from to a)
    (KeepsHeld copy to (places a.blocks) a.state.pages) (λ pages moved. moved.held copy only)

-- one stretch after the other
pub moved_then : (table : Table) (from to : ℕ) (a b c : FlashMedium) → FlashElapses a b → FlashElapses b c
    → Does (StandsMoved table from to a) a b → Does (StandsMoved table from to b) b c
    → Does (StandsMoved table from to a) a c
moved_then table from to a b c first second early late =
    does_then a b c (StandsMoved table from to a) first second early
    (does_weaken b c (StandsMoved table from to b) (StandsMoved table from to a)
    (λ pages moved. record {
      stands = stands_since a b first.blocks early.now.stands pages moved.stands;
      held = λ copy only. held_then copy to (places a.blocks) a.state.pages b.state.pages pages
          (early.now.held copy only)
          (subst (λ k. KeepsHeld copy to (places k) b.state.pages pages) first.blocks (moved.held copy only));
    })
    late)

-- ---- a record is copied

both_same : (a b x y : ℕ) → a ≡ b → x ≡ y → (nat_eq a b && nat_eq x y) ≡ true
both_same a b x y left right = and_from (nat_eq a b) (nat_eq x y) (eq-eqb a b left) (eq-eqb x y right)

-- what was found twice is the same
pub found_same : (result : Option (FilePage × Newest)) (key k : FilePage) (old e : Newest) → result ≡ Some (key, old)
    → result ≡ Some (k, e) → (key ≡ k) × (old ≡ e)
found_same result key k old e one other = let same : (key, old) ≡ (k, e) =
    same_Some (key, old) (k, e) (sym one ∙ other) in
    (ap (λ (q : FilePage × Newest). q.0) same, ap (λ (q : FilePage × Newest). q.1) same)

-- what holds anyway holds of an error
pub on_err : {T E P : Type 0} → (result : Result T E) → P → OnErr result P
on_err (Ok x) p = tt
on_err (Err e) p = p

-- two places that differ, or do not
pub differ : (a b x y : ℕ) (ne : Bool) → ne ≡ not (nat_eq a b && nat_eq x y) → ne ≡ true → a ≡ b → x ≡ y → ⊥
differ a b x y ne is differs left right = true≢false (sym differs ∙ (is ∙ ap not (both_same a b x y left right)))

pub same_places : (a b x y : ℕ) (ne : Bool) → ne ≡ not (nat_eq a b && nat_eq x y) → ne ≡ false → (a ≡ b) × (x ≡ y)
same_places a b x y ne is same = ⊎_elim
    (λ both. (let parts = and_parts (nat_eq a b) (nat_eq x y) both in (eqb-true a b parts.0, eqb-true x y parts.1)))
    (λ other. absurd (true≢false (sym (is ∙ ap not other) ∙ same)))
    (cases_Bool (nat_eq a b && nat_eq x y))

-- a page to which an entry leads was read
module _ (m : FlashMedium) (s : LayerState) (sound : IsSoundLayer m s) (from done : ℕ) (inside : done < 64)
    (bytes : List ℕ) (read : bytes ≡ m.state.pages from done) where
  -- what it says
  pub says_there : (key : FilePage) (e : Newest) → known s.table key ≡ Some e → e.place.block ≡ from
      → e.place.page ≡ done
      → (x : Placed) × Led m.state.pages (places m.blocks) e x × (page_of x.says ≡ key)
      × (record_in bytes ≡ Some x.says)
  says_there key e is block page =
      let found = record_of m.state.pages (places m.blocks) s.table sound.knows.led key e is in
      let at : 64 * from + done ≡ number e.place = omega (arith, block, page) in (
        found.0,
        found.1,
        found.2,
        ap record_in read ∙ (sym (record_at_place m.state.pages from done inside)
            ∙ (ap (record_at m.state.pages) at ∙ found.1.leads.there)),
      )

  -- the newest record that is looked up for it
  pub found_there : (result : Option (FilePage × Newest))
      → ((r : PageRecord) (e : Newest) → record_in bytes ≡ Some r → known s.table (page_of r) ≡ Some e
      → result ≡ Some (page_of r, e))
      → (key : FilePage) (e : Newest) → known s.table key ≡ Some e → e.place.block ≡ from → e.place.page ≡ done
      → result ≡ Some (key, e)
  found_there result found key e is block page =
      let says = says_there key e is block page in
      subst (λ k. result ≡ Some (k, e)) says.2 (found says.0.says e says.3
      (subst (λ k. known s.table k ≡ Some e) (sym says.2) is))

module _ (m : FlashMedium) (s : LayerState) (from to done : ℕ) (moving : IsMoving m.state.pages m.blocks s from to done)
    (inside : done < 64)
    (bytes : List ℕ) (read : bytes ≡ m.state.pages from done) where
  page_says : (key : FilePage) (e : Newest) → known s.table key ≡ Some e → e.place.block ≡ from → e.place.page ≡ done
      → (x : Placed) × Led m.state.pages (places m.blocks) e x × (page_of x.says ≡ key)
      × (record_in bytes ≡ Some x.says)
  page_says = says_there m s moving.sound from done inside bytes read

  pub looked_up : (result : Option (FilePage × Newest))
      → ((r : PageRecord) (e : Newest) → record_in bytes ≡ Some r → known s.table (page_of r) ≡ Some e
      → result ≡ Some (page_of r, e))
      → (key : FilePage) (e : Newest) → known s.table key ≡ Some e → e.place.block ≡ from → e.place.page ≡ done
      → result ≡ Some (key, e)
  looked_up = found_there m s moving.sound from done inside bytes read

  -- no entry leads to the page
  pub passed_over : ((key : FilePage) (e : Newest) → known s.table key ≡ Some e → e.place.block ≡ from
      → e.place.page ≡ done → ⊥)
      → IsMoving m.state.pages m.blocks s from to (done + 1)
  passed_over none = record {
    sound = moving.sound;
    agreed = moving.agreed;
    uncleared = moving.uncleared;
    full = moving.full;
    spare = moving.spare;
    within = moving.within;
    apart = moving.apart;
    count = (let le = moving.count in omega (arith, le));
    blank = moving.blank;
    moved = moving.moved;
    all = λ key e is block below. ⊎_elim
        (λ before. moving.all key e is block before)
        (λ past. absurd (none key e is block (let same : e.place.page ≡ done = omega (arith, past, below) in same)))
        (cases_lt e.place.page done);
  }

  module _ (key : FilePage) (old : Newest) (is : known s.table key ≡ Some old) (block : old.place.block ≡ from)
      (page : old.place.page ≡ done)
      (count : ℕ) (count_is : count ≡ length s.moved.items) where
    abbrev place : FlashPage
    place = record { block = to; page = count }

    abbrev r : PageRecord
    r = (page_says key old is block page).0.says

    abbrev led : Led m.state.pages (places m.blocks) old (page_says key old is block page).0
    led = (page_says key old is block page).1

    small : count < 64
    small = let le = moving.count in omega (arith, le, inside, count_is)

    blank : m.state.pages to count ≡ blank_page
    blank = moving.blank count (omega (arith, count_is)) small

    apart_of : (k : FilePage) (e : Newest) → known s.table k ≡ Some e → number e.place ≢ 64 * to + count
    apart_of k e found = λ same.
        let small_e = (record_of m.state.pages (places m.blocks) s.table moving.sound.knows.led k e found).1.leads.small
        in
        let spare = moving.spare in
        moving.sound.apart moving.agreed k e found (let b : e.place.block ≡ s.spare =
        omega (arith, same, small_e, small, spare) in b)

    left_keeps : (left : Pages) → TornPage to count m.state.pages left
        → IsPlain m.state.pages (program_page m.state.pages to count bytes) left
        → KeepsRecords m.state.pages left (places m.blocks)
    left_keeps = torn_copy m.state.pages (places m.blocks) (number old.place) place bytes r small blank
        (page_says key old is block page).3 led.within led.leads.there

    left_sound : (left : Pages) → TornPage to count m.state.pages left
        → KeepsRecords m.state.pages left (places m.blocks)
        → Sound left m.blocks s
    left_sound left torn keeps = kept_sound m.state.pages left m.blocks s moving.sound moving.agreed keeps
        (λ room. let full = moving.full in absurd (omega (arith, room, full)))
        (λ cleared. absurd (true≢false (sym cleared ∙ moving.uncleared)))
        (λ k e found. torn_elsewhere m.state.pages to count left torn (number e.place) (apart_of k e found))

    abbrev written : Pages
    written = program_page m.state.pages to count bytes

    written_torn : TornPage to count m.state.pages written
    written_torn = whole_torn m.state.pages to count bytes

    written_keeps : KeepsRecords m.state.pages written (places m.blocks)
    written_keeps = whole_copy m.state.pages (places m.blocks) (number old.place) place bytes r small blank
        (page_says key old is block page).3 led.within led.leads.there

    -- a call that failed lost nothing
    pub copy_failed_keeps : (now : FlashMedium) → FailsToProgram to count bytes m.state now.state
        → KeepsRecords m.state.pages now.state.pages (places m.blocks)
    copy_failed_keeps now failed = left_keeps now.state.pages failed.torn failed.plain

    pub copy_failed_sound : (now : FlashMedium) → FailsToProgram to count bytes m.state now.state
        → now.blocks ≡ m.blocks → IsSoundLayer now s
    copy_failed_sound now failed blocks = subst (λ b. Sound now.state.pages b s) (sym blocks)
        (left_sound now.state.pages failed.torn (copy_failed_keeps now failed))

    pub copy_keeps_all : (now : FlashMedium) → now.state ≡ programmed m.state to count bytes
        → KeepsRecords m.state.pages now.state.pages (places m.blocks)
    copy_keeps_all now done_now = subst (λ (z : FlashState). KeepsRecords m.state.pages z.pages (places m.blocks))
        (sym done_now) written_keeps

    pub copy_sound : (now : FlashMedium) → now.state ≡ programmed m.state to count bytes → now.blocks ≡ m.blocks
        → IsSoundLayer now s
    copy_sound now done_now blocks = subst (λ b. Sound now.state.pages b s) (sym blocks)
        (subst (λ (z : FlashState). Sound z.pages m.blocks s) (sym done_now)
        (left_sound written written_torn written_keeps))

    file_is : r.file ≡ key.file
    file_is = ap (λ (k : FilePage). k.file) (page_says key old is block page).2

    left_held : (left : Pages) → IsTorn m.state.pages left (number place) (Some r)
        → KeepsRecords m.state.pages left (places m.blocks) → (copy : ℕ) → LeadsOnly s.table copy from
        → KeepsHeld copy to (places m.blocks) m.state.pages left
    left_held left torn keeps copy only = held_copied m.state.pages left copy to (places m.blocks)
        (keeps_said m.state.pages left (places m.blocks) (moving.sound.agreed moving.agreed) keeps) (number place) r
        torn
        (let few = small in let here : number place / 64 ≡ to = omega (arith, few) in here)
        (ap copy_of file_is ∙ only key old is block)

    left_is : (left : Pages) → TornPage to count m.state.pages left
        → IsPlain m.state.pages (program_page m.state.pages to count bytes) left
        → IsTorn m.state.pages left (number place) (Some r)
    left_is left torn plain = subst (IsTorn m.state.pages left (number place))
        (page_says key old is block page).3
        (torn_program m.state.pages to count small blank left bytes torn plain)

    written_is : IsTorn m.state.pages written (number place) (Some r)
    written_is = record {
      elsewhere = λ j apart. torn_elsewhere m.state.pages to count written written_torn j apart;
      here = inr (whole_here m.state.pages to count small bytes ∙ (page_says key old is block page).3);
    }

    pub copy_does : {T E : Type 0} → (now : FlashMedium) (result : Result T E)
        → OnOk result (now.state ≡ programmed m.state to count bytes)
        → OnErr result (FailsToProgram to count bytes m.state now.state)
        → EachFlashCase (λ c. IsStill m.state c ⊎ (IsStill now.state c ⊎ ProgramCase to count bytes m.state c)) m now
        → Does (StandsMoved s.table from to m) m now
    copy_does now result ok failed cases =
        program_does m now (StandsMoved s.table from to m) to count bytes result ok failed cases
        (moved_now s.table from to m s moving.sound)
        (record {
          stands = kept_stands m written s moving.sound moving.agreed written_keeps
              (left_sound written written_torn written_keeps);
          held = left_held written written_is written_keeps;
        })
        (λ left torn plain. record {
          stands = kept_stands m left s moving.sound moving.agreed (left_keeps left torn plain)
              (left_sound left torn (left_keeps left torn plain));
          held = left_held left (left_is left torn plain) (left_keeps left torn plain);
        })

    abbrev pub moved_entry : FilePage × Newest
    moved_entry = (key, record old { place = place })

    still_moved : (e : FilePage × Newest) → IsMoved m.state.pages s.table from to count e
        → IsMoved written s.table from to (count + 1) e
    still_moved e was = record {
      old = was.old;
      known_is = was.known_is;
      came = was.came;
      entry = was.entry;
      block = was.block;
      front = (let lt = was.front in omega (arith, lt));
      copy = torn_elsewhere m.state.pages to count written written_torn (number e.1.place)
          (λ same. let lt = was.front in let b = was.block in absurd (omega (arith, same, lt, b)))
          ∙ (was.copy ∙ sym (torn_elsewhere m.state.pages to count written written_torn (number was.old.place)
          (apart_of e.0 was.old was.known_is)));
    }

    one_moved : IsMoved written s.table from to (count + 1) moved_entry
    one_moved = record {
      old = old;
      known_is = is;
      came = block;
      entry = refl;
      block = refl;
      front = omega arith;
      copy = whole_here m.state.pages to count small bytes ∙ ((page_says key old is block page).3
          ∙ (sym led.leads.there ∙ sym (torn_elsewhere m.state.pages to count written written_torn (number old.place)
          (apart_of key old is))));
    }

    keys_push : (k : FilePage) (es : List (FilePage × Newest)) (e : FilePage × Newest)
        → HasKey k es ⊎ (same_page e.0 k ≡ true) → HasKey k (es ++ e ∷ [])
    keys_push k [] e has = ⊎_elim (λ none. absurd none) (λ here. inl here) has
    keys_push k (f ∷ fs) e has = ⊎_elim
        (λ before. ⊎_elim (λ here. inl here) (λ later. inr (keys_push k fs e (inl later))) before)
        (λ here. inr (keys_push k fs e (inr here)))
        has

    -- one record more is copied
    pub copied : (now : FlashMedium) → now.state ≡ programmed m.state to count bytes → now.blocks ≡ m.blocks
        → ((k : FilePage) (e : Newest) → known s.table k ≡ Some e → e.place.block ≡ from → e.place.page ≡ done
        → key ≡ k)
        → (t : LayerState) → t ≡ record s { moved = t.moved } → vec_capacity s.moved ≤ vec_capacity t.moved
        → t.moved.items ≡ s.moved.items ++ moved_entry ∷ []
        → IsMoving now.state.pages now.blocks t from to (done + 1)
    copied now done_now blocks one t state memory items =
        let added = length-append s.moved.items (moved_entry ∷ []) in let all_items = ap (λ l. length l) items in
        let long : length t.moved.items ≡ count + 1 = omega (arith, added, all_items, count_is) in
        subst (λ b. IsMoving now.state.pages b t from to (done + 1)) (sym blocks)
        (subst (λ (z : FlashState). IsMoving z.pages m.blocks t from to (done + 1)) (sym done_now) (record {
          sound = subst (Sound written m.blocks) (sym state)
              (as_said written m.blocks s (record s { moved = t.moved }) (left_sound written written_torn written_keeps)
              memory);
          agreed = subst (λ (q : LayerState). IsFalse q.has_rivals) (sym state) moving.agreed;
          uncleared = subst (λ (q : LayerState). IsFalse q.cleared) (sym state) moving.uncleared;
          full = subst (λ (q : LayerState). 64 ≤ q.fill) (sym state) moving.full;
          spare = subst (λ (q : LayerState). q.spare ≡ to) (sym state) moving.spare;
          within = moving.within;
          apart = moving.apart;
          count = (let le = moving.count in omega (arith, long, le, count_is));
          blank = λ p past below. written_torn to p (inr (λ same. omega (arith, past, long, same)))
              ∙ moving.blank p (omega (arith, past, long, count_is)) below;
          moved = subst (λ (table : Table). All (IsMoved written table from to (length t.moved.items)) t.moved.items)
              (ap (λ (q : LayerState). q.table) (sym state))
              (subst (λ l. All (IsMoved written s.table from to l) t.moved.items) (sym long)
              (subst (All (IsMoved written s.table from to (count + 1))) (sym items)
              (All-push (IsMoved written s.table from to (count + 1)) s.moved.items moved_entry
              (λ k d within. still_moved (slice_index_or s.moved.items k d)
              (subst (λ l. IsMoved m.state.pages s.table from to l (slice_index_or s.moved.items k d)) (sym count_is)
              (moving.moved k d within))) one_moved)));
          all = λ k e found at below.
              (let found_was : known s.table k ≡ Some e = subst (λ (q : LayerState). known q.table k ≡ Some e) state
              found in
              subst (HasKey k) (sym items) (keys_push k s.moved.items moved_entry (⊎_elim
              (λ before. inl (moving.all k e found_was at before))
              (λ past. inr (subst (λ q. same_page key q ≡ true)
              (one k e found_was at (let same : e.place.page ≡ done = omega (arith, past, below) in same))
              (same_page_refl key)))
              (cases_lt e.place.page done))));
        }))

-- ---- a page was read before

module _ (m look : FlashMedium) (same : look.state ≡ m.state) (blocks : look.blocks ≡ m.blocks) where
  -- what was being moved still is
  pub looked : (s t : LayerState) → t ≡ s → (from to done : ℕ) → IsMoving m.state.pages m.blocks s from to done
      → IsMoving look.state.pages look.blocks t from to done
  looked s t state from to done moving = subst (λ (q : LayerState).
      IsMoving look.state.pages look.blocks q from to done) (sym state)
      (subst (λ b. IsMoving look.state.pages b s from to done) (sym blocks)
      (subst (λ (z : FlashState). IsMoving z.pages m.blocks s from to done) (sym same) moving))

  pub look_keeps : KeepsRecords m.state.pages look.state.pages (places m.blocks)
  look_keeps = subst (λ (z : FlashState). KeepsRecords m.state.pages z.pages (places m.blocks)) (sym same)
      (keeps_refl m.state.pages (places m.blocks))

  -- what was kept since is kept
  pub keeps_since : (after : Pages) → KeepsRecords look.state.pages after (places look.blocks)
      → KeepsRecords m.state.pages after (places m.blocks)
  keeps_since after keeps = subst (λ (z : FlashState). KeepsRecords z.pages after (places m.blocks)) same
      (subst (λ b. KeepsRecords look.state.pages after (places b)) blocks keeps)

  pub look_stands : EachFlashCase (IsStill m.state) m look → (s : LayerState) → IsSoundLayer m s
      → Does (DenotesFiles m) m look
  look_stands still s sound = does_nothing m look (DenotesFiles m) same still (stands_now m s sound)

  pub look_moved : (table : Table) (from to : ℕ) → EachFlashCase (IsStill m.state) m look → (s : LayerState)
      → IsSoundLayer m s → Does (StandsMoved table from to m) m look
  look_moved table from to still s sound = does_nothing m look (StandsMoved table from to m) same still
      (moved_now table from to m s sound)

-- what was kept in one stretch after the other
pub keeps_on : (m mid : FlashMedium) (s : LayerState) → IsSoundLayer m s → IsFalse s.has_rivals → mid.blocks ≡ m.blocks
    → KeepsRecords m.state.pages mid.state.pages (places m.blocks)
    → (after : Pages) → KeepsRecords mid.state.pages after (places mid.blocks)
    → KeepsRecords m.state.pages after (places m.blocks)
keeps_on m mid s sound agreed blocks keeps after then =
    keeps_then m.state.pages mid.state.pages (places m.blocks) (sound.agreed agreed) keeps after
    (subst (λ b. KeepsRecords mid.state.pages after (places b)) blocks then)

-- no byte changed
pub shows_same : (m now : FlashMedium) (s : LayerState) → IsSoundLayer m s → IsFalse s.has_rivals
    → KeepsRecords m.state.pages now.state.pages (places m.blocks) → now.blocks ≡ m.blocks
    → ShowsSame m now
shows_same m now s sound agreed keeps blocks f i =
    subst (λ b. file_byte now.state.pages (places b) f i ≡ file_byte m.state.pages (places m.blocks) f i) (sym blocks)
    (keeps_byte m.state.pages now.state.pages (places m.blocks) (sound.agreed agreed) keeps f i)

-- a record that might be added still may
pub fits_kept : (m now : FlashMedium) (s t : LayerState) → IsSoundLayer m s → IsFalse s.has_rivals
    → KeepsRecords m.state.pages now.state.pages (places m.blocks) → now.blocks ≡ m.blocks
    → ((key : FilePage) → HasPlace s.table key → HasPlace t.table key) → (file page len : ℕ) (bytes : List ℕ)
    → FitsIn m s file page len bytes → FitsIn now t file page len bytes
fits_kept m now s t sound agreed keeps blocks has file page len bytes fits =
    let all_agree = sound.agreed agreed in
    let same = keeps_len m.state.pages now.state.pages (places m.blocks) all_agree keeps file in
    let less = fits.no_shorter in
    subst (λ b. MayBeAdded now.state.pages b t file page len bytes) (sym blocks) (record {
      place = has (record { file = file; page = page }) fits.place;
      no_shorter = omega (arith, same, less);
      zeros = fits.zeros;
      grows = keeps_may_grow m.state.pages now.state.pages (places m.blocks) all_agree keeps file page len fits.grows;
    })
