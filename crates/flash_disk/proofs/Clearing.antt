-- The spare block is made blank, and nothing that counts changes.
use Rattle.std.proofs.Common.{◌≡◌, ◌≢◌, ◌⊎◌, ℕ, ◌+◌, ◌/◌, ◌%◌, ◌<◌, ◌≤◌, false, List, [], length, refl, sym}
use Rattle.std.proofs.Common.{ap, subst, ◌∙◌, Result, OnOk, OnErr, arith, true≢false}
use Rattle.std.specs.Prelude.{Option, Some, None, IsTrue, IsFalse, vec_capacity}
use Rattle.std.proofs.lemmas.Option.{none-some}
use Rattle.flash_model.specs.Pages.{Pages, blank_page}
use Rattle.flash_model.specs.State.{FlashState, IsStill, EraseCase, FailsToErase, erased}
use Rattle.flash_model.specs.FlashMedium.{FlashMedium, EachFlashCase}
use Rattle.flash_record.specs.PageRecord.{record_in}
use Rattle.flash_record.specs.Blank.{blank_is_none}
use Rattle.flash_disk.specs.declared.table.FlashPage.{FlashPage}
use Rattle.flash_disk.specs.declared.layer.LayerState.{LayerState}
use Rattle.flash_disk.specs.Newest.{record_at, places}
use Rattle.flash_disk.specs.Learnt.{number, HasPlace}
use Rattle.flash_disk.specs.Does.{Does}
use Rattle.flash_disk.specs.Standing.{DenotesFiles, KeepsRecords}
use Rattle.flash_disk.specs.Sound.{Sound, IsSoundLayer, IsDescribedBy, PendsAt, HasFreshPage, FitsIn, ShowsSame}
use Rattle.flash_disk.specs.Moving.{IsMoving}
use Rattle.flash_disk.specs.Apart.{KeepsHeld, HoldsOneCopy}
use Rattle.flash_disk.specs.KeepsApart.{KeepsApart}
use Rattle.flash_disk.specs.Emptied.{IsEmptyBlock, Empties}
use Rattle.flash_disk.proofs.Standing.{keeps_said}
use Rattle.flash_disk.proofs.Tearing.{LosesIn, torn_only, whole_erase, whole_torn_block, erased_page, erase_keeps}
use Rattle.flash_disk.proofs.Stretches.{does_weaken, does_nothing, erase_does}
use Rattle.flash_disk.proofs.Entering.{as_said, as_cleared, still_empty, lies_elsewhere}
use Rattle.flash_disk.proofs.Moving.{record_of, kept_sound, kept_stands, shows_same, fits_kept}
use Rattle.flash_disk.proofs.Holding.{held_lost, loses_apart}

-- ---- what erasing leaves

pub empties_nothing : (block : ℕ) (pages : Pages) → Empties block pages pages
empties_nothing block pages = record { only = λ j q there. there; elsewhere = λ b p other. refl }

module _ (m now : FlashMedium) (block : ℕ) where
  -- a block is erased, or that failed
  pub erase_empties : {T E : Type 0} → (result : Result T E) → OnOk result (now.state ≡ erased m.state block)
      → OnErr result (FailsToErase block m.state now.state)
      → EachFlashCase (λ c. IsStill m.state c ⊎ (IsStill now.state c ⊎ EraseCase block m.state c)) m now
      → Does (Empties block m.state.pages) m now
  erase_empties result done failed cases =
      erase_does m now (Empties block m.state.pages) block result done failed cases
      (empties_nothing block m.state.pages)
      (record {
        only = (let whole = whole_erase m.state.pages block in whole.only);
        elsewhere = whole_torn_block m.state.pages block;
      })
      (λ left torn plain. record { only = torn_only m.state.pages block left torn plain; elsewhere = torn })

  -- it was blank
  pub look_empties : now.state ≡ m.state → EachFlashCase (IsStill m.state) m now
      → Does (Empties block m.state.pages) m now
  look_empties same still = does_nothing m now (Empties block m.state.pages) same still
      (empties_nothing block m.state.pages)

  pub erased_empty : now.state ≡ erased m.state block → IsEmptyBlock now.state.pages block
  erased_empty done p small = subst (λ (z : FlashState). z.pages block p ≡ blank_page) (sym done)
      (erased_page m.state.pages block block p refl)

-- ---- blank blocks

module _ (pages : Pages) (block : ℕ) (empty : IsEmptyBlock pages block) where
  -- no record is in one
  pub empty_none : (j : ℕ) → j / 64 ≡ block → record_at pages j ≡ None
  empty_none j at = ap record_in (ap (λ b. pages b (j % 64)) at ∙ empty (j % 64) (omega arith)) ∙ blank_is_none

  pub empty_holds : (n copy : ℕ) → HoldsOneCopy pages n block copy
  empty_holds n copy file page x found j inside at there = absurd (none-some x.says (sym (empty_none j at) ∙ there))

-- where the spare block is known to be blank it is, whatever a call that failed may have left elsewhere
pub cleared_empty : (m : FlashMedium) (s : LayerState) → IsDescribedBy m s → IsTrue s.cleared
    → IsEmptyBlock m.state.pages s.spare
cleared_empty m s described cleared = elsewhere s.unsure described.pends
  where
    elsewhere : (u : Option FlashPage) → PendsAt described.sure m.state.pages m.blocks s u
        → IsEmptyBlock m.state.pages s.spare
    elsewhere None same = subst (λ p. IsEmptyBlock p s.spare) (sym same) (described.sound.empty cleared)
    elsewhere (Some place) pends = still_empty described.sure m.state.pages place.block place.page s.spare
        pends.elsewhere pends.apart (described.sound.empty cleared)

-- ---- the spare block is made blank

module _ (m : FlashMedium) (s : LayerState) (sound : IsSoundLayer m s) (agreed : IsFalse s.has_rivals) where
  abbrev pages : Pages
  pages = m.state.pages

  abbrev n : ℕ
  n = places m.blocks

  abbrev idle : LayerState
  idle = record s { cleared = false }

  idle_sound : Sound pages m.blocks idle
  idle_sound = as_cleared pages m.blocks s false sound (λ cleared. absurd (true≢false (sym cleared)))

  loses : (left : Pages) → Empties s.spare pages left → LosesIn s.spare pages left
  loses left empties = record {
    only = empties.only;
    apart = λ j other. ap record_in (empties.elsewhere (j / 64) (j % 64) other);
  }

  pub empties_keeps : (left : Pages) → Empties s.spare pages left → KeepsRecords pages left n
  empties_keeps left empties = erase_keeps pages left n s.spare (lies_elsewhere pages m.blocks s sound agreed)
      (loses left empties)

  empties_fresh : (left : Pages) → Empties s.spare pages left → s.fill < 64 → HasFreshPage left m.blocks idle
  empties_fresh left empties room = let fresh = sound.fresh room in record {
    agreed = fresh.agreed;
    within = fresh.within;
    apart = fresh.apart;
    blank = empties.elsewhere s.current s.fill fresh.apart ∙ fresh.blank;
  }

  idle_stays : (left : Pages) → Empties s.spare pages left → Sound left m.blocks idle
  idle_stays left empties = kept_sound pages left m.blocks idle idle_sound agreed (empties_keeps left empties)
      (empties_fresh left empties)
      (λ cleared. absurd (true≢false (sym cleared)))
      (λ key e is.
      (let found = record_of pages n s.table sound.knows.led key e is in
      let small = found.1.leads.small in
      ap record_in (empties.elsewhere (number e.place / 64) (number e.place % 64) (λ same. sound.apart agreed key e is
      (let b : e.place.block ≡ s.spare = omega (arith, same, small) in b)))))

  pub empties_stands : (left : Pages) → Empties s.spare pages left → DenotesFiles m left
  empties_stands left empties = kept_stands m left idle idle_sound agreed (empties_keeps left empties)
      (idle_stays left empties)

  empties_held : (copy home : ℕ) (left : Pages) → Empties s.spare pages left → KeepsHeld copy home n pages left
  empties_held copy home left empties = held_lost pages left copy home n
      (keeps_said pages left n (sound.agreed agreed) (empties_keeps left empties)) empties.only

  module _ (now : FlashMedium) (blocks : now.blocks ≡ m.blocks) (does : Does (Empties s.spare pages) m now) where
    pub cleared_stands : Does (DenotesFiles m) m now
    cleared_stands = does_weaken m now (Empties s.spare pages) (DenotesFiles m) empties_stands does

    pub cleared_keeps : KeepsRecords pages now.state.pages n
    cleared_keeps = empties_keeps now.state.pages does.now

    pub cleared_shows : ShowsSame m now
    cleared_shows = shows_same m now s sound agreed cleared_keeps blocks

    -- whatever a block held alone it still does
    pub cleared_apart : (copy : ℕ) → KeepsApart copy m now
    cleared_apart copy = loses_apart copy m now (does_weaken m now (Empties s.spare pages)
        (λ left. (home : ℕ) → KeepsHeld copy home n pages left)
        (λ left empties home. empties_held copy home left empties) does)

    pub cleared_holds : (block copy : ℕ) → HoldsOneCopy pages n block copy
        → HoldsOneCopy now.state.pages (places now.blocks) block copy
    cleared_holds block copy only = subst (λ k. HoldsOneCopy now.state.pages (places k) block copy) (sym blocks)
        (empties_held copy (block + 1) now.state.pages does.now block copy (λ same. absurd (omega (arith, same))) only)

    module _ (t : LayerState) (state : t ≡ record s { cleared = t.cleared }) where
      pub cleared_sound : (IsTrue t.cleared → IsEmptyBlock now.state.pages s.spare) → IsSoundLayer now t
      cleared_sound empty = subst (λ b. Sound now.state.pages b t) (sym blocks)
          (subst (Sound now.state.pages m.blocks) (sym state)
          (as_cleared now.state.pages m.blocks idle t.cleared (idle_stays now.state.pages does.now) empty))

      -- a record that might be added still may
      pub cleared_fits : (file page len : ℕ) (bytes : List ℕ) → FitsIn m s file page len bytes
          → FitsIn now t file page len bytes
      cleared_fits file page len bytes fits = fits_kept m now s t sound agreed cleared_keeps blocks
          (λ key has. subst (λ (q : LayerState). HasPlace q.table key) (sym state) has) file page len bytes fits

-- nothing is copied into it yet
pub moving_none : (m : FlashMedium) (s : LayerState) → IsSoundLayer m s → IsFalse s.has_rivals → 64 ≤ s.fill
    → IsEmptyBlock m.state.pages s.spare → (t : LayerState) → t ≡ record s { cleared = false; moved = t.moved }
    → vec_capacity s.moved ≤ vec_capacity t.moved → t.moved.items ≡ []
    → (from to : ℕ) → to ≡ s.spare → from < m.blocks → from ≢ to → IsMoving m.state.pages m.blocks t from to 0
moving_none m s sound agreed full empty t state memory none from to spare within apart =
    let pages = m.state.pages in
    let idle : LayerState = record s { cleared = false } in
    let nothing : length t.moved.items ≡ 0 = ap (λ l. length l) none in record {
      sound = subst (Sound pages m.blocks) (sym state)
          (as_said pages m.blocks idle (record idle { moved = t.moved })
          (as_cleared pages m.blocks s false sound (λ cleared. absurd (true≢false (sym cleared)))) memory);
      agreed = subst (λ (q : LayerState). IsFalse q.has_rivals) (sym state) agreed;
      uncleared = ap (λ (q : LayerState). q.cleared) state;
      full = subst (λ (q : LayerState). 64 ≤ q.fill) (sym state) full;
      spare = subst (λ (q : LayerState). q.spare ≡ to) (sym state) (sym spare);
      within = within;
      apart = apart;
      count = omega (arith, nothing);
      blank = λ p past small. ap (λ b. pages b p) spare ∙ empty p small;
      moved = λ k d inside. absurd (omega (arith, inside, nothing));
      all = λ key e is at below. absurd (omega (arith, below));
    }
