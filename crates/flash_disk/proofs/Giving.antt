-- A disk gave up files: what that and the opening after it leave of the flash.
use Rattle.std.proofs.Common.{◌≡◌, ◌⊎◌, ℕ, ◌<◌, ◌≤◌, Bool, true, false, cond, [], refl, sym, ap, subst, ◌∙◌}
use Rattle.std.proofs.Common.{inl, inr, ⊎_elim}
use Rattle.std.proofs.Math.Path.{fun_ext}
use Rattle.std.specs.Prelude.{IsTrue, IsFalse}
use Rattle.flash_model.specs.Pages.{Pages}
use Rattle.flash_model.specs.State.{IsStill, settle_pages}
use Rattle.flash_model.specs.FlashMedium.{FlashMedium, FlashElapses, EachFlashCase}
use Rattle.flash_disk.specs.declared.disk.FlashOpenError.{FlashOpenError}
use Rattle.flash_disk.specs.declared.disk.FlashOpenError.TheVariants.{WrongSize, Unusable, Device, OutOfMemory}
use Rattle.flash_disk.specs.Newest.{places}
use Rattle.flash_disk.specs.FlashFiles.{flash_files}
use Rattle.flash_disk.specs.Standing.{IsAgreed, StaysAgreed}
use Rattle.flash_disk.specs.Apart.{StandApart}
use Rattle.flash_disk.specs.Emptied.{HasEmptyBlock, IsEmptyBlock}
use Rattle.flash_disk.specs.Sound.{files_on}
use Rattle.flash_disk.specs.FlashDiskMedium.{flash_disk_medium, IsJustOpened}
use Rattle.flash_disk.specs.Does.{Does}
use Rattle.flash_disk.specs.Kept.{only_kept, kept_image, HoldsKept}
use Rattle.flash_disk.specs.Forgetting.{Forgets, GivesUp}
use Rattle.flash_disk.proofs.Standing.{keeps_agreed}
use Rattle.flash_disk.proofs.Stretches.{elapses_then}
use Rattle.flash_disk.proofs.Hiding.{hidden_agreed, hidden_stand, all_agreed, all_stand, others_empty}

by_whole : {P : Type 0} (whole : Bool) → (IsTrue whole → P) → (IsFalse whole → P) → P
by_whole true is is_not = is refl
by_whole false is is_not = is_not refl

-- an opening of a flash that can be opened fails only with these
pub only_two : (error : FlashOpenError) → ((error ≡ WrongSize) → ⊥) → ((error ≡ Unusable) → ⊥)
    → (error ≡ Device) ⊎ (error ≡ OutOfMemory)
only_two WrongSize size unusable = absurd (size refl)
only_two Unusable size unusable = absurd (unusable refl)
only_two Device size unusable = inl refl
only_two OutOfMemory size unusable = inr refl

-- what is said of a disk that was opened over a flash is said of it over the flash that came of that
pub begins_again : (told : Bool) (mid now : FlashMedium) (own written : ℕ)
    → (IsTrue told → now.state.pages ≡ mid.state.pages) → now.blocks ≡ mid.blocks
    → IsJustOpened told mid (flash_disk_medium told now own written)
    → IsJustOpened told now (flash_disk_medium told now own written)
begins_again told mid now own written pages blocks begins = record {
  opens = begins.opens;
  agrees = λ agreed. begins.agrees (λ tells. subst (λ p. IsAgreed p (places mid.blocks)) (pages tells)
      (subst (λ k. IsAgreed now.state.pages (places k)) blocks (agreed tells)));
  apart = λ many stand. begins.apart (subst (λ (k : ℕ). 16 ≤ k) blocks many)
      (λ tells. subst (λ p. StandApart p mid.blocks) (pages tells)
      (subst (λ k. StandApart now.state.pages k) blocks (stand tells)));
}

module _ (kept : ℕ → Bool) where
  -- ---- no other file is left

  module _ (old new : Pages) (blocks : ℕ) (forgets : Forgets kept blocks old new)
      (holds : (block : ℕ) → block < blocks → HoldsKept kept new block) where
    image_by : (file : ℕ) (b : Bool) → kept file ≡ b
        → flash_files new blocks file ≡ cond b (flash_files old blocks file) []
    image_by file true is = forgets.files file is
    image_by file false is = others_empty kept new blocks holds file is

    -- the files that are kept are as they were, and each other is empty
    pub image_left : flash_files new blocks ≡ kept_image kept (flash_files old blocks)
    image_left = fun_ext (λ file. image_by file (kept file) refl)

    -- no rivals came
    pub agreed_left : IsAgreed old (places blocks) → IsAgreed new (places blocks)
    agreed_left agreed = all_agreed kept new blocks holds
        (keeps_agreed (only_kept kept old) (only_kept kept new) (places blocks)
        (hidden_agreed kept old (places blocks) agreed) forgets.keeps)

    -- what stood apart does so
    pub stand_left : StandApart old blocks → StandApart new blocks
    stand_left stand = all_stand kept new blocks holds (forgets.apart (hidden_stand kept old blocks stand))

  -- ---- calls

  -- the calls in which files were given up
  pub gives_up : (m now : FlashMedium) → FlashElapses m now → Does (Forgets kept m.blocks m.state.pages) m now
      → GivesUp kept m now
  gives_up m now time does = record {
    time = time;
    now = does.now;
    during = λ c past. (let leaves = does.during c past in record {
      settled = inl (leaves.settled, leaves.announced);
      left = leaves.left;
    });
  }

  -- and those in which the flash was opened after that
  pub gives_up_then : (m mid now : FlashMedium) → FlashElapses m mid → Does (Forgets kept m.blocks m.state.pages) m mid
      → FlashElapses mid now
      → EachFlashCase (λ c. IsStill mid.state c ⊎ IsStill (settle_pages mid.state) c) mid now
      → now.state.pages ≡ mid.state.pages → GivesUp kept m now
  gives_up_then m mid now first does second cases pages = record {
    time = elapses_then m mid now first second;
    now = subst (Forgets kept m.blocks m.state.pages) (sym pages) does.now;
    during = λ c past. ⊎_elim
        (λ before. (let leaves = does.during c before in record {
          settled = inl (leaves.settled, leaves.announced);
          left = leaves.left;
        }))
        (λ since. ⊎_elim
        (λ still. record {
          settled = inl (still.settled ∙ does.settled, still.announced ∙ does.announced);
          left = λ plain. subst (Forgets kept m.blocks m.state.pages) (sym still.left) does.now;
        })
        (λ settled. record {
          settled = inr (settled.settled ∙ sym pages, settled.announced);
          left = λ plain. subst (Forgets kept m.blocks m.state.pages) (sym settled.left) does.now;
        })
        (cases c since))
        (second.nothing_else m.moment c first.later past);
  }

  -- ---- what is left once the flash was opened again

  module _ (m mid now : FlashMedium) (first : FlashElapses m mid)
      (does : Does (Forgets kept m.blocks m.state.pages) m mid) (blocks : now.blocks ≡ mid.blocks)
      (pages : now.state.pages ≡ mid.state.pages) where
    same_blocks : now.blocks ≡ m.blocks
    same_blocks = blocks ∙ first.blocks

    forgets : Forgets kept m.blocks m.state.pages now.state.pages
    forgets = subst (Forgets kept m.blocks m.state.pages) (sym pages) does.now

    pub gave_empty : HasEmptyBlock mid.state.pages mid.blocks → HasEmptyBlock now.state.pages now.blocks
    gave_empty empty = (
      empty.0,
      subst (λ k. empty.0 < k) (sym blocks) empty.1,
      subst (λ p. IsEmptyBlock p empty.0) (sym pages) empty.2,
    )

    module _ (whole : Bool)
        (holds : IsTrue whole → (block : ℕ) → block < mid.blocks → HoldsKept kept mid.state.pages block)
        (nothing : IsFalse whole → mid.state.pages ≡ m.state.pages) where
      none_left : IsTrue whole → (block : ℕ) → block < m.blocks → HoldsKept kept now.state.pages block
      none_left is block within = subst (λ p. HoldsKept kept p block) (sym pages)
          (holds is block (subst (λ k. block < k) (sym first.blocks) within))

      pub unchanged : IsFalse whole → now.state.pages ≡ m.state.pages
      unchanged is = pages ∙ nothing is

      pub gave_image : IsTrue whole → files_on now ≡ kept_image kept (files_on m)
      gave_image is = ap (λ k. flash_files now.state.pages k) same_blocks
          ∙ image_left m.state.pages now.state.pages m.blocks forgets (none_left is)

      pub gave_agreed : StaysAgreed m now.state.pages
      gave_agreed agreed = by_whole whole
          (λ is. agreed_left m.state.pages now.state.pages m.blocks forgets (none_left is) agreed)
          (λ is. subst (λ p. IsAgreed p (places m.blocks)) (sym (unchanged is)) agreed)

      pub gave_apart : StandApart m.state.pages m.blocks → StandApart now.state.pages now.blocks
      gave_apart stand = subst (λ k. StandApart now.state.pages k) (sym same_blocks)
          (by_whole whole
          (λ is. stand_left m.state.pages now.state.pages m.blocks forgets (none_left is) stand)
          (λ is. subst (λ p. StandApart p m.blocks) (sym (unchanged is)) stand))
