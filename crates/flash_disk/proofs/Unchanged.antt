-- Calls of a disk that change no page.
use Rattle.std.proofs.Common.{◌≡◌, ◌⊎◌, ℕ, Bool, Result, ap, ◌∙◌}
use Rattle.std.specs.Prelude.{IsTrue}
use Rattle.flash_model.specs.State.{FlashState, IsStill}
use Rattle.flash_model.specs.FlashMedium.{FlashMedium, FlashElapses, EachFlashCase}
use Rattle.flash_disk.specs.declared.layer.Layer.{Layer}
use Rattle.flash_disk.specs.declared.layer.LayerState.{LayerState}
use Rattle.flash_disk.specs.FlashView.{FlashView}
use Rattle.flash_disk.specs.FlashDiskMedium.{ChangesNoPage}
use Rattle.flash_disk.specs.Sound.{IsDescribedBy}
use Rattle.flash_disk.specs.Steps.{LearnsNothing}
use Rattle.flash_disk.proofs.Throughout.{holds_usable, look_usable, settle_usable, usable_then, look_agreed}
use Rattle.flash_disk.proofs.Throughout.{settle_agreed, agreed_then}

-- what is seen of a disk with this layer
abbrev pub view_of : {F : Type 0} → Layer F → (written : ℕ) → FlashView F
view_of layer written = record {
  flash = layer.flash;
  sequence = layer.state.sequence;
  own = layer.own;
  written = written;
}

module _ {F : Type 0} (told : Bool) (medium : F → FlashMedium) (written : ℕ) where
  module _ (old new : Layer F) (described : IsTrue told → IsDescribedBy (medium old.flash) old.state)
      (time : IsTrue told → FlashElapses (medium old.flash) (medium new.flash)) (own : new.own ≡ old.own)
      (numbers : new.state.sequence ≡ old.state.sequence) where
    -- calls that only look
    pub looked : (IsTrue told → (medium new.flash).state ≡ (medium old.flash).state)
        → (IsTrue told → EachFlashCase (IsStill (medium old.flash).state) (medium old.flash) (medium new.flash))
        → ChangesNoPage told medium (view_of old written) (view_of new written)
    looked same looks = record {
      own = own;
      numbers = numbers;
      pages = λ t. ap (λ (s : FlashState). s.pages) (same t);
      usable = λ t. look_usable (medium old.flash) (medium new.flash) (time t)
          (holds_usable (medium old.flash) old.state (described t)) (same t) (looks t);
      agreed = λ t. look_agreed (medium old.flash) (medium new.flash) (same t) (looks t);
    }

    -- a settle
    pub settled : (IsTrue told → (medium new.flash).state.pages ≡ (medium old.flash).state.pages)
        → EachFlashCase (λ c. IsStill (medium old.flash).state c ⊎ IsStill (medium new.flash).state c)
        (medium old.flash) (medium new.flash)
        → ChangesNoPage told medium (view_of old written) (view_of new written)
    settled pages cases = record {
      own = own;
      numbers = numbers;
      pages = pages;
      usable = λ t. settle_usable (medium old.flash) (medium new.flash) (time t)
          (holds_usable (medium old.flash) old.state (described t)) (pages t) cases;
      agreed = λ t. settle_agreed (medium old.flash) (medium new.flash) (pages t) cases;
    }

  pub looked_by : {T E : Type 0} {r : Result T E} (old new : Layer F)
      → (IsTrue told → IsDescribedBy (medium old.flash) old.state) → LearnsNothing told medium old new r
      → ChangesNoPage told medium (view_of old written) (view_of new written)
  looked_by old new described is = looked old new described is.only.looks.time is.only.own
      (ap (λ (s : LayerState). s.sequence) is.state) is.only.looks.state is.only.looks.during

  -- one stretch after the other
  pub changes_then : (a b c : Layer F) → (IsTrue told → FlashElapses (medium a.flash) (medium b.flash))
      → (IsTrue told → FlashElapses (medium b.flash) (medium c.flash))
      → ChangesNoPage told medium (view_of a written) (view_of b written)
      → ChangesNoPage told medium (view_of b written) (view_of c written)
      → ChangesNoPage told medium (view_of a written) (view_of c written)
  changes_then a b c early late first second = record {
    own = second.own ∙ first.own;
    numbers = second.numbers ∙ first.numbers;
    pages = λ t. second.pages t ∙ first.pages t;
    usable = λ t. usable_then (medium a.flash) (medium b.flash) (medium c.flash) (early t) (late t) (first.usable t)
        (second.usable t);
    agreed = λ t. agreed_then (medium a.flash) (medium b.flash) (medium c.flash) (early t) (late t) (first.agreed t)
        (second.agreed t);
  }
