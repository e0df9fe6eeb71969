-- A flash between two of its calls; calls that only look; and the opening of a disk, which looks and then settles.
use Rattle.std.specs.Prelude.{◌≡◌, ◌⊎◌, Bool, IsTrue}
use Rattle.flash_model.specs.State.{FlashState, FlashCase, IsStill, settle_pages}
use Rattle.flash_model.specs.FlashMedium.{FlashMedium, FlashElapses, EachFlashCase}

-- the case of a crash between two calls
abbrev pub still_case : FlashState → FlashCase
still_case s = record {
  before = s.pages;
  whole = s.pages;
  left = s.pages;
  settled = s.settled;
  announced =
      s.announced;
}

-- no page changed in some calls, and a crash meanwhile leaves the pages as they were
pub record KeepsPages (old new : FlashMedium) : Type 0 where
  pub now : new.state.pages ≡ old.state.pages
  pub during : EachFlashCase (λ c. c.left ≡ old.state.pages) old new

-- the flash is as it was, and so is what a crash meanwhile leaves
pub record LeavesFlashAlone (told : Bool) (old new : FlashMedium) : Type 0 where
  pub state : IsTrue told → new.state ≡ old.state
  pub time : IsTrue told → FlashElapses old new
  pub during : IsTrue told → EachFlashCase (IsStill old.state) old new

-- a crash meanwhile leaves what there was, as it was settled last or settled again
pub record OpensFlash (told : Bool) (old new : FlashMedium) : Type 0 where
  pub time : IsTrue told → FlashElapses old new
  pub during : IsTrue told → EachFlashCase (λ c. IsStill old.state c ⊎ IsStill (settle_pages old.state) c) old new
