-- What holds of a flash at every moment of the calls of its disk, if no page passes its hash by chance.
use Rattle.std.specs.Prelude.{◌≡◌, ℕ, ◌≤◌}
use Rattle.flash_model.specs.Pages.{IsPlain}
use Rattle.flash_model.specs.State.{FlashCase}
use Rattle.flash_model.specs.FlashMedium.{FlashMedium}
use Rattle.flash_disk.specs.Newest.{IsUsable, places}
use Rattle.flash_disk.specs.Standing.{IsAgreed, StaysAgreed}

-- a flash can be opened as a disk at the end of calls, and after a crash at any moment of them: some block is spare,
-- and there are not too many pages
pub record KeepsUsable (old new : FlashMedium) : Type 0 where
  pub blocks : new.blocks ≡ old.blocks
  pub now : IsUsable new.state.pages old.blocks
  pub during : (c : FlashCase) → new.since old.moment c → IsPlain c.before c.whole c.left → IsUsable c.left old.blocks

-- no rivals come: if no two records of one page that had its greatest number differed, none do then
pub record KeepsAgreed (old new : FlashMedium) : Type 0 where
  pub now : StaysAgreed old new.state.pages
  pub during : (c : FlashCase) → new.since old.moment c → IsPlain c.before c.whole c.left → StaysAgreed old c.left

-- ---- the same from a moment on

-- it can be opened now, and after a crash at any moment since this one; nor has it fewer than 4 blocks or more than
-- 4,096
pub record UsableSince (m : FlashMedium) (t : ℕ) : Type 0 where
  pub many : 4 ≤ m.blocks
  pub few : m.blocks ≤ 4096
  pub now : IsUsable m.state.pages m.blocks
  pub during : (c : FlashCase) → m.since t c → IsPlain c.before c.whole c.left → IsUsable c.left m.blocks

-- there are no rivals now, and none after a crash at any moment since this one
pub record AgreedSince (m : FlashMedium) (t : ℕ) : Type 0 where
  pub now : IsAgreed m.state.pages (places m.blocks)
  pub during : (c : FlashCase) → m.since t c → IsPlain c.before c.whole c.left → IsAgreed c.left (places m.blocks)
