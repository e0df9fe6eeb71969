-- That the calls of a disk keep the copies apart: when a write of a file may mix them.
use Rattle.std.specs.Prelude.{◌≡◌, ◌⊎◌, ℕ, ◌≤◌, List, [], ◌∷◌, ◌++◌}
use Rattle.flash_model.specs.Pages.{Pages, IsPlain}
use Rattle.flash_model.specs.State.{Announced, FlashState, FlashCase}
use Rattle.flash_model.specs.FlashMedium.{FlashMedium}
use Rattle.flash_disk.specs.Looks.{still_case}
use Rattle.flash_disk.specs.Newest.{places}
use Rattle.flash_disk.specs.Apart.{copy_of, StandApart, HasNoRoom, HoldsOneCopy}

-- At some moment of a disk's call, between two calls of its flash, the copies still stood apart, no block but the spare
-- one had room for a copy, and no two could be joined. Then the call may put records of any copies into one block.
abbrev pub MayMix : (copy : ℕ) → (old new : FlashMedium) → Type 0
MayMix copy old new = (s : FlashState) × new.since old.moment (still_case s) × StandApart s.pages old.blocks
    × HasNoRoom s.pages old.blocks copy

-- on enough blocks, which are 16, copies that stand apart do so afterwards, or there was no room for this one
abbrev pub StaysApart : (copy : ℕ) → (old new : FlashMedium) → Pages → Type 0
StaysApart copy old new pages = 16 ≤ old.blocks → StandApart old.state.pages old.blocks
    → StandApart pages old.blocks ⊎ MayMix copy old new

-- A call that adds records of one copy keeps the copies apart, at its end and in what a crash at any moment of it
-- leaves, if no page passes its hash by chance.
pub record KeepsApart (copy : ℕ) (old new : FlashMedium) : Type 0 where
  pub now : StaysApart copy old new new.state.pages
  pub during : (c : FlashCase) → new.since old.moment c → IsPlain c.before c.whole c.left
      → StaysApart copy old new c.left

-- ---- the same from a moment on

-- At some moment since this one, between two calls of the flash, the copies stood apart, no block but the spare one had
-- room for the copy whose file the write goes into that was announced last, and no two could be joined.
pub record LackedRoom (m : FlashMedium) (t : ℕ) : Type 0 where
  pub between : FlashState
  pub past : m.since t (still_case between)
  pub earlier : List Announced
  pub write : Announced
  pub last : between.announced ≡ earlier ++ write ∷ []
  pub apart : StandApart between.pages m.blocks
  pub no_room : HasNoRoom between.pages m.blocks (copy_of write.file)

-- the copies stand apart on these pages, or there was no room for one that was written
abbrev pub StandsOrLacked : FlashMedium → ℕ → Pages → Type 0
StandsOrLacked m t pages = StandApart pages m.blocks ⊎ LackedRoom m t

-- there are enough blocks, and the copies stand apart now and after a crash at any moment since this one, if no page
-- passes its hash by chance and as long as there was room for each copy that was written
pub record ApartSince (m : FlashMedium) (t : ℕ) : Type 0 where
  pub many : 16 ≤ m.blocks
  pub now : StandsOrLacked m t m.state.pages
  pub during : (c : FlashCase) → m.since t c → IsPlain c.before c.whole c.left → StandsOrLacked m t c.left

-- ---- a home

-- where the copies stood apart, a block holds this one only, or there was no room for it
abbrev pub HasHome : (copy : ℕ) → (old new : FlashMedium) → (block : ℕ) → Type 0
HasHome copy old new block = 16 ≤ old.blocks → StandApart old.state.pages old.blocks
    → HoldsOneCopy new.state.pages (places new.blocks) block copy ⊎ MayMix copy old new
