-- What a write into a file does to a flash: what is announced to it, and what a crash meanwhile leaves.
use Rattle.std.specs.Prelude.{◌≡◌, ◌⊎◌, ℕ, List, [], ◌∷◌, ◌++◌, length}
use Rattle.disk_model.specs.Image.{TornImage}
use Rattle.flash_model.specs.Pages.{Pages, IsPlain}
use Rattle.flash_model.specs.State.{Announced, FlashState, FlashCase, IsStill, announce_write}
use Rattle.flash_model.specs.FlashMedium.{FlashMedium}
use Rattle.flash_disk.specs.FlashFiles.{flash_files}
use Rattle.flash_disk.specs.Looks.{KeepsPages, still_case}
use Rattle.flash_disk.specs.Newest.{IsUsable}
use Rattle.flash_disk.specs.Standing.{StaysAgreed}

-- a write of n bytes was cut short somewhere, or nowhere, the pages can be opened, and no rivals came
pub record LeavesTorn (file at n : ℕ) (old : FlashMedium) (pages : Pages) : Type 0 where
  pub torn : TornImage file at n (flash_files old.state.pages old.blocks) (flash_files pages old.blocks)
  pub usable : IsUsable pages old.blocks
  pub agreed : StaysAgreed old pages

-- what is announced to a flash once this write is too
abbrev pub with_write : FlashState → (file at : ℕ) → List ℕ → List Announced
with_write s file at bytes = s.announced ++ (record { file = file; at = at; bytes = bytes }) ∷ []

-- a crash after the write was announced
pub record LeavesWrite (file at : ℕ) (bytes : List ℕ) (old : FlashMedium) (c : FlashCase) : Type 0 where
  pub settled : c.settled ≡ old.state.settled
  pub announced : c.announced ≡ with_write old.state file at bytes
  pub left : IsPlain c.before c.whole c.left → LeavesTorn file at (length bytes) old c.left

-- at some moment of a call the write was announced, and the flash else as before the call
abbrev pub WasAnnounced : (file at : ℕ) → List ℕ → (old new : FlashMedium) → Type 0
WasAnnounced file at bytes old new = new.since old.moment (still_case (announce_write old.state file at bytes))

-- the write was announced before any page changed, and is done in part or whole; or nothing changed
pub record WritesInto (file at : ℕ) (bytes : List ℕ) (old new : FlashMedium) : Type 0 where
  pub now : (new.state ≡ old.state) ⊎ ((new.state.settled ≡ old.state.settled)
      × (new.state.announced ≡ with_write old.state file at bytes)
      × LeavesTorn file at (length bytes) old new.state.pages)
  pub during : (c : FlashCase) → new.since old.moment c → IsStill old.state c ⊎ LeavesWrite file at bytes old c
  pub first : KeepsPages old new ⊎ WasAnnounced file at bytes old new
