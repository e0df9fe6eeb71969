-- A flash at one moment, and what calls do to it.
use Rattle.std.specs.Prelude.{◌≡◌, ◌⊎◌, ℕ, ◌≤◌, Bool, IsTrue}
use Rattle.flash_model.specs.State.{FlashState, FlashCase, IsStill}

-- All that is said of a flash at one moment. What a case is, `FlashCase` says (`State`).
pub record FlashMedium : Type 1 where
  -- how many blocks it has
  pub blocks : ℕ
  -- its pages, and what was announced to it
  pub state : FlashState
  -- the clock: it never goes back, and moments are its readings
  pub moment : ℕ
  -- `since t c`: a crash at the moment t, or at a later one up to now, might have left the case c
  pub since : ℕ → FlashCase → Type 0
  -- how many calls have failed, up to the greatest u64
  pub faults : ℕ

-- What is so of each flash that meets the model: a call that is over is durable.
pub record IsLawfulFlash (told : Bool) (m : FlashMedium) : Type 0 where
  -- this moment is one of those since an earlier one
  pub counts_now : IsTrue told → (t : ℕ) (c : FlashCase) → t ≤ m.moment → IsStill m.state c → m.since t c
  -- since this moment there is no other
  pub only_now : (c : FlashCase) → m.since m.moment c → IsStill m.state c

-- Time goes on: the cases since t are those from before and those since the start of the call. No count falls, and no
-- block comes or goes. `t` is any moment up to the start.
pub record FlashElapses (old new : FlashMedium) : Type 0 where
  pub later : old.moment ≤ new.moment
  pub nothing_else : (t : ℕ) (c : FlashCase) → t ≤ old.moment → new.since t c → old.since t c ⊎ new.since old.moment c
  pub keeps : (t : ℕ) (c : FlashCase) → t ≤ old.moment → old.since t c → new.since t c
  pub adds : (t : ℕ) (c : FlashCase) → t ≤ old.moment → new.since old.moment c → new.since t c
  pub faults : old.faults ≤ new.faults
  pub blocks : new.blocks ≡ old.blocks

-- P holds of each case of a crash since the start of a stretch of calls, from the first flash to the second
abbrev pub EachFlashCase : (P : FlashCase → Type 0) → FlashMedium → FlashMedium → Type 0
EachFlashCase P old new = (c : FlashCase) → new.since old.moment c → P c
