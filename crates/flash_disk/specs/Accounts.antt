-- What a call of a layer counts: time, faults, and the numbers of the records that it writes.
use Rattle.std.specs.Prelude.{◌≡◌, ℕ, ◌+◌, ◌≤◌, Bool, Result, OnOk, IsTrue}
use Rattle.per_base.specs.Causes.{CountsFaults}
use Rattle.flash_model.specs.FlashMedium.{FlashMedium, FlashElapses}
use Rattle.flash_disk.specs.declared.layer.Layer.{Layer}

-- the faults that a disk counts: those of its flash, and its own
abbrev pub faults_of : {F : Type 0} → (F → FlashMedium) → Layer F → ℕ
faults_of medium layer = (medium layer.flash).faults + layer.own

-- In a call time goes on; it counts one fault of its own at most, and only where it fails; it uses at most that many
-- numbers; and whether there are rivals it leaves as it is.
pub record Accounts {F T E : Type 0} (told : Bool) (medium : F → FlashMedium) (numbers : ℕ) (old new : Layer F)
    (result : Result T E) : Type 0 where
  pub time : IsTrue told → FlashElapses (medium old.flash) (medium new.flash)
  pub cause : CountsFaults (faults_of medium old) (faults_of medium new) result
  pub kept : OnOk result (new.own ≡ old.own)
  pub one : new.own ≤ old.own + 1
  pub no_less : old.own ≤ new.own
  pub later : old.state.sequence ≤ new.state.sequence
  pub steps : new.state.sequence ≤ old.state.sequence + numbers
  pub has_rivals : new.state.has_rivals ≡ old.state.has_rivals
