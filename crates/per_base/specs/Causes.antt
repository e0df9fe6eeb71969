-- Counts of faults: when a count rose in a call, and what a failure says of it.
use Rattle.std.specs.Prelude.{◌≡◌, ◌≤◌, ℕ, ◌+◌, ◌-◌, ◌^◌, min, Result, OnOk, OnErr}

-- a count goes up by one, and stops at the greatest u64
abbrev pub raised : ℕ → ℕ
raised count = min (count + 1) (2 ^ 64 - 1)

-- the count was `before` and is `now`: it rose between, or stands at the greatest u64, where it can rise no more
abbrev pub Rose : ℕ → ℕ → Type 0
Rose before now = raised before ≤ now

-- Why a call failed, by the count of faults before it and now, and its result: the count never falls, and an error
-- comes only where it rose.
pub record HasCause {T E : Type 0} (before now : ℕ) (result : Result T E) : Type 0 where
  pub later : before ≤ now
  pub failed : OnErr result (Rose before now)

-- the same, and a call that succeeds leaves the count as it was
pub record CountsFaults {T E : Type 0} (before now : ℕ) (result : Result T E) : Type 0 where
  pub later : before ≤ now
  pub failed : OnErr result (Rose before now)
  pub passed : OnOk result (now ≡ before)
