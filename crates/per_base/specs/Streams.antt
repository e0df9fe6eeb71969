-- What the streams in memory know of themselves: a source with the bytes that are left, a sink with the bytes that it
-- took.
use Rattle.std.specs.Prelude.{◌≡◌, ℕ, List, Bool, IsTrue, IsFalse, nat_eq}
use Rattle.std.specs.List.{list_any}
use Rattle.per_base.specs.Causes.{raised}

-- a source in memory at one moment
pub record SourceState : Type 0 where
  -- the bytes that are still to be read
  pub left : List ℕ
  -- the greatest number of bytes that a read gives
  pub piece : ℕ
  -- the numbers of the calls that fail, counted from 0
  pub failing : List ℕ
  -- how many calls were made, and how many of them failed, each up to the greatest u64
  pub calls : ℕ
  pub faults : ℕ

-- a sink in memory at one moment
pub record SinkState : Type 0 where
  -- the bytes that it took
  pub written : List ℕ
  -- the greatest number of bytes that a write takes
  pub piece : ℕ
  -- the numbers of the calls that fail, counted from 0
  pub failing : List ℕ
  -- how many calls were made, and how many of them failed or took none of some bytes, each up to the greatest u64
  pub calls : ℕ
  pub faults : ℕ
  -- how often memory ran out for the bytes
  pub starved : ℕ

-- whether the plan lets the call of this number fail
abbrev pub is_failing : List ℕ → ℕ → Bool
is_failing failing call = list_any (λ n. nat_eq n call) failing

-- a call, from the sink before it to the sink after it, that fails because the plan says so
abbrev pub FailsAsPlanned : SinkState → SinkState → Type 0
FailsAsPlanned old new = IsTrue (is_failing old.failing old.calls) × (new.starved ≡ old.starved)

-- a call that fails because memory ran out, which `starved` counts
abbrev pub RunsOutOfMemory : SinkState → SinkState → Type 0
RunsOutOfMemory old new = IsFalse (is_failing old.failing old.calls) × (new.starved ≡ raised old.starved)
