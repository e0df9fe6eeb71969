-- The bytes that were taken are the whole so far, and no count of faults fell.
use Rattle.std.proofs.Common.{ℕ, ◌≤◌, ◌<◌, ◌-◌, length}
use Rattle.std.specs.Io.KnownBytes.{Consumes}
use Rattle.per_run.proofs.input.read_to_end.Given as goal

pub record Read (Took : Type 0) (taken room before now : ℕ) : Type 0 where
  pub took : Took
  pub within : taken ≤ 67108864
  pub room_left : 0 < room
  pub later : before ≤ now

abbrev pub invariant-loop-whole : goal.invariant-loop-whole
invariant-loop-whole g l = Read (Consumes (g.S.Source.left l.initial.source) (g.S.Source.left l.source) l.whole.items)
    (length l.whole.items) (length l.buffer) (g.S.Source.faults l.initial.source) (g.S.Source.faults l.source)

abbrev pub decreases-loop-whole : goal.decreases-loop-whole
decreases-loop-whole g l = 67108864 - length l.whole.items
