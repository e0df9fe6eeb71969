-- The sum over the entries that were seen, and its bound.
use Rattle.std.proofs.Common.{ℕ, ◌≡◌, ◌+◌, ◌*◌, ◌≤◌, take, length, sum_by}
use Rattle.per_base.proofs.elements.storage_size.Given as goal

pub record SumSoFar (total index : ℕ) (sum_is : ℕ) : Type 0 where
  pub sum : total ≡ sum_is
  pub bound : total ≤ index * 4294967550

abbrev pub invariant-loop-entry : goal.invariant-loop-entry
invariant-loop-entry l = SumSoFar l.total l.entry-index
    (sum_by (λ e. length e.name + e.len) (take l.entry-index l.entries))
