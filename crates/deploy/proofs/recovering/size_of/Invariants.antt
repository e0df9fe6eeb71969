use Rattle.std.proofs.Common.{ℕ, ◌≡◌, ◌*◌, ◌≤◌, take, sum_by}
use Rattle.index_text.specs.Contents.{fresh_size}
use Rattle.deploy.proofs.recovering.size_of.Given as goal

pub record SumSoFar (total index sum_is : ℕ) : Type 0 where
  pub sum : total ≡ sum_is
  pub bound : total ≤ index * 4294967550

-- the sum over what was seen, and its bound
abbrev pub invariant-loop-fresh : goal.invariant-loop-fresh
invariant-loop-fresh l = SumSoFar l.total l.fresh-index (sum_by fresh_size (take l.fresh-index l.contents))
