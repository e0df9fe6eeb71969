use Rattle.std.proofs.Common.{◌≡◌, get_or, false}
use Rattle.guarded_cell.specs.Held.{copies_that}
use Rattle.guarded_cell.proofs.opening.numbers_of.Given as goal

abbrev pub invariant-loop-copy : goal.invariant-loop-copy
invariant-loop-copy l = l.numbers.items ≡ copies_that (λ copy. get_or l.chosen copy false) l.copy
