use Rattle.std.proofs.Common.{◌≡◌, ◌+◌, not}
use Rattle.std.specs.Prelude.{◌==◌}
use Rattle.std.specs.List.{list_any}
use Rattle.guarded_cell.specs.Held.{copies_that}
use Rattle.deploy.proofs.viewing.lacking_of.Given as goal

abbrev pub invariant-loop-copy : goal.invariant-loop-copy
invariant-loop-copy l = l.lacking.items ≡ copies_that (λ copy. not (list_any (λ number. number == copy + 1) l.holding))
    l.copy
