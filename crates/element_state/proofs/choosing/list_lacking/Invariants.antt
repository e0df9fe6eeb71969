use Rattle.std.proofs.Common.{◌≡◌, ◌+◌, not}
use Rattle.disk_model.specs.Orders.{named_in}
use Rattle.element_state.specs.Views.{store_lacking}
use Rattle.element_state.proofs.choosing.list_lacking.Given as goal

abbrev pub invariant-loop-copy : goal.invariant-loop-copy
invariant-loop-copy l = l.numbers.items ≡ store_lacking l.scope (λ copy. not (named_in l.holders (copy + 1))) l.entries
    l.copy
