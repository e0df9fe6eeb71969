use Rattle.std.proofs.Common.{◌≡◌, None, Option, replicate}
use Rattle.open_storages.specs.declared.opens.Open.{Open}
use Rattle.per_runtime.proofs.storages.slots.OpenSlots.new.Given as goal

abbrev pub invariant-loop : goal.invariant-loop
invariant-loop l = l.open.items ≡ replicate {A = Option Open} l.counter None
