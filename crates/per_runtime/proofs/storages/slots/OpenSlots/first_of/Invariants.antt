use Rattle.std.proofs.Common.{◌≡◌, ◌<◌, ℕ, None}
use Rattle.per_runtime.specs.storages.Slots.{slot_at}
use Rattle.per_runtime.proofs.storages.slots.OpenSlots.first_of.Given as goal

abbrev pub invariant-loop-number : goal.invariant-loop-number
invariant-loop-number l = (k : ℕ) → k < l.number → slot_at l.self k ≡ None
