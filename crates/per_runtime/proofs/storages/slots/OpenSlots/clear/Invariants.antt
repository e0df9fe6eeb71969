use Rattle.std.proofs.Common.{◌≡◌, ◌<◌, ℕ, None, Some, length, slice_get}
use Rattle.per_runtime.proofs.storages.slots.OpenSlots.clear.Given as goal

abbrev pub invariant-loop-number : goal.invariant-loop-number
invariant-loop-number l = (length l.self.open.items ≡ 16)
    × ((k : ℕ) → k < l.number → slice_get l.self.open.items k ≡ Some None)
