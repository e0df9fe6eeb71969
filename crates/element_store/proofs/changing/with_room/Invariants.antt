use Rattle.std.proofs.Common.{◌≡◌, ◌≤◌, ◌+◌, length, take}
use Rattle.std.specs.Vec.{vec_capacity}
use Rattle.element_store.proofs.changing.with_room.Given as goal

abbrev pub invariant-loop-entry : goal.invariant-loop-entry
invariant-loop-entry l = (l.copies.items ≡ take l.entry-index l.entries)
    × (length l.entries + l.more ≤ vec_capacity l.copies)
