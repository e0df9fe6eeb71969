use Rattle.std.proofs.Common.{◌≡◌, ◌*◌, ◌≤◌, take}
use Rattle.index_text.specs.Sizes.{size_of}
use Rattle.element_state.proofs.fitting.size_of.Given as goal

abbrev pub invariant-loop-entry : goal.invariant-loop-entry
invariant-loop-entry l = (l.total ≡ size_of (take l.entry-index l.entries)) × (l.total ≤ l.entry-index * 4294967550)
