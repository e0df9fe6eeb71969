use Rattle.std.proofs.Common.{◌≡◌, map, take}
use Rattle.element_state.specs.States.{mended_entry}
use Rattle.element_store.proofs.mending.mended_entries.Given as goal

abbrev pub invariant-loop-view : goal.invariant-loop-view
invariant-loop-view l = l.mended.items ≡ map mended_entry (take l.view-index l.views)
