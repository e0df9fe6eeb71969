use Rattle.std.proofs.Common.{◌≡◌, length, take}
use Rattle.element_store.specs.Taking.{Loses}
use Rattle.element_store.proofs.taking.release.Given as goal

abbrev pub invariant-loop-block : goal.invariant-loop-block
invariant-loop-block l = Loses (take l.block-index l.blocks) l.fn.taken l.taken × (length l.taken ≡ length l.fn.taken)
