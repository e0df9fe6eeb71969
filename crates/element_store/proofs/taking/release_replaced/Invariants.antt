use Rattle.std.proofs.Common.{◌≡◌, ℕ, length, take}
use Rattle.std.specs.Prelude.{not, ◌&&◌, ◌||◌}
use Rattle.disk_model.specs.Orders.{named_in}
use Rattle.block_files.specs.BlockSets.{contains}
use Rattle.index_text.specs.Rules.{blocks_of}
use Rattle.element_store.specs.Taking.{Loses}
use Rattle.element_store.proofs.taking.release_replaced.Given as goal

abbrev pub invariant-loop-entry : goal.invariant-loop-entry
invariant-loop-entry l = Loses (blocks_of (take l.entry-index l.earlier)) l.fn.taken l.taken
    × (length l.taken ≡ length l.fn.taken)

abbrev pub invariant-loop-entry-2 : goal.invariant-loop-entry-2
invariant-loop-entry-2 l =
    ((b : ℕ) → contains l.taken b ≡ ((contains l.fn.taken b && not (named_in (blocks_of l.fn.earlier) b))
    || named_in (blocks_of (take l.entry-index l.later)) b))
    × (length l.taken ≡ length l.fn.taken)
