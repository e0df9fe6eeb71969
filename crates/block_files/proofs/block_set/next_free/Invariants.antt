use Rattle.std.proofs.Common.{◌≡◌, ◌<◌, ◌≤◌, ℕ, true}
use Rattle.block_files.specs.BlockSets.{contains}
use Rattle.block_files.proofs.block_set.next_free.Given as goal

abbrev pub invariant-loop-block : goal.invariant-loop-block
invariant-loop-block l = (b : ℕ) → l.from ≤ b → b < l.block → contains l.flags b ≡ true
