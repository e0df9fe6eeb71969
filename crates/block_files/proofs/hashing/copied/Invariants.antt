use Rattle.std.proofs.Common.{ℕ, List}
use Rattle.block_files.specs.States.{AreStatesOf}
use Rattle.block_files.proofs.hashing.copied.Given as goal

abbrev pub invariant-loop-i : goal.invariant-loop-i
invariant-loop-i l = (bytes : List ℕ) → AreStatesOf bytes l.states → AreStatesOf bytes l.copies.items
