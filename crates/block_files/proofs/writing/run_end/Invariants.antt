use Rattle.block_files.specs.Writes.{IsRun}
use Rattle.block_files.proofs.writing.run_end.Given as goal

abbrev pub invariant-loop-i : goal.invariant-loop-i
invariant-loop-i l = IsRun l.blocks l.bytes l.was l.first l.i
