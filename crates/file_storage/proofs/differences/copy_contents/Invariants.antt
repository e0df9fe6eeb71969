use Rattle.file_storage.proofs.Copied.{IsCopying}
use Rattle.file_storage.proofs.differences.copy_contents.Given as goal

abbrev pub invariant-loop-change : goal.invariant-loop-change
invariant-loop-change l = IsCopying l.files.entries l.initial.change-items l.change-items l.change-index
