use Rattle.file_handles.proofs.Lent.{IsLending}
use Rattle.file_handles.proofs.lending.lend_all.Given as goal

abbrev pub invariant-loop-change : goal.invariant-loop-change
invariant-loop-change l = IsLending l.initial.files.entries l.files.entries l.initial.change-items l.change-items
    l.change-index
