use Rattle.std.proofs.Common.{◌≡◌, length}
use Rattle.file_handles.specs.Lending.{all_put_back}
use Rattle.file_handles.proofs.lending.put_all_back.Given as goal

-- what is left to be put back
abbrev pub invariant-loop-change : goal.invariant-loop-change
invariant-loop-change l = all_put_back l.files.entries l.left.items ≡ all_put_back l.initial.files.entries
    l.fn.changes.items

abbrev pub decreases-loop-change : goal.decreases-loop-change
decreases-loop-change l = length l.left.items
