use Rattle.per_backup.proofs.Filled.{IsFilling}
use Rattle.per_backup.proofs.filling.contents_in.Given as goal

-- the storages before this one are filled
abbrev pub invariant-loop-number : goal.invariant-loop-number
invariant-loop-number l = IsFilling l.storages l.texts l.number l.all.items
