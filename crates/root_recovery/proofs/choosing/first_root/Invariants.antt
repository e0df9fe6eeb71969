use Rattle.std.proofs.Common.{◌≡◌, drop, find}
use Rattle.root_recovery.specs.Recoveries.{is_root_text}
use Rattle.root_recovery.proofs.choosing.first_root.Given as goal

-- what is left has the first
abbrev pub invariant-loop-seen : goal.invariant-loop-seen
invariant-loop-seen l = find is_root_text l.seens ≡ find is_root_text (drop l.seen-index l.seens)
