use Rattle.std.proofs.Common.{◌≡◌, ◌-◌, drop}
use Rattle.index_text.specs.Rules.{names_of}
use Rattle.index_text.specs.Reading.{ascends}
use Rattle.index_text.proofs.rules.names_ascend.Given as goal

-- what is left decides
abbrev pub invariant-loop-i : goal.invariant-loop-i
invariant-loop-i l = ascends (names_of l.entries) ≡ ascends (names_of (drop (l.i - 1) l.entries))
