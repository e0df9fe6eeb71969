use Rattle.std.proofs.Common.{◌≡◌, ◌-◌, drop}
use Rattle.index_text.specs.Reading.{ascends}
use Rattle.export_text.specs.Exports.{names_of}
use Rattle.export_text.proofs.contents.names_ascend.Given as goal

-- what is left decides
abbrev pub invariant-loop-i : goal.invariant-loop-i
invariant-loop-i l = ascends (names_of l.contents) ≡ ascends (names_of (drop (l.i - 1) l.contents))
