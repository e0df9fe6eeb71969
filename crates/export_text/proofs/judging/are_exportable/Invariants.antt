use Rattle.std.proofs.Common.{take}
use Rattle.std.specs.List.{AllByRecursion}
use Rattle.export_text.specs.Exports.{IsExportable}
use Rattle.export_text.proofs.judging.are_exportable.Given as goal

-- those so far can be
abbrev pub invariant-loop-fresh : goal.invariant-loop-fresh
invariant-loop-fresh l = AllByRecursion (IsExportable l.kind) (take l.fresh-index l.contents)
