use Rattle.std.proofs.Common.{sym}
use Rattle.file_handles.specs.lemmas.Sound.{held_inside}
use Rattle.file_handles.proofs.table.FileTable.at.Goals as goal

pub returns-clause-inside : goal.returns-clause-inside
returns-clause-inside c =
    held_inside c.self.inside.files.entries c.self.inside.handles.entries c.args.number c.in_ok-handle.handle.now
    c.in_ok-file.file.now
    c.self.invariant.0.held (sym c.in_ok-handle.ensures.value) (sym c.in_ok-file.ensures.value)
