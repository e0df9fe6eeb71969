use Rattle.std.proofs.Common.{◌≤◌, length, arith}
use Rattle.file_handles.specs.lemmas.Sound.{closed}
use Rattle.file_handles.proofs.table.FileTable.release.Goals as goal

pub invariant_of-self : goal.invariant_of-self
invariant_of-self c = (
  closed c.self.inside.storage c.self.inside.files.entries c.self.inside.handles.entries
      c.remove-handle.new.self.entries c.args.number c.self.invariant.0 c.remove-handle.ensures.entries
      c.remove-handle.ensures.ordered
      (let few : length c.self.inside.handles.entries ≤ 64 =
      c.self.invariant.0.few_handles in omega (arith, few, c.remove-handle.ensures.len)),
  c.self.invariant.1,
)
