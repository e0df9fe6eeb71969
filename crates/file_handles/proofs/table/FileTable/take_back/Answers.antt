use Rattle.std.proofs.Common.{◌∙◌, ap}
use Rattle.per_base.specs.Maps.{Map}
use Rattle.file_handles.specs.Lending.{taken_back}
use Rattle.file_handles.specs.Tables.{Table}
use Rattle.file_handles.proofs.Lent.{back_table}
use Rattle.file_handles.proofs.table.FileTable.take_back.Goals as goal

pub invariant_of-self : goal.invariant_of-self
invariant_of-self c = back_table c.self.inside.storage c.self.inside.files.entries c.put_all_back.new.files.entries
    c.self.inside.handles.entries c.self.inside.size c.args.changes.items c.self.invariant c.put_all_back.ensures

pub returns : goal.returns
returns c =
    let table : Map → Table = λ files. record {
      storage = c.self.inside.storage;
      session = record { files = files; handles = c.self.inside.handles.entries };
      moment = c.self.inside.moment;
    } in
    ap table c.put_all_back.ensures ∙ ap (λ (t : Table). taken_back t c.args.changes.items) c.self.view_is
