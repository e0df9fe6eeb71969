use Rattle.std.proofs.Common.{◌≡◌, ◌+◌, ◌≤◌, sym, subst, arith}
use Rattle.std.specs.Prelude.{Ok}
use Rattle.per_base.specs.Maps.{size_of}
use Rattle.file_core.specs.Files as core
use Rattle.file_handles.specs.Handling as calls
use Rattle.file_handles.specs.Sessions.{Session}
use Rattle.file_handles.specs.Tables.{Table}
use Rattle.file_handles.specs.lemmas.Entries.{len_fits}
use Rattle.file_handles.specs.lemmas.Sound.{changed}
use Rattle.file_handles.proofs.Through.{FileOf, file_of_handle, changed_ok}
use Rattle.file_handles.proofs.table.FileTable.set_size.Goals as goal

pub invariant_of-self-2 : goal.invariant_of-self-2
invariant_of-self-2 c =
    let o : FileOf c.self.inside.files.entries c.self.inside.handles.entries c.args.number c.in-Some.handle.now =
    file_of_handle c.self.inside.files.entries c.self.inside.handles.entries c.args.number c.in-Some.handle.now
    c.self.invariant.0.held (sym c.in-Some.ensures.value) in
    let len : c.len_of.result ≡ o.file.len = c.len_of.ensures.len o.file o.there in
    let fits : o.file.len ≤ size_of c.self.inside.files.entries =
    omega (arith, len_fits c.self.inside.files.entries c.in-Some.handle.now.name o.file o.there) in
    let measured : c.self.inside.size ≡ size_of c.self.inside.files.entries = c.self.invariant.1 in
    let room : size_of c.self.inside.files.entries ≤ c.self.inside.storage.maximum = c.self.invariant.0.room in
    let size : size_of c.cut_file-cut.new.files.entries + o.file.len
    ≡ size_of c.self.inside.files.entries + c.in-Ok.len = c.in-Ok.ensures.size o.file o.there in
    let within : c.in-Ok.len ≤ o.file.len = c.in-Ok.ensures.smaller o.file o.there in (
      changed c.self.inside.storage c.self.inside.files.entries c.cut_file-cut.new.files.entries
          c.self.inside.handles.entries c.set_cursor.new.handles.entries c.args.number c.in-Some.handle.now
          c.cut_file-cut.new.cursor
          c.self.invariant.0 (sym c.in-Some.ensures.value) c.in-Ok.ensures.writer.0 c.in-Ok.ensures.writer.1
          c.in-Ok.ensures.keys c.in-Ok.ensures.beside
          (omega (arith, len, fits, measured, size, within, room)) c.in-Ok.ensures.file c.in-Ok.ensures.held
          (c.set_cursor.ensures.moved c.in-Some.handle.now (sym c.in-Some.ensures.value)) c.set_cursor.ensures.keys,
      omega (arith, len, fits, measured, size, c.from.ensures),
    )

pub returns-clause-ok : goal.returns-clause-ok
returns-clause-ok c =
    let o : FileOf c.self.inside.files.entries c.self.inside.handles.entries c.args.number c.in-Some.handle.now =
    file_of_handle c.self.inside.files.entries c.self.inside.handles.entries c.args.number c.in-Some.handle.now
    c.self.invariant.0.held (sym c.in-Some.ensures.value) in
    subst (λ (t : Table). calls.set_size t.session t.moment c.args.number c.args.size
    ≡ Ok (let s : Session = record {
      files = c.cut_file-cut.new.files.entries;
      handles =
          c.set_cursor.new.handles.entries;
    } in s)) c.self.view_is
    (changed_ok c.self.inside.files.entries c.cut_file-cut.new.files.entries c.self.inside.handles.entries
    c.set_cursor.new.handles.entries c.args.number c.in-Some.handle.now c.cut_file-cut.new.cursor o
    (λ handle file. core.cut handle.cursor file c.args.size c.self.inside.moment)
    (c.in-Ok.ensures.ok o.file o.there)
    (c.set_cursor.ensures.moved c.in-Some.handle.now (sym c.in-Some.ensures.value)))
