use Rattle.std.proofs.Common.{◌≡◌, ◌+◌, ◌-◌, ◌≤◌, sym, subst, arith}
use Rattle.std.specs.Prelude.{Ok}
use Rattle.per_base.specs.Maps.{size_of}
use Rattle.file_core.specs.Files as core
use Rattle.file_core.specs.declared.room.Room.{Room}
use Rattle.file_handles.specs.Handling as calls
use Rattle.file_handles.specs.Sessions.{Session, room_for, with_changed}
use Rattle.file_handles.specs.Tables.{Table}
use Rattle.file_handles.specs.lemmas.Entries.{len_fits}
use Rattle.file_handles.specs.lemmas.Sound.{changed}
use Rattle.file_handles.proofs.Through.{FileOf, file_of_handle, changed_ok, room_is}
use Rattle.file_handles.proofs.table.FileTable.write.Goals as goal

pub invariant_of-self-2 : goal.invariant_of-self-2
invariant_of-self-2 c =
    let o : FileOf c.self.inside.files.entries c.self.inside.handles.entries c.args.number c.in-Some.handle.now =
    file_of_handle c.self.inside.files.entries c.self.inside.handles.entries c.args.number c.in-Some.handle.now
    c.self.invariant.0.held (sym c.in-Some.ensures.value) in
    let len : c.len_of.result ≡ o.file.len = c.len_of.ensures.len o.file o.there in
    let fits : o.file.len ≤ size_of c.self.inside.files.entries =
    omega (arith, len_fits c.self.inside.files.entries c.in-Some.handle.now.name o.file o.there) in
    let measured : c.self.inside.size ≡ size_of c.self.inside.files.entries = c.self.invariant.1 in
    let room : size_of c.self.inside.files.entries ≤ c.self.inside.storage.maximum = c.self.invariant.0.room in
    let size : size_of c.write_file-written.new.files.entries + o.file.len
    ≡ size_of c.self.inside.files.entries + c.in-Ok.len = c.in-Ok.ensures.size o.file o.there in
    let within : c.self.inside.size - c.len_of.result + c.in-Ok.len ≤ c.self.inside.storage.maximum =
    c.in-Ok.ensures.within o.file o.there (omega (arith, len, fits, measured, room)) in (
      changed c.self.inside.storage c.self.inside.files.entries c.write_file-written.new.files.entries
          c.self.inside.handles.entries c.set_cursor.new.handles.entries c.args.number c.in-Some.handle.now
          c.write_file-written.new.cursor
          c.self.invariant.0 (sym c.in-Some.ensures.value) c.in-Ok.ensures.writer.0 c.in-Ok.ensures.writer.1
          c.in-Ok.ensures.keys c.in-Ok.ensures.beside
          (omega (arith, len, fits, measured, size, within, room)) c.in-Ok.ensures.file c.in-Ok.ensures.held
          (c.set_cursor.ensures.moved c.in-Some.handle.now (sym c.in-Some.ensures.value)) c.set_cursor.ensures.keys,
      omega (arith, len, fits, measured, size, c.from.ensures),
    )

pub returns-clause-ok : goal.returns-clause-ok
returns-clause-ok c =
    let o : FileOf c.self.inside.files.entries c.self.inside.handles.entries c.args.number c.in-Some.handle.now =
    file_of_handle c.self.inside.files.entries c.self.inside.handles.entries c.args.number c.in-Some.handle.now
    c.self.invariant.0.held (sym c.in-Some.ensures.value) in
    subst (λ (t : Table). calls.write t.storage t.session t.moment c.args.number c.args.piece.now
    ≡ Ok (let s : Session = record {
      files = c.write_file-written.new.files.entries;
      handles =
          c.set_cursor.new.handles.entries;
    } in s)) c.self.view_is
    (changed_ok c.self.inside.files.entries c.write_file-written.new.files.entries c.self.inside.handles.entries
    c.set_cursor.new.handles.entries c.args.number c.in-Some.handle.now c.write_file-written.new.cursor o
    (λ handle file. core.written handle.cursor file c.args.piece.now c.self.inside.moment
    (room_for c.self.inside.files.entries handle.name c.self.inside.storage.maximum))
    (subst (λ (room : Room). with_changed c.self.inside.files.entries c.in-Some.handle.now.name
    (core.written c.in-Some.handle.now.cursor o.file c.args.piece.now c.self.inside.moment room)
    ≡ Ok (c.write_file-written.new.cursor, c.write_file-written.new.files.entries))
    (room_is c.self.inside.files.entries c.in-Some.handle.now.name c.self.inside.size c.len_of.result
    c.self.inside.storage.maximum o.file o.there c.self.invariant.1 (c.len_of.ensures.len o.file o.there))
    (c.in-Ok.ensures.ok o.file o.there))
    (c.set_cursor.ensures.moved c.in-Some.handle.now (sym c.in-Some.ensures.value)))
