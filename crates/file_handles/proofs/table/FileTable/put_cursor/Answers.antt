use Rattle.std.proofs.Common.{◌≡◌, sym, subst}
use Rattle.std.specs.Prelude.{Some, IsSome}
use Rattle.per_base.specs.Maps.{element_at}
use Rattle.file_handles.specs.declared.handle.Handle.{Handle}
use Rattle.file_handles.specs.Sessions.{IsHeldAt, handle_at}
use Rattle.file_handles.specs.Tables.{Table}
use Rattle.file_handles.specs.lemmas.Sound.{moved_there}
use Rattle.file_handles.proofs.table.FileTable.put_cursor.Goals as goal

pub invariant_of-self : goal.invariant_of-self
invariant_of-self c = (
  moved_there c.self.inside.storage c.self.inside.files.entries c.self.inside.handles.entries
      c.set_cursor.new.handles.entries c.args.number c.args.cursor
      c.self.invariant.0
      (subst (λ (t : Table). IsSome (handle_at t.session.handles c.args.number)) (sym c.self.view_is) c.requires.there)
      (subst (λ (t : Table). (handle : Handle) → handle_at t.session.handles c.args.number ≡ Some handle
      → (c.args.cursor.kind ≡ handle.cursor.kind) × IsHeldAt (element_at t.session.files handle.name)
      c.args.cursor.position) (sym c.self.view_is) c.requires.stands)
      c.set_cursor.ensures.moved c.set_cursor.ensures.keys,
  c.self.invariant.1,
)
