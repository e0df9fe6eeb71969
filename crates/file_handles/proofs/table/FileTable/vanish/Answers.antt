use Rattle.std.proofs.Common.{◌≡◌, ◌+◌, sym, subst, arith}
use Rattle.std.specs.Prelude.{None}
use Rattle.per_base.specs.declared.opening.OpenKind.TheVariants.{Write}
use Rattle.file_handles.specs.Opening.{busy}
use Rattle.file_handles.specs.Sessions.{blocking}
use Rattle.file_handles.specs.Tables.{Table}
use Rattle.file_handles.specs.lemmas.Named.{busy_by_none, deleted_sound}
use Rattle.file_handles.proofs.table.FileTable.vanish.Goals as goal

pub invariant_of-self : goal.invariant_of-self
invariant_of-self c =
    deleted_sound c.self.inside.storage c.self.inside.files.entries c.remove_file.new.files.entries
    c.self.inside.handles.entries c.args.name.now c.in-Some.file.now c.self.inside.size
    (c.name_len.result + c.from.result)
    c.self.invariant.0 c.self.invariant.1
    (busy_by_none (blocking Write c.args.name.now c.self.inside.handles.entries)
    (subst (λ (t : Table). busy (blocking Write c.args.name.now t.session.handles) ≡ None) (sym c.self.view_is)
    c.requires.free))
    (sym c.in-Some.ensures.value)
    (omega (arith, c.name_len.ensures.exact, c.from.ensures, c.len.ensures.len)) c.remove_file.ensures.gone
    c.remove_file.ensures.names c.remove_file.ensures.few
