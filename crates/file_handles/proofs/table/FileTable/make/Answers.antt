use Rattle.std.proofs.Common.{◌≡◌, ◌+◌, ap, ◌∙◌, rules, sym, subst, arith}
use Rattle.std.specs.Prelude.{None}
use Rattle.per_base.specs.Maps.{element_at}
use Rattle.file_core.specs.Files.{IsFile, too_long}
use Rattle.file_handles.specs.Opening.{too_many}
use Rattle.file_handles.specs.Sessions.{room_for}
use Rattle.file_handles.specs.Tables.{Table}
use Rattle.file_handles.specs.lemmas.Named.{make_sound}
use Rattle.file_handles.specs.lemmas.Whole.{made_is_file}
use Rattle.file_handles.proofs.table.FileTable.make.Goals as goal

pub invariant_of-self-2 : goal.invariant_of-self-2
invariant_of-self-2 c =
    let fits : too_long (room_for c.self.inside.files.entries c.args.name.now c.self.inside.storage.maximum)
    c.len-len.result ≡ None = first_of (search rules, grind (arith)) in
    make_sound c.self.inside.storage c.self.inside.files.entries c.add_file-added.new.files.entries
    c.self.inside.handles.entries c.args.name.now c.new-file.result c.self.inside.size
    (c.name_len.result + c.len-len.result) c.len-len.result
    c.self.invariant.0 c.self.invariant.1
    (subst (λ (t : Table). element_at t.session.files c.args.name.now ≡ None) (sym c.self.view_is) c.requires.missing)
    (subst (λ (t : Table). too_many t.session.files c.args.name.now ≡ None) (sym c.self.view_is) c.requires.few)
    (omega (arith, c.name_len.ensures.exact))
    (subst IsFile (sym c.new-file.ensures) (made_is_file _ _ c.requires.small))
    (ap (λ e. e.len) c.new-file.ensures ∙ sym c.len-len.ensures)
    fits first_of (search rules, grind (arith)) first_of (search rules, grind (arith)) first_of
    (search rules, grind (arith))
