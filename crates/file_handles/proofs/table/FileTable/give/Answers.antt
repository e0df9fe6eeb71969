use Rattle.std.proofs.Common.{◌≡◌, rules, sym, subst, arith}
use Rattle.std.specs.Prelude.{None, IsTrue}
use Rattle.per_base.specs.declared.opening.OpenKind.TheVariants.{Write}
use Rattle.per_base.specs.Maps.{has}
use Rattle.file_core.specs.Files.{too_long}
use Rattle.file_handles.specs.Opening.{busy}
use Rattle.file_handles.specs.Sessions.{blocking, room_for}
use Rattle.file_handles.specs.Tables.{Table}
use Rattle.file_handles.specs.lemmas.Named.{give_sound}
use Rattle.file_handles.proofs.table.FileTable.give.Goals as goal

pub invariant_of-self : goal.invariant_of-self
invariant_of-self c =
    let fits : too_long (room_for c.self.inside.files.entries c.args.name.now c.self.inside.storage.maximum)
    c.len-after.result ≡ None = first_of (search rules, grind (arith)) in
    give_sound c.self.inside.storage c.self.inside.files.entries c.replace_in.new.files.entries
    c.self.inside.handles.entries c.args.name.now c.args.bytes c.args.now c.args.cause c.self.inside.size
    c.len_of-before.result c.len-after.result
    c.self.invariant.0 c.self.invariant.1
    (subst (λ (t : Table). busy (blocking Write c.args.name.now t.session.handles) ≡ None) (sym c.self.view_is)
    c.requires.free)
    (subst (λ (t : Table). IsTrue (has t.session.files c.args.name.now)) (sym c.self.view_is) c.requires.there)
    c.len_of-before.ensures.len c.len-after.ensures c.requires.small fits c.replace_in.ensures.replaced
    c.replace_in.ensures.keys
