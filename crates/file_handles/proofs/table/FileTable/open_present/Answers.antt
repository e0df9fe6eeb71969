use Rattle.std.proofs.Common.{◌≡◌, sym, subst}
use Rattle.std.specs.Prelude.{None, IsTrue}
use Rattle.per_base.specs.Maps.{has}
use Rattle.file_handles.specs.Opening.{can_open}
use Rattle.file_handles.specs.Tables.{Table}
use Rattle.file_handles.specs.lemmas.Opens.{present_sound}
use Rattle.file_handles.proofs.table.FileTable.open_present.Goals as goal

pub invariant_of-self-2 : goal.invariant_of-self-2
invariant_of-self-2 c =
    present_sound c.self.inside.storage c.self.inside.files.entries c.self.inside.handles.entries
    c.reopen_file.new.files.entries c.add_handle.new.handles.entries c.args.name.now c.args.kind c.args.mode
    c.args.now c.free_number-number.result c.new-cursor.result c.self.inside.size c.len_of-before.result
    c.opened_len-size.result
    c.self.invariant.0
    (subst (λ (t : Table). can_open t.storage t.session c.args.name.now c.args.kind c.args.mode ≡ None)
    (sym c.self.view_is) c.requires.free)
    (subst (λ (t : Table). IsTrue (has t.session.files c.args.name.now)) (sym c.self.view_is) c.requires.there)
    c.self.invariant.1 c.len_of-before.ensures.len c.opened_len-size.ensures.len c.opened_len-size.ensures.smaller
    c.new-cursor.ensures.placed c.free_number-number.ensures.free c.reopen_file.ensures.opened
    c.reopen_file.ensures.keys
    c.in_ok-add_handle.ensures.ok c.in_ok-add_handle.ensures.ordered c.in_ok-add_handle.ensures.few
