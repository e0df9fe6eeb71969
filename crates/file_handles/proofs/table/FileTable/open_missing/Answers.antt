use Rattle.std.proofs.Common.{◌≡◌, sym, subst}
use Rattle.std.specs.Prelude.{None}
use Rattle.per_base.specs.Maps.{element_at}
use Rattle.file_handles.specs.Opening.{can_open, no_room_to_create}
use Rattle.file_handles.specs.Tables.{Table}
use Rattle.file_handles.specs.lemmas.Opens.{missing_sound}
use Rattle.file_handles.proofs.table.FileTable.open_missing.Goals as goal

pub invariant_of-self-2 : goal.invariant_of-self-2
invariant_of-self-2 c =
    missing_sound c.self.inside.storage c.self.inside.files.entries c.self.inside.handles.entries
    c.add_file_and_handle.new.files.entries c.add_file_and_handle.new.handles.entries c.args.name.now c.args.kind
    c.args.mode c.args.now c.free_number-number.result c.new-cursor.result c.empty_file-empty.result
    c.self.inside.size c.name_len-extra.result
    c.self.invariant.0
    (subst (λ (t : Table). can_open t.storage t.session c.args.name.now c.args.kind c.args.mode ≡ None)
    (sym c.self.view_is) c.requires.free)
    (subst (λ (t : Table). element_at t.session.files c.args.name.now ≡ None) (sym c.self.view_is) c.requires.missing)
    (subst (λ (t : Table). no_room_to_create t.storage t.session.files c.args.name.now ≡ None) (sym c.self.view_is)
    c.requires.space)
    c.self.invariant.1 c.name_len-extra.ensures.exact c.empty_file-empty.ensures c.new-cursor.ensures.placed
    c.free_number-number.ensures.free
    c.in_ok-add_file_and_handle.ensures.files c.in_ok-add_file_and_handle.ensures.names
    c.in_ok-add_file_and_handle.ensures.few_files
    c.in_ok-add_file_and_handle.ensures.handles c.in_ok-add_file_and_handle.ensures.numbers
    c.in_ok-add_file_and_handle.ensures.few_handles
