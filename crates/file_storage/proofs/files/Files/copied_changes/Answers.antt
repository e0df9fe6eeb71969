use Rattle.std.proofs.Common.{◌≡◌, sym, ◌∙◌, ap, subst}
use Rattle.std.specs.Prelude.{map, true}
use Rattle.per_base.specs.Maps.{Map}
use Rattle.file_handles.specs.Lending.{filled}
use Rattle.file_handles.specs.Tables.{IsTable}
use Rattle.deployment_model.specs.Data.{storage_data}
use Rattle.element_maps.specs.Sessions.{IsSync}
use Rattle.element_store.specs.Stores.{store_shape, view_in}
use Rattle.file_storage.specs.FileSessions.{AreAsStored, FilesInUse, storage_of, stored_in}
use Rattle.file_storage.specs.Syncs.{due_changes}
use Rattle.file_storage.specs.Walks.{bare}
use Rattle.file_storage.proofs.Bare.{last_sync}
use Rattle.file_storage.proofs.files.Files.copied_changes.Goals as goal

pub returns : goal.returns
returns c =
    let table = subst (λ (s : FilesInUse). IsTable (storage_of s.config) s.session.files s.session.handles)
    (sym c.self.view_is) c.invariants.ensures.table in
    let unreadable = subst (λ (s : FilesInUse). AreAsStored (stored_in s.store) s.session.files) (sym c.self.view_is)
    c.invariants.ensures.unreadable in
    let bares = subst (λ (s : FilesInUse). c.in_ok-changes.changes.items ≡ map bare (due_changes s))
    (sym c.self.view_is) c.in_ok-changes.ensures in
    let made = c.in_ok-copy_contents.ensures
    ∙ ap (λ (m : Map). map (filled m) c.in_ok-changes.changes.items) c.files.ensures in
    subst (λ (s : FilesInUse). IsSync (store_shape s.store) (λ bytes. true) (view_in s.store) (stored_in s.store)
    s.session.files c.copy_contents.new.changes.items) c.self.view_is
    (last_sync c.views_are_maps.ensures.untested (storage_data c.self.inside.config) c.self.inside.store
    c.self.inside.table.session.files c.self.inside.table.session.handles c.in_ok-changes.changes.items
    c.copy_contents.new.changes.items table c.self.invariant.configured unreadable c.invariants-2.ensures bares made)
