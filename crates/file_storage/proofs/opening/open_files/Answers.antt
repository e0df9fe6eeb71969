use Rattle.std.proofs.Common.{◌≡◌, ◌≤◌, [], sym, ◌∙◌, ap, subst}
use Rattle.std.specs.Prelude.{map, Some}
use Rattle.std.specs.List.{AllByRecursion}
use Rattle.per_base.specs.declared.elements.StoreKind.TheVariants.{Files}
use Rattle.per_base.specs.Maps.{Map, element_at, size_of}
use Rattle.deployment_model.specs.Conditions.{IsStorage}
use Rattle.deployment_model.specs.Data.{StorageData, storage_data}
use Rattle.file_handles.specs.Sessions.{Session}
use Rattle.file_handles.specs.Tables.{AreFiles, Table}
use Rattle.element_state.specs.declared.shapes.Shape.{Shape}
use Rattle.element_state.specs.Views.{element_of}
use Rattle.element_store.specs.Stores.{store_shape}
use Rattle.element_maps.specs.Storages.{IsConfigured}
use Rattle.file_storage.specs.FileSessions.{storage_of, stored_in}
use Rattle.file_storage.specs.StoredFiles.{IsStoredFile}
use Rattle.file_storage.proofs.Synced.{none_storing, opened_storing}
use Rattle.file_storage.proofs.Stored.{files_are, is_shape, opened_is, opened_map, opened_room, opened_size}
use Rattle.file_storage.proofs.Stored.{stored_files}
use Rattle.file_storage.proofs.opening.open_files.Goals as goal

pub returns-in_err-name-clause-storing : goal.returns-in_err-name-clause-storing
returns-in_err-name-clause-storing g c = λ after. none_storing c.untouched_is_kept.ensures.untouched g.D.Disk.told
    c.args.shape after (g.D.Disk.medium c.args.disk.now)
    (is_shape (storage_data c.args.config.now) c.args.shape c.requires.valid c.requires.configured)
    (g.met.D.Disk.lawful c.args.disk.now)

pub returns-in_err-config-clause-storing : goal.returns-in_err-config-clause-storing
returns-in_err-config-clause-storing g c = λ after. none_storing c.untouched_is_kept.ensures.untouched g.D.Disk.told
    c.args.shape after (g.D.Disk.medium c.args.disk.now)
    (is_shape (storage_data c.args.config.now) c.args.shape c.requires.valid c.requires.configured)
    (g.met.D.Disk.lawful c.args.disk.now)

pub working_files-requires-clause-each : goal.working_files-requires-clause-each
working_files-requires-clause-each g c = subst (λ es. AllByRecursion IsStoredFile es) (sym c.into_vec-entries.ensures)
    (stored_files c.args.shape c.in_ok-opened.opened.before.entries c.requires.configured.kind
    c.in_ok-opened.ensures.read.each)

pub new-table-requires-clause-room : goal.new-table-requires-clause-room
new-table-requires-clause-room g c = subst (λ (m : Map). size_of m ≤ c.args.config.now.maximum)
    (sym (c.in_ok-files.ensures ∙ ap (map element_of) c.into_vec-entries.ensures))
    (opened_room (storage_data c.args.config.now) c.args.shape c.in_ok-opened.opened.before c.requires.configured
    c.in_ok-opened.ensures.read)

pub new-table-requires-clause-measured : goal.new-table-requires-clause-measured
new-table-requires-clause-measured g c = c.size-size.ensures
    ∙ opened_size c.args.shape c.in_ok-opened.opened.store c.in_ok-opened.opened.before c.in_ok-opened.ensures.view
    ∙ ap size_of (sym (c.in_ok-files.ensures ∙ ap (map element_of) c.into_vec-entries.ensures))

pub new-table-requires-clause-whole : goal.new-table-requires-clause-whole
new-table-requires-clause-whole g c = subst (λ (m : Map). AreFiles m)
    (sym (c.in_ok-files.ensures ∙ ap (map element_of) c.into_vec-entries.ensures))
    (files_are c.in_ok-opened.opened.before.entries (stored_files c.args.shape c.in_ok-opened.opened.before.entries
    c.requires.configured.kind c.in_ok-opened.ensures.read.each))

pub invariant_of-files : goal.invariant_of-files
invariant_of-files g c =
    let stored : stored_in c.in_ok-opened.opened.store ≡ c.new-table.result.session.files =
    opened_map c.args.shape c.in_ok-opened.opened.store c.in_ok-opened.opened.before c.in_ok-opened.ensures.view
    ∙ sym (ap (λ (t : Table). t.session.files) c.new-table.ensures ∙ c.in_ok-files.ensures
    ∙ ap (map element_of) c.into_vec-entries.ensures) in
    record {
      valid = subst (λ (d : StorageData). IsStorage d) (sym c.in_ok-config.ensures) c.requires.valid;
      configured = subst (λ (d : StorageData). IsConfigured Files d (store_shape c.in_ok-opened.opened.store))
          (sym c.in_ok-config.ensures)
          (subst (λ (sh : Shape). IsConfigured Files (storage_data c.args.config.now) sh)
          (sym c.in_ok-opened.ensures.shape) c.requires.configured);
      same_storage = ap (λ (t : Table). t.storage) c.new-table.ensures
          ∙ ap (λ n. storage_of (record (storage_data c.args.config.now) { name = n })) c.in_ok-name.ensures
          ∙ ap storage_of (sym c.in_ok-config.ensures);
      unreadable = λ name file at bad. subst (λ (m : Map). element_at m name ≡ Some file) (sym stored) at;
    }

pub returns-clause-session : goal.returns-clause-session
returns-clause-session g c =
    let stored : stored_in c.in_ok-opened.opened.store ≡ c.in_ok-files.files.entries =
    opened_map c.args.shape c.in_ok-opened.opened.store c.in_ok-opened.opened.before c.in_ok-opened.ensures.view
    ∙ sym (c.in_ok-files.ensures ∙ ap (map element_of) c.into_vec-entries.ensures) in
    ap (λ (t : Table). t.session) c.new-table.ensures ∙ ap
    (λ (m : Map). let s : Session = record { files = m; handles = [] } in s) (sym stored)

pub returns-clause-opened : goal.returns-clause-opened
returns-clause-opened g c = opened_is c.views_are_maps.ensures.untested g.D.Disk.told
    (g.D.Disk.medium c.args.disk.now).image c.args.shape c.in_ok-opened.opened.store c.in_ok-opened.opened.before _
    c.in_ok-opened.ensures.before c.in_ok-opened.ensures.view c.in_ok-opened.ensures.shape
    c.in_ok-opened.ensures.reports

pub returns-in_err-opened-clause-storing : goal.returns-in_err-opened-clause-storing
returns-in_err-opened-clause-storing g c = opened_storing g.D.Disk.told c.args.shape (g.D.Disk.medium c.args.disk.now)
    (g.D.Disk.medium c.open_store.new.disk)
    c.in_err-opened.ensures.elsewhere c.in_err-opened.ensures.outside c.in_err-opened.ensures.any_moment
    c.in_err-opened.ensures.time

pub returns-in_err-files-clause-storing : goal.returns-in_err-files-clause-storing
returns-in_err-files-clause-storing g c = opened_storing g.D.Disk.told c.args.shape (g.D.Disk.medium c.args.disk.now)
    (g.D.Disk.medium c.open_store.new.disk)
    c.in_ok-opened.ensures.elsewhere c.in_ok-opened.ensures.outside c.in_ok-opened.ensures.any_moment
    c.in_ok-opened.ensures.time

pub returns-clause-storing : goal.returns-clause-storing
returns-clause-storing g c = opened_storing g.D.Disk.told c.args.shape (g.D.Disk.medium c.args.disk.now)
    (g.D.Disk.medium c.open_store.new.disk)
    c.in_ok-opened.ensures.elsewhere c.in_ok-opened.ensures.outside c.in_ok-opened.ensures.any_moment
    c.in_ok-opened.ensures.time
