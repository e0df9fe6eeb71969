use Rattle.std.proofs.Common.{◌≡◌, ◌<◌, [], sym, ◌∙◌, ap, subst}
use Rattle.std.specs.Prelude.{false, map, true}
use Rattle.deployment_model.specs.Data.{storage_data}
use Rattle.element_state.specs.States.{Opens, greatest_generation}
use Rattle.element_maps.specs.Storages.{IsStoring}
use Rattle.element_store.specs.Stores.{store_shape, view_in}
use Rattle.element_store.specs.declared.store.Store.{Store}
use Rattle.file_handles.specs.Lending.{taken_back}
use Rattle.file_handles.specs.Tables.{IsTable, Table}
use Rattle.per_base.specs.Faults.{HandsBack}
use Rattle.per_base.specs.declared.faults.Fault.TheVariants.{OutOfMemory}
use Rattle.file_storage.specs.FileSessions.{AreAsStored, FilesInUse, storage_of, stored_in}
use Rattle.file_storage.specs.Syncs.{IsSynced, WritesAtMost, due_changes, is_synced, synced_view}
use Rattle.file_storage.specs.Walks.{bare}
use Rattle.file_storage.proofs.Bare.{last_sync, lendable}
use Rattle.file_storage.proofs.Synced.{commit_at_most, commit_storing, commit_synced}
use Rattle.file_storage.proofs.files.Files.commit_last.Goals as goal

pub lend-requires-clause-free : goal.lend-requires-clause-free
lend-requires-clause-free g c = subst (λ (s : FilesInUse). s.session.handles ≡ []) (sym c.self.view_is)
    c.requires.free

pub lend-requires-clause-ascend : goal.lend-requires-clause-ascend
lend-requires-clause-ascend g c =
    let table = subst (λ (s : FilesInUse). IsTable (storage_of s.config) s.session.files s.session.handles)
    (sym c.self.view_is) c.invariants.ensures.table in
    let unreadable = subst (λ (s : FilesInUse). AreAsStored (stored_in s.store) s.session.files) (sym c.self.view_is)
    c.invariants.ensures.unreadable in
    let bares = subst (λ (s : FilesInUse). c.args.changes.items ≡ map bare (due_changes s)) (sym c.self.view_is)
    c.requires.changes in
    let lends = lendable (storage_data c.self.inside.config) c.self.inside.store c.self.inside.table.session.files
    c.self.inside.table.session.handles c.args.changes.items table unreadable c.invariants-2.ensures bares in
    lends.ascend

pub lend-requires-clause-readable : goal.lend-requires-clause-readable
lend-requires-clause-readable g c =
    let table = subst (λ (s : FilesInUse). IsTable (storage_of s.config) s.session.files s.session.handles)
    (sym c.self.view_is) c.invariants.ensures.table in
    let unreadable = subst (λ (s : FilesInUse). AreAsStored (stored_in s.store) s.session.files) (sym c.self.view_is)
    c.invariants.ensures.unreadable in
    let bares = subst (λ (s : FilesInUse). c.args.changes.items ≡ map bare (due_changes s)) (sym c.self.view_is)
    c.requires.changes in
    let lends = lendable (storage_data c.self.inside.config) c.self.inside.store c.self.inside.table.session.files
    c.self.inside.table.session.handles c.args.changes.items table unreadable c.invariants-2.ensures bares in
    lends.readable

pub commit-requires-clause-changes : goal.commit-requires-clause-changes
commit-requires-clause-changes g c =
    let table = subst (λ (s : FilesInUse). IsTable (storage_of s.config) s.session.files s.session.handles)
    (sym c.self.view_is) c.invariants.ensures.table in
    let unreadable = subst (λ (s : FilesInUse). AreAsStored (stored_in s.store) s.session.files) (sym c.self.view_is)
    c.invariants.ensures.unreadable in
    let bares = subst (λ (s : FilesInUse). c.args.changes.items ≡ map bare (due_changes s)) (sym c.self.view_is)
    c.requires.changes in
    let sync = last_sync c.views_are_maps.ensures.untested (storage_data c.self.inside.config) c.self.inside.store
    c.self.inside.table.session.files c.self.inside.table.session.handles c.args.changes.items c.lend.new.changes.items
    table c.self.invariant.configured unreadable c.invariants-2.ensures bares c.lend.ensures.filled in
    let left = subst (λ (s : FilesInUse). (view_in s.store).generation < greatest_generation) (sym c.self.view_is)
    c.requires.not_worn in
    c.changes_make_maps.ensures.taken (store_shape c.self.inside.store) (λ bytes. true) (view_in c.self.inside.store)
    (stored_in c.self.inside.store) c.self.inside.table.session.files c.lend.new.changes.items sync left

pub returns-in-Ok-clause-synced : goal.returns-in-Ok-clause-synced
returns-in-Ok-clause-synced g c =
    let table = subst (λ (s : FilesInUse). IsTable (storage_of s.config) s.session.files s.session.handles)
    (sym c.self.view_is) c.invariants.ensures.table in
    let unreadable = subst (λ (s : FilesInUse). AreAsStored (stored_in s.store) s.session.files) (sym c.self.view_is)
    c.invariants.ensures.unreadable in
    let bares = subst (λ (s : FilesInUse). c.args.changes.items ≡ map bare (due_changes s)) (sym c.self.view_is)
    c.requires.changes in
    let sync = last_sync c.views_are_maps.ensures.untested (storage_data c.self.inside.config) c.self.inside.store
    c.self.inside.table.session.files c.self.inside.table.session.handles c.args.changes.items c.lend.new.changes.items
    table c.self.invariant.configured unreadable c.invariants-2.ensures bares c.lend.ensures.filled in
    let differ = subst (λ (s : FilesInUse). is_synced s ≡ false) (sym c.self.view_is) c.requires.differ in
    let before : FilesInUse = record {
      config = storage_data c.self.inside.config;
      store =
          c.self.inside.store;
      session = c.self.inside.table.session;
      moment = c.self.inside.table.moment;
    } in (
      record before { store = c.in-Ok.field-0 },
      subst (λ (s : FilesInUse). IsSynced g.D.Disk.told s (record before { store = c.in-Ok.field-0 })
          (g.D.Disk.medium c.args.disk.now) (g.D.Disk.medium c.commit.new.disk)) c.self.view_is
          (commit_synced before c.lend.new.changes.items sync differ c.changes_make_maps.ensures.committed
          c.changes_make_maps.ensures.held c.views_are_maps.ensures.untested c.changes_make_maps.ensures.cost
          c.changes_make_maps.ensures.others g.D.Disk.told c.in-Ok.field-0 (g.D.Disk.medium c.args.disk.now)
          (g.D.Disk.medium c.commit.new.disk)
          c.in-Ok.ensures.view c.in-Ok.ensures.shape c.in-Ok.ensures.used c.in-Ok.ensures.clean c.in-Ok.ensures.quiet
          c.in-Ok.ensures.written c.in-Ok.ensures.carried c.in-Ok.ensures.format c.in-Ok.ensures.text
          c.in-Ok.ensures.passes),
    )

pub returns-in-Ok-clause-at_most : goal.returns-in-Ok-clause-at_most
returns-in-Ok-clause-at_most g c =
    let table = subst (λ (s : FilesInUse). IsTable (storage_of s.config) s.session.files s.session.handles)
    (sym c.self.view_is) c.invariants.ensures.table in
    let unreadable = subst (λ (s : FilesInUse). AreAsStored (stored_in s.store) s.session.files) (sym c.self.view_is)
    c.invariants.ensures.unreadable in
    let bares = subst (λ (s : FilesInUse). c.args.changes.items ≡ map bare (due_changes s)) (sym c.self.view_is)
    c.requires.changes in
    let sync = last_sync c.views_are_maps.ensures.untested (storage_data c.self.inside.config) c.self.inside.store
    c.self.inside.table.session.files c.self.inside.table.session.handles c.args.changes.items c.lend.new.changes.items
    table c.self.invariant.configured unreadable c.invariants-2.ensures bares c.lend.ensures.filled in
    let differ = subst (λ (s : FilesInUse). is_synced s ≡ false) (sym c.self.view_is) c.requires.differ in
    let before : FilesInUse = record {
      config = storage_data c.self.inside.config;
      store =
          c.self.inside.store;
      session = c.self.inside.table.session;
      moment = c.self.inside.table.moment;
    } in
    subst (λ (s : FilesInUse). WritesAtMost s (g.D.Disk.medium c.args.disk.now) (g.D.Disk.medium c.commit.new.disk))
    c.self.view_is
    (commit_at_most before c.lend.new.changes.items sync differ c.changes_make_maps.ensures.committed
    c.changes_make_maps.ensures.cost (g.D.Disk.medium c.args.disk.now) (g.D.Disk.medium c.commit.new.disk)
    c.in-Ok.ensures.at_most)

pub returns-in-Ok-clause-storing : goal.returns-in-Ok-clause-storing
returns-in-Ok-clause-storing g c =
    let table = subst (λ (s : FilesInUse). IsTable (storage_of s.config) s.session.files s.session.handles)
    (sym c.self.view_is) c.invariants.ensures.table in
    let unreadable = subst (λ (s : FilesInUse). AreAsStored (stored_in s.store) s.session.files) (sym c.self.view_is)
    c.invariants.ensures.unreadable in
    let bares = subst (λ (s : FilesInUse). c.args.changes.items ≡ map bare (due_changes s)) (sym c.self.view_is)
    c.requires.changes in
    let sync = last_sync c.views_are_maps.ensures.untested (storage_data c.self.inside.config) c.self.inside.store
    c.self.inside.table.session.files c.self.inside.table.session.handles c.args.changes.items c.lend.new.changes.items
    table c.self.invariant.configured unreadable c.invariants-2.ensures bares c.lend.ensures.filled in
    let differ = subst (λ (s : FilesInUse). is_synced s ≡ false) (sym c.self.view_is) c.requires.differ in
    let before : FilesInUse = record {
      config = storage_data c.self.inside.config;
      store =
          c.self.inside.store;
      session = c.self.inside.table.session;
      moment = c.self.inside.table.moment;
    } in
    subst (λ (s : FilesInUse). IsStoring g.D.Disk.told (store_shape s.store) (Opens (synced_view s) [])
    (g.D.Disk.medium c.args.disk.now) (g.D.Disk.medium c.commit.new.disk)) c.self.view_is
    (commit_storing before c.lend.new.changes.items sync differ c.changes_make_maps.ensures.committed g.D.Disk.told
    (g.D.Disk.medium c.args.disk.now) (g.D.Disk.medium c.commit.new.disk)
    c.in-Ok.ensures.elsewhere c.in-Ok.ensures.outside c.in-Ok.ensures.any_moment c.in-Ok.ensures.time)

pub returns-in-Err-Device-clause-at_most : goal.returns-in-Err-Device-clause-at_most
returns-in-Err-Device-clause-at_most g c =
    let table = subst (λ (s : FilesInUse). IsTable (storage_of s.config) s.session.files s.session.handles)
    (sym c.self.view_is) c.invariants.ensures.table in
    let unreadable = subst (λ (s : FilesInUse). AreAsStored (stored_in s.store) s.session.files) (sym c.self.view_is)
    c.invariants.ensures.unreadable in
    let bares = subst (λ (s : FilesInUse). c.args.changes.items ≡ map bare (due_changes s)) (sym c.self.view_is)
    c.requires.changes in
    let sync = last_sync c.views_are_maps.ensures.untested (storage_data c.self.inside.config) c.self.inside.store
    c.self.inside.table.session.files c.self.inside.table.session.handles c.args.changes.items c.lend.new.changes.items
    table c.self.invariant.configured unreadable c.invariants-2.ensures bares c.lend.ensures.filled in
    let differ = subst (λ (s : FilesInUse). is_synced s ≡ false) (sym c.self.view_is) c.requires.differ in
    let before : FilesInUse = record {
      config = storage_data c.self.inside.config;
      store =
          c.self.inside.store;
      session = c.self.inside.table.session;
      moment = c.self.inside.table.moment;
    } in
    subst (λ (s : FilesInUse). WritesAtMost s (g.D.Disk.medium c.args.disk.now) (g.D.Disk.medium c.commit.new.disk))
    c.self.view_is
    (commit_at_most before c.lend.new.changes.items sync differ c.changes_make_maps.ensures.committed
    c.changes_make_maps.ensures.cost (g.D.Disk.medium c.args.disk.now) (g.D.Disk.medium c.commit.new.disk)
    c.in-Err-Device.ensures.at_most)

pub returns-in-Err-Device-clause-storing : goal.returns-in-Err-Device-clause-storing
returns-in-Err-Device-clause-storing g c =
    let table = subst (λ (s : FilesInUse). IsTable (storage_of s.config) s.session.files s.session.handles)
    (sym c.self.view_is) c.invariants.ensures.table in
    let unreadable = subst (λ (s : FilesInUse). AreAsStored (stored_in s.store) s.session.files) (sym c.self.view_is)
    c.invariants.ensures.unreadable in
    let bares = subst (λ (s : FilesInUse). c.args.changes.items ≡ map bare (due_changes s)) (sym c.self.view_is)
    c.requires.changes in
    let sync = last_sync c.views_are_maps.ensures.untested (storage_data c.self.inside.config) c.self.inside.store
    c.self.inside.table.session.files c.self.inside.table.session.handles c.args.changes.items c.lend.new.changes.items
    table c.self.invariant.configured unreadable c.invariants-2.ensures bares c.lend.ensures.filled in
    let differ = subst (λ (s : FilesInUse). is_synced s ≡ false) (sym c.self.view_is) c.requires.differ in
    let before : FilesInUse = record {
      config = storage_data c.self.inside.config;
      store =
          c.self.inside.store;
      session = c.self.inside.table.session;
      moment = c.self.inside.table.moment;
    } in
    subst (λ (s : FilesInUse). IsStoring g.D.Disk.told (store_shape s.store) (Opens (synced_view s) [])
    (g.D.Disk.medium c.args.disk.now) (g.D.Disk.medium c.commit.new.disk)) c.self.view_is
    (commit_storing before c.lend.new.changes.items sync differ c.changes_make_maps.ensures.committed g.D.Disk.told
    (g.D.Disk.medium c.args.disk.now) (g.D.Disk.medium c.commit.new.disk)
    c.in-Err-Device.ensures.elsewhere c.in-Err-Device.ensures.outside c.in-Err-Device.ensures.any_moment
    c.in-Err-Device.ensures.time)

pub returns-in-Err-OutOfMemory-clause-at_most : goal.returns-in-Err-OutOfMemory-clause-at_most
returns-in-Err-OutOfMemory-clause-at_most g c =
    let table = subst (λ (s : FilesInUse). IsTable (storage_of s.config) s.session.files s.session.handles)
    (sym c.self.view_is) c.invariants.ensures.table in
    let unreadable = subst (λ (s : FilesInUse). AreAsStored (stored_in s.store) s.session.files) (sym c.self.view_is)
    c.invariants.ensures.unreadable in
    let bares = subst (λ (s : FilesInUse). c.args.changes.items ≡ map bare (due_changes s)) (sym c.self.view_is)
    c.requires.changes in
    let sync = last_sync c.views_are_maps.ensures.untested (storage_data c.self.inside.config) c.self.inside.store
    c.self.inside.table.session.files c.self.inside.table.session.handles c.args.changes.items c.lend.new.changes.items
    table c.self.invariant.configured unreadable c.invariants-2.ensures bares c.lend.ensures.filled in
    let differ = subst (λ (s : FilesInUse). is_synced s ≡ false) (sym c.self.view_is) c.requires.differ in
    let before : FilesInUse = record {
      config = storage_data c.self.inside.config;
      store =
          c.self.inside.store;
      session = c.self.inside.table.session;
      moment = c.self.inside.table.moment;
    } in
    subst (λ (s : FilesInUse). WritesAtMost s (g.D.Disk.medium c.args.disk.now) (g.D.Disk.medium c.commit.new.disk))
    c.self.view_is
    (commit_at_most before c.lend.new.changes.items sync differ c.changes_make_maps.ensures.committed
    c.changes_make_maps.ensures.cost (g.D.Disk.medium c.args.disk.now) (g.D.Disk.medium c.commit.new.disk)
    c.in-Err-OutOfMemory.ensures.at_most)

pub returns-in-Err-OutOfMemory-clause-storing : goal.returns-in-Err-OutOfMemory-clause-storing
returns-in-Err-OutOfMemory-clause-storing g c =
    let table = subst (λ (s : FilesInUse). IsTable (storage_of s.config) s.session.files s.session.handles)
    (sym c.self.view_is) c.invariants.ensures.table in
    let unreadable = subst (λ (s : FilesInUse). AreAsStored (stored_in s.store) s.session.files) (sym c.self.view_is)
    c.invariants.ensures.unreadable in
    let bares = subst (λ (s : FilesInUse). c.args.changes.items ≡ map bare (due_changes s)) (sym c.self.view_is)
    c.requires.changes in
    let sync = last_sync c.views_are_maps.ensures.untested (storage_data c.self.inside.config) c.self.inside.store
    c.self.inside.table.session.files c.self.inside.table.session.handles c.args.changes.items c.lend.new.changes.items
    table c.self.invariant.configured unreadable c.invariants-2.ensures bares c.lend.ensures.filled in
    let differ = subst (λ (s : FilesInUse). is_synced s ≡ false) (sym c.self.view_is) c.requires.differ in
    let before : FilesInUse = record {
      config = storage_data c.self.inside.config;
      store =
          c.self.inside.store;
      session = c.self.inside.table.session;
      moment = c.self.inside.table.moment;
    } in
    subst (λ (s : FilesInUse). IsStoring g.D.Disk.told (store_shape s.store) (Opens (synced_view s) [])
    (g.D.Disk.medium c.args.disk.now) (g.D.Disk.medium c.commit.new.disk)) c.self.view_is
    (commit_storing before c.lend.new.changes.items sync differ c.changes_make_maps.ensures.committed g.D.Disk.told
    (g.D.Disk.medium c.args.disk.now) (g.D.Disk.medium c.commit.new.disk)
    c.in-Err-OutOfMemory.ensures.elsewhere c.in-Err-OutOfMemory.ensures.outside c.in-Err-OutOfMemory.ensures.any_moment
    c.in-Err-OutOfMemory.ensures.time)

-- where memory ran out, the table that took its bytes back is the very one
pub returns-in-Err-OutOfMemory-clause-memory : goal.returns-in-Err-OutOfMemory-clause-memory
returns-in-Err-OutOfMemory-clause-memory g c =
    let back : HandsBack (c.self.inside.store, c.lend.new.changes, c.lend.new.self)
    (OutOfMemory (c.in-Err-OutOfMemory.store, c.in-Err-OutOfMemory.changes, c.in-Err-OutOfMemory.table))
    (c.commit.new.disk ≡ c.args.disk.now) =
    rw c.in-Err-OutOfMemory.field-0-is at c.in-Err-OutOfMemory.ensures.memory in
    let table : c.take_back.new.self ≡ c.self.inside.table =
    c.take_back.ensures ∙ ap (λ given. taken_back given.2 given.1.items) back.0 ∙ c.lend.ensures.lent in
    let whole : Store → Table → FilesInUse = λ store table. record {
      config = storage_data c.self.inside.config;
      store = store;
      session = table.session;
      moment = table.moment;
    } in (
      ap (λ given. whole given.0 c.take_back.new.self) back.0 ∙ ap (whole c.self.inside.store) table ∙ c.self.view_is,
      back.1,
    )
