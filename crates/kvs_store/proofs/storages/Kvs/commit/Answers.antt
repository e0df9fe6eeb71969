use Rattle.std.proofs.Common.{◌≡◌, ◌<◌, [], sym, subst}
use Rattle.std.specs.Prelude.{false}
use Rattle.element_state.specs.States.{Opens, greatest_generation}
use Rattle.element_maps.specs.Differences.{MakeInto}
use Rattle.element_maps.specs.Storages.{IsStoring}
use Rattle.element_store.specs.declared.store.Store.{Store}
use Rattle.element_store.specs.Stores.{store_shape, view_in}
use Rattle.key_maps.specs.KeyElements.{is_encoding}
use Rattle.key_maps.specs.TwoMaps.{AreTwoMaps}
use Rattle.kvs_core.specs.Sessions.{HasRoom, Session}
use Rattle.kvs_store.specs.Storages.{IsOpen, KvsSession}
use Rattle.kvs_store.specs.Synced.{IsSynced, WritesAtMost, is_synced, marked_synced, synced_view}
use Rattle.kvs_store.proofs.Synced.{commit_at_most, commit_storing, commit_synced, is_sync, open_later}
use Rattle.kvs_store.proofs.storages.Kvs.commit.Goals as goal

-- this session over this storage
abbrev later : Store → Session → KvsSession
later store s = record { config = s.config; store = store; session = record { synced = s.synced; visible = s.visible } }

pub commit-requires-clause-changes : goal.commit-requires-clause-changes
commit-requires-clause-changes g c =
    let before : KvsSession = record {
      config = c.self.inside.session.config;
      store = c.self.inside.store;
      session =
          record { synced = c.self.inside.session.synced; visible = c.self.inside.session.visible };
    } in
    let maps = subst (λ (s : KvsSession). AreTwoMaps s.session) (sym c.self.view_is) c.invariants.ensures.maps in
    let room = subst (λ (s : KvsSession). HasRoom s.config s.session) (sym c.self.view_is) c.invariants.ensures.room in
    let made = subst (λ (s : KvsSession). MakeInto c.args.changes.items s.session.synced s.session.visible)
    (sym c.self.view_is) c.requires.changes in
    let left = subst (λ (s : KvsSession). (view_in s.store).generation < greatest_generation) (sym c.self.view_is)
    c.requires.not_worn in
    c.changes_make_maps.ensures.taken (store_shape before.store) is_encoding (view_in before.store) before.session.synced
    before.session.visible c.args.changes.items
    (is_sync before c.self.invariant c.invariants-2.ensures maps room c.args.changes.items made) left

pub invariant_of-result : goal.invariant_of-result
invariant_of-result g c =
    let before : KvsSession = record {
      config = c.self.inside.session.config;
      store = c.self.inside.store;
      session =
          record { synced = c.self.inside.session.synced; visible = c.self.inside.session.visible };
    } in
    let maps = subst (λ (s : KvsSession). AreTwoMaps s.session) (sym c.self.view_is) c.invariants.ensures.maps in
    let room = subst (λ (s : KvsSession). HasRoom s.config s.session) (sym c.self.view_is) c.invariants.ensures.room in
    let made = subst (λ (s : KvsSession). MakeInto c.args.changes.items s.session.synced s.session.visible)
    (sym c.self.view_is) c.requires.changes in
    subst (λ (s : Session). IsOpen c.in-Ok.store s) (sym c.mark_synced.ensures)
    (open_later before c.self.invariant c.invariants-2.ensures maps room c.args.changes.items made
    c.changes_make_maps.ensures.committed c.changes_make_maps.ensures.held
    c.in-Ok.store c.in-Ok.ensures.shape c.in-Ok.ensures.view)

pub returns-in-Ok-clause-synced : goal.returns-in-Ok-clause-synced
returns-in-Ok-clause-synced g c =
    let before : KvsSession = record {
      config = c.self.inside.session.config;
      store = c.self.inside.store;
      session =
          record { synced = c.self.inside.session.synced; visible = c.self.inside.session.visible };
    } in
    let maps = subst (λ (s : KvsSession). AreTwoMaps s.session) (sym c.self.view_is) c.invariants.ensures.maps in
    let room = subst (λ (s : KvsSession). HasRoom s.config s.session) (sym c.self.view_is) c.invariants.ensures.room in
    let made = subst (λ (s : KvsSession). MakeInto c.args.changes.items s.session.synced s.session.visible)
    (sym c.self.view_is) c.requires.changes in
    let differ = subst (λ (s : KvsSession). is_synced s ≡ false) (sym c.self.view_is) c.requires.differ in
    let sync = is_sync before c.self.invariant c.invariants-2.ensures maps room c.args.changes.items made in
    subst (λ (s : Session). IsSynced g.D.Disk.told c.args.self (later c.in-Ok.store s) (g.D.Disk.medium c.args.disk.now)
    (g.D.Disk.medium c.commit.new.disk)) (sym c.mark_synced.ensures)
    (subst (λ (s : KvsSession). IsSynced g.D.Disk.told s
    (record before { store = c.in-Ok.store; session = marked_synced before.session })
    (g.D.Disk.medium c.args.disk.now) (g.D.Disk.medium c.commit.new.disk)) c.self.view_is
    (commit_synced before c.args.changes.items sync differ c.changes_make_maps.ensures.committed
    c.changes_make_maps.ensures.cost c.changes_make_maps.ensures.others
    g.D.Disk.told c.in-Ok.store (g.D.Disk.medium c.args.disk.now) (g.D.Disk.medium c.commit.new.disk)
    c.in-Ok.ensures.view c.in-Ok.ensures.shape c.in-Ok.ensures.used c.in-Ok.ensures.clean c.in-Ok.ensures.quiet
    c.in-Ok.ensures.written c.in-Ok.ensures.carried c.in-Ok.ensures.format c.in-Ok.ensures.text
    c.in-Ok.ensures.passes))

pub returns-in-Ok-clause-at_most : goal.returns-in-Ok-clause-at_most
returns-in-Ok-clause-at_most g c =
    let before : KvsSession = record {
      config = c.self.inside.session.config;
      store = c.self.inside.store;
      session =
          record { synced = c.self.inside.session.synced; visible = c.self.inside.session.visible };
    } in
    let maps = subst (λ (s : KvsSession). AreTwoMaps s.session) (sym c.self.view_is) c.invariants.ensures.maps in
    let room = subst (λ (s : KvsSession). HasRoom s.config s.session) (sym c.self.view_is) c.invariants.ensures.room in
    let made = subst (λ (s : KvsSession). MakeInto c.args.changes.items s.session.synced s.session.visible)
    (sym c.self.view_is) c.requires.changes in
    let differ = subst (λ (s : KvsSession). is_synced s ≡ false) (sym c.self.view_is) c.requires.differ in
    let sync = is_sync before c.self.invariant c.invariants-2.ensures maps room c.args.changes.items made in
    subst (λ (s : KvsSession). WritesAtMost s (g.D.Disk.medium c.args.disk.now) (g.D.Disk.medium c.commit.new.disk))
    c.self.view_is
    (commit_at_most before c.args.changes.items sync differ c.changes_make_maps.ensures.committed
    c.changes_make_maps.ensures.cost (g.D.Disk.medium c.args.disk.now) (g.D.Disk.medium c.commit.new.disk)
    c.in-Ok.ensures.at_most)

pub returns-in-Ok-clause-storing : goal.returns-in-Ok-clause-storing
returns-in-Ok-clause-storing g c =
    let before : KvsSession = record {
      config = c.self.inside.session.config;
      store = c.self.inside.store;
      session =
          record { synced = c.self.inside.session.synced; visible = c.self.inside.session.visible };
    } in
    let maps = subst (λ (s : KvsSession). AreTwoMaps s.session) (sym c.self.view_is) c.invariants.ensures.maps in
    let room = subst (λ (s : KvsSession). HasRoom s.config s.session) (sym c.self.view_is) c.invariants.ensures.room in
    let made = subst (λ (s : KvsSession). MakeInto c.args.changes.items s.session.synced s.session.visible)
    (sym c.self.view_is) c.requires.changes in
    let differ = subst (λ (s : KvsSession). is_synced s ≡ false) (sym c.self.view_is) c.requires.differ in
    let sync = is_sync before c.self.invariant c.invariants-2.ensures maps room c.args.changes.items made in
    subst (λ (s : KvsSession). IsStoring g.D.Disk.told (store_shape s.store) (Opens (synced_view s) [])
    (g.D.Disk.medium c.args.disk.now) (g.D.Disk.medium c.commit.new.disk)) c.self.view_is
    (commit_storing before c.args.changes.items sync differ c.changes_make_maps.ensures.committed g.D.Disk.told
    (g.D.Disk.medium c.args.disk.now) (g.D.Disk.medium c.commit.new.disk)
    c.in-Ok.ensures.elsewhere c.in-Ok.ensures.outside c.in-Ok.ensures.any_moment c.in-Ok.ensures.time)

pub returns-in-Err-Device-clause-at_most : goal.returns-in-Err-Device-clause-at_most
returns-in-Err-Device-clause-at_most g c =
    let before : KvsSession = record {
      config = c.self.inside.session.config;
      store = c.self.inside.store;
      session =
          record { synced = c.self.inside.session.synced; visible = c.self.inside.session.visible };
    } in
    let maps = subst (λ (s : KvsSession). AreTwoMaps s.session) (sym c.self.view_is) c.invariants.ensures.maps in
    let room = subst (λ (s : KvsSession). HasRoom s.config s.session) (sym c.self.view_is) c.invariants.ensures.room in
    let made = subst (λ (s : KvsSession). MakeInto c.args.changes.items s.session.synced s.session.visible)
    (sym c.self.view_is) c.requires.changes in
    let differ = subst (λ (s : KvsSession). is_synced s ≡ false) (sym c.self.view_is) c.requires.differ in
    let sync = is_sync before c.self.invariant c.invariants-2.ensures maps room c.args.changes.items made in
    subst (λ (s : KvsSession). WritesAtMost s (g.D.Disk.medium c.args.disk.now) (g.D.Disk.medium c.commit.new.disk))
    c.self.view_is
    (commit_at_most before c.args.changes.items sync differ c.changes_make_maps.ensures.committed
    c.changes_make_maps.ensures.cost (g.D.Disk.medium c.args.disk.now) (g.D.Disk.medium c.commit.new.disk)
    c.in-Err-Device.ensures.at_most)

pub returns-in-Err-Device-clause-storing : goal.returns-in-Err-Device-clause-storing
returns-in-Err-Device-clause-storing g c =
    let before : KvsSession = record {
      config = c.self.inside.session.config;
      store = c.self.inside.store;
      session =
          record { synced = c.self.inside.session.synced; visible = c.self.inside.session.visible };
    } in
    let maps = subst (λ (s : KvsSession). AreTwoMaps s.session) (sym c.self.view_is) c.invariants.ensures.maps in
    let room = subst (λ (s : KvsSession). HasRoom s.config s.session) (sym c.self.view_is) c.invariants.ensures.room in
    let made = subst (λ (s : KvsSession). MakeInto c.args.changes.items s.session.synced s.session.visible)
    (sym c.self.view_is) c.requires.changes in
    let differ = subst (λ (s : KvsSession). is_synced s ≡ false) (sym c.self.view_is) c.requires.differ in
    let sync = is_sync before c.self.invariant c.invariants-2.ensures maps room c.args.changes.items made in
    subst (λ (s : KvsSession). IsStoring g.D.Disk.told (store_shape s.store) (Opens (synced_view s) [])
    (g.D.Disk.medium c.args.disk.now) (g.D.Disk.medium c.commit.new.disk)) c.self.view_is
    (commit_storing before c.args.changes.items sync differ c.changes_make_maps.ensures.committed g.D.Disk.told
    (g.D.Disk.medium c.args.disk.now) (g.D.Disk.medium c.commit.new.disk)
    c.in-Err-Device.ensures.elsewhere c.in-Err-Device.ensures.outside c.in-Err-Device.ensures.any_moment
    c.in-Err-Device.ensures.time)

pub returns-in-Err-OutOfMemory-clause-at_most : goal.returns-in-Err-OutOfMemory-clause-at_most
returns-in-Err-OutOfMemory-clause-at_most g c =
    let before : KvsSession = record {
      config = c.self.inside.session.config;
      store = c.self.inside.store;
      session =
          record { synced = c.self.inside.session.synced; visible = c.self.inside.session.visible };
    } in
    let maps = subst (λ (s : KvsSession). AreTwoMaps s.session) (sym c.self.view_is) c.invariants.ensures.maps in
    let room = subst (λ (s : KvsSession). HasRoom s.config s.session) (sym c.self.view_is) c.invariants.ensures.room in
    let made = subst (λ (s : KvsSession). MakeInto c.args.changes.items s.session.synced s.session.visible)
    (sym c.self.view_is) c.requires.changes in
    let differ = subst (λ (s : KvsSession). is_synced s ≡ false) (sym c.self.view_is) c.requires.differ in
    let sync = is_sync before c.self.invariant c.invariants-2.ensures maps room c.args.changes.items made in
    subst (λ (s : KvsSession). WritesAtMost s (g.D.Disk.medium c.args.disk.now) (g.D.Disk.medium c.commit.new.disk))
    c.self.view_is
    (commit_at_most before c.args.changes.items sync differ c.changes_make_maps.ensures.committed
    c.changes_make_maps.ensures.cost (g.D.Disk.medium c.args.disk.now) (g.D.Disk.medium c.commit.new.disk)
    c.in-Err-OutOfMemory.ensures.at_most)

pub returns-in-Err-OutOfMemory-clause-storing : goal.returns-in-Err-OutOfMemory-clause-storing
returns-in-Err-OutOfMemory-clause-storing g c =
    let before : KvsSession = record {
      config = c.self.inside.session.config;
      store = c.self.inside.store;
      session =
          record { synced = c.self.inside.session.synced; visible = c.self.inside.session.visible };
    } in
    let maps = subst (λ (s : KvsSession). AreTwoMaps s.session) (sym c.self.view_is) c.invariants.ensures.maps in
    let room = subst (λ (s : KvsSession). HasRoom s.config s.session) (sym c.self.view_is) c.invariants.ensures.room in
    let made = subst (λ (s : KvsSession). MakeInto c.args.changes.items s.session.synced s.session.visible)
    (sym c.self.view_is) c.requires.changes in
    let differ = subst (λ (s : KvsSession). is_synced s ≡ false) (sym c.self.view_is) c.requires.differ in
    let sync = is_sync before c.self.invariant c.invariants-2.ensures maps room c.args.changes.items made in
    subst (λ (s : KvsSession). IsStoring g.D.Disk.told (store_shape s.store) (Opens (synced_view s) [])
    (g.D.Disk.medium c.args.disk.now) (g.D.Disk.medium c.commit.new.disk)) c.self.view_is
    (commit_storing before c.args.changes.items sync differ c.changes_make_maps.ensures.committed g.D.Disk.told
    (g.D.Disk.medium c.args.disk.now) (g.D.Disk.medium c.commit.new.disk)
    c.in-Err-OutOfMemory.ensures.elsewhere c.in-Err-OutOfMemory.ensures.outside c.in-Err-OutOfMemory.ensures.any_moment
    c.in-Err-OutOfMemory.ensures.time)
