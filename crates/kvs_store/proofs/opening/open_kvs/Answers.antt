use Rattle.std.proofs.Common.{ap}
use Rattle.deployment_model.specs.Data.{storage_data}
use Rattle.kvs_core.specs.Sessions.{Session}
use Rattle.kvs_store.proofs.Opened.{entries_are_few, entries_are_keys, entries_ascend, entries_have_room, opened_is}
use Rattle.kvs_store.proofs.Opened.{opened_is_open, shape_is}
use Rattle.kvs_store.proofs.Synced.{none_storing, opened_storing}
use Rattle.kvs_store.proofs.opening.open_kvs.Goals as goal

pub new-requires-clause-keys : goal.new-requires-clause-keys
new-requires-clause-keys g c = entries_are_keys c.args.shape (storage_data c.args.config.now)
    c.in_ok-store.field-0.store c.entries.result.now c.requires.configured c.in_ok-store.ensures.shown c.entries.ensures

pub new-requires-clause-ordered : goal.new-requires-clause-ordered
new-requires-clause-ordered g c = entries_ascend c.args.shape (storage_data c.args.config.now)
    c.in_ok-store.field-0.store c.entries.result.now c.requires.configured c.in_ok-store.ensures.shown c.entries.ensures

pub new-requires-clause-few : goal.new-requires-clause-few
new-requires-clause-few g c = entries_are_few c.args.shape (storage_data c.args.config.now) c.in_ok-store.field-0.store
    c.entries.result.now c.requires.configured c.in_ok-store.ensures.shown c.entries.ensures

pub new-requires-clause-room : goal.new-requires-clause-room
new-requires-clause-room g c = entries_have_room c.args.shape (storage_data c.args.config.now)
    c.in_ok-store.field-0.store c.entries.result.now c.requires.configured c.in_ok-store.ensures.shown c.entries.ensures

pub invariant_of-kvs : goal.invariant_of-kvs
invariant_of-kvs g c = opened_is_open c.args.shape (storage_data c.args.config.now) c.in_ok-store.field-0.store
    c.entries.result.now c.in_ok-session.session c.requires.configured
    c.in_ok-store.ensures.shape c.entries.ensures c.in_ok-session.ensures

pub returns-clause-opened : goal.returns-clause-opened
returns-clause-opened g c = opened_is g.D.Disk.told (g.D.Disk.medium c.args.disk.now).image c.args.shape
    c.entries.result.now
    c.in_ok-store.field-0.before c.in_ok-copy.copy c.in_ok-seen.seen c.in_ok-store.field-0.store _ _ _
    c.in_ok-store.ensures.before c.in_ok-store.ensures.view c.in_ok-store.ensures.shape c.in_ok-store.ensures.read
    c.entries.ensures (ap (λ (s : Session). s.synced) c.in_ok-session.ensures)
    (ap (λ (s : Session). s.visible) c.in_ok-session.ensures) c.in_ok-copy.ensures c.in_ok-seen.ensures
    c.in_ok-reports.ensures

pub returns-in_err-copy-clause-storing : goal.returns-in_err-copy-clause-storing
returns-in_err-copy-clause-storing g c = λ after. none_storing c.untouched_is_kept.ensures.untouched g.D.Disk.told
    c.args.shape after (g.D.Disk.medium c.args.disk.now)
    (shape_is c.args.shape (storage_data c.args.config.now) c.requires.valid c.requires.configured)
    (g.met.D.Disk.lawful c.args.disk.now)

pub returns-in_err-store-clause-storing : goal.returns-in_err-store-clause-storing
returns-in_err-store-clause-storing g c = opened_storing g.D.Disk.told c.args.shape (g.D.Disk.medium c.args.disk.now)
    (g.D.Disk.medium c.open_store.new.disk)
    c.in_err-store.ensures.elsewhere c.in_err-store.ensures.outside c.in_err-store.ensures.any_moment
    c.in_err-store.ensures.time

pub returns-in_err-session-clause-storing : goal.returns-in_err-session-clause-storing
returns-in_err-session-clause-storing g c = opened_storing g.D.Disk.told c.args.shape (g.D.Disk.medium c.args.disk.now)
    (g.D.Disk.medium c.open_store.new.disk)
    c.in_ok-store.ensures.elsewhere c.in_ok-store.ensures.outside c.in_ok-store.ensures.any_moment
    c.in_ok-store.ensures.time

pub returns-in_err-seen-clause-storing : goal.returns-in_err-seen-clause-storing
returns-in_err-seen-clause-storing g c = opened_storing g.D.Disk.told c.args.shape (g.D.Disk.medium c.args.disk.now)
    (g.D.Disk.medium c.open_store.new.disk)
    c.in_ok-store.ensures.elsewhere c.in_ok-store.ensures.outside c.in_ok-store.ensures.any_moment
    c.in_ok-store.ensures.time

pub returns-in_err-reports-clause-storing : goal.returns-in_err-reports-clause-storing
returns-in_err-reports-clause-storing g c = opened_storing g.D.Disk.told c.args.shape (g.D.Disk.medium c.args.disk.now)
    (g.D.Disk.medium c.open_store.new.disk)
    c.in_ok-store.ensures.elsewhere c.in_ok-store.ensures.outside c.in_ok-store.ensures.any_moment
    c.in_ok-store.ensures.time

pub returns-clause-storing : goal.returns-clause-storing
returns-clause-storing g c = opened_storing g.D.Disk.told c.args.shape (g.D.Disk.medium c.args.disk.now)
    (g.D.Disk.medium c.open_store.new.disk)
    c.in_ok-store.ensures.elsewhere c.in_ok-store.ensures.outside c.in_ok-store.ensures.any_moment
    c.in_ok-store.ensures.time
