use Rattle.std.proofs.Common.{◌≡◌, [], length, true, sym, ◌∙◌}
use Rattle.index_text.specs.Spelling.{index_text}
use Rattle.element_state.specs.States.{Opens}
use Rattle.element_store.specs.Committing.{index_in}
use Rattle.element_store.specs.Stores.{store_shape}
use Rattle.kvs_store.specs.Synced.{is_synced, synced_view}
use Rattle.kvs_store.proofs.Synced.{none_durable, none_marked, none_storing, none_written, same_view}
use Rattle.kvs_store.proofs.storages.Kvs.sync_to_storage.Goals as goal

pub returns-then-is_synced-clause-session : goal.returns-then-is_synced-clause-session
returns-then-is_synced-clause-session g c =
    let same : is_synced c.args.self ≡ true = sym c.is_synced.ensures ∙ c.if-is_synced.true in
    none_marked c.args.self ((c.syncs_are_decided.ensures.decides c.args.self.session.synced
    c.args.self.session.visible).0 same)

pub returns-then-is_synced-clause-view : goal.returns-then-is_synced-clause-view
returns-then-is_synced-clause-view g c = sym (same_view c.args.self (sym c.is_synced.ensures ∙ c.if-is_synced.true))

pub returns-then-is_synced-clause-durable : goal.returns-then-is_synced-clause-durable
returns-then-is_synced-clause-durable g c = none_durable g.D.Disk.told c.args.self
    (length (index_text (index_in c.args.self.store))) (g.D.Disk.medium c.args.disk.now)
    (sym c.is_synced.ensures ∙ c.if-is_synced.true)

pub returns-then-is_synced-clause-at_most : goal.returns-then-is_synced-clause-at_most
returns-then-is_synced-clause-at_most g c = none_written c.args.self (g.D.Disk.medium c.args.disk.now)

pub returns-then-is_synced-clause-storing : goal.returns-then-is_synced-clause-storing
returns-then-is_synced-clause-storing g c = none_storing c.untouched_is_kept.ensures.untouched g.D.Disk.told
    (store_shape c.args.self.store) (Opens (synced_view c.args.self) []) (g.D.Disk.medium c.args.disk.now)
    c.requires.memory.shape (g.met.D.Disk.lawful c.args.disk.now)

pub returns-then-generation-clause-at_most : goal.returns-then-generation-clause-at_most
returns-then-generation-clause-at_most g c = none_written c.args.self (g.D.Disk.medium c.args.disk.now)

pub returns-then-generation-clause-storing : goal.returns-then-generation-clause-storing
returns-then-generation-clause-storing g c = none_storing c.untouched_is_kept.ensures.untouched g.D.Disk.told
    (store_shape c.args.self.store) (Opens (synced_view c.args.self) []) (g.D.Disk.medium c.args.disk.now)
    c.requires.memory.shape (g.met.D.Disk.lawful c.args.disk.now)

pub returns-in-Err-clause-at_most : goal.returns-in-Err-clause-at_most
returns-in-Err-clause-at_most g c = none_written c.args.self (g.D.Disk.medium c.args.disk.now)

pub returns-in-Err-clause-storing : goal.returns-in-Err-clause-storing
returns-in-Err-clause-storing g c = none_storing c.untouched_is_kept.ensures.untouched g.D.Disk.told
    (store_shape c.args.self.store) (Opens (synced_view c.args.self) []) (g.D.Disk.medium c.args.disk.now)
    c.requires.memory.shape (g.met.D.Disk.lawful c.args.disk.now)
