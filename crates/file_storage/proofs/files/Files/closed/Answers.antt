use Rattle.std.proofs.Common.{[], sym, ◌∙◌}
use Rattle.element_state.specs.States.{Opens}
use Rattle.element_store.specs.Stores.{store_shape}
use Rattle.file_storage.specs.Syncs.{synced_view}
use Rattle.file_storage.proofs.Synced.{none_storing, none_synced, none_written}
use Rattle.file_storage.proofs.files.Files.closed.Goals as goal

pub returns-then-is_synced-clause-synced : goal.returns-then-is_synced-clause-synced
returns-then-is_synced-clause-synced g c = (
  c.args.self,
  none_synced c.syncs_are_decided.ensures.decides g.D.Disk.told c.args.self (g.D.Disk.medium c.args.disk.now)
      c.requires.used (sym c.is_synced.ensures ∙ c.if-is_synced.true),
)

pub returns-then-is_synced-clause-at_most : goal.returns-then-is_synced-clause-at_most
returns-then-is_synced-clause-at_most g c = none_written c.args.self (g.D.Disk.medium c.args.disk.now)

pub returns-then-is_synced-clause-storing : goal.returns-then-is_synced-clause-storing
returns-then-is_synced-clause-storing g c = none_storing c.untouched_is_kept.ensures.untouched g.D.Disk.told
    (store_shape c.args.self.store) (Opens (synced_view c.args.self) []) (g.D.Disk.medium c.args.disk.now)
    c.requires.used.memory.shape (g.met.D.Disk.lawful c.args.disk.now)

pub returns-in-Err-clause-at_most : goal.returns-in-Err-clause-at_most
returns-in-Err-clause-at_most g c = none_written c.args.self (g.D.Disk.medium c.args.disk.now)

pub returns-in-Err-clause-storing : goal.returns-in-Err-clause-storing
returns-in-Err-clause-storing g c = none_storing c.untouched_is_kept.ensures.untouched g.D.Disk.told
    (store_shape c.args.self.store) (Opens (synced_view c.args.self) []) (g.D.Disk.medium c.args.disk.now)
    c.requires.used.memory.shape (g.met.D.Disk.lawful c.args.disk.now)
