use Rattle.std.proofs.Common.{◌≡◌, [], None, rules}
use Rattle.element_state.specs.States.{Opens}
use Rattle.element_store.specs.Stores.{store_shape}
use Rattle.file_storage.specs.Syncs.{close_refused, synced_view, worn}
use Rattle.file_storage.proofs.Bare.{none_open}
use Rattle.file_storage.proofs.Synced.{none_storing, none_written}
use Rattle.file_storage.proofs.files.Files.close_storage.Goals as goal

pub returns-in-Some-clause-at_most : goal.returns-in-Some-clause-at_most
returns-in-Some-clause-at_most g c = none_written c.args.self (g.D.Disk.medium c.args.disk.now)

pub returns-in-Some-clause-storing : goal.returns-in-Some-clause-storing
returns-in-Some-clause-storing g c = none_storing c.untouched_is_kept.ensures.untouched g.D.Disk.told
    (store_shape c.args.self.store) (Opens (synced_view c.args.self) []) (g.D.Disk.medium c.args.disk.now)
    c.requires.memory.shape (g.met.D.Disk.lawful c.args.disk.now)

pub closed-requires-clause-free : goal.closed-requires-clause-free
closed-requires-clause-free g c =
    let none : close_refused c.args.self ≡ None = first_of (cc, search rules) in
    none_open c.args.self.session.handles (worn c.args.self) none
