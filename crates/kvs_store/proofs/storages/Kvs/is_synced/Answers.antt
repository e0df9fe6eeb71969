use Rattle.std.proofs.Common.{◌≡◌, subst}
use Rattle.std.specs.Prelude.{not}
use Rattle.element_maps.specs.Sessions.{same_map}
use Rattle.kvs_store.specs.Storages.{KvsSession}
use Rattle.kvs_store.specs.Synced.{is_synced}
use Rattle.kvs_store.proofs.Synced.{decided}
use Rattle.kvs_store.proofs.storages.Kvs.is_synced.Goals as goal

pub returns : goal.returns
returns c = subst (λ (s : KvsSession). not c.has_changes.result ≡ is_synced s) c.self.view_is
    (decided c.has_changes.result (same_map c.self.inside.session.synced c.self.inside.session.visible)
    (c.self.inside.session.synced ≡ c.self.inside.session.visible)
    c.has_changes.ensures (c.syncs_are_decided.ensures.decides c.self.inside.session.synced
    c.self.inside.session.visible))
