use Rattle.std.proofs.Common.{subst}
use Rattle.element_maps.specs.Differences.{MakeInto}
use Rattle.key_maps.specs.lemmas.Ordered.{if_ok}
use Rattle.kvs_store.specs.Storages.{KvsSession}
use Rattle.kvs_store.proofs.KeyChanges.{changes_make}
use Rattle.kvs_store.proofs.storages.Kvs.changes.Goals as goal

pub returns : goal.returns
returns c =
    if_ok c.changes.result
    (λ changes is. subst (λ (s : KvsSession). MakeInto changes.items s.session.synced s.session.visible) c.self.view_is
    (changes_make changes.items c.self.inside.session.synced c.self.inside.session.visible
    c.invariants.ensures.maps is))
    c.changes.ensures
