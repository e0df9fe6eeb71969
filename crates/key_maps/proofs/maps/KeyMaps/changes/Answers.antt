use Rattle.std.proofs.Common.{subst}
use Rattle.key_maps.specs.Changes.{AreChanges}
use Rattle.key_maps.specs.TwoMaps.{TwoMaps}
use Rattle.key_maps.specs.lemmas.Both.{changes_by}
use Rattle.key_maps.specs.lemmas.Ordered.{if_ok}
use Rattle.key_maps.proofs.maps.KeyMaps.changes.Goals as goal

pub returns : goal.returns
returns c =
    if_ok c.changes.result
    (λ changes is. subst (λ (m : TwoMaps). AreChanges changes.items m.synced m.visible) c.self.view_is
    (changes_by changes.items c.self.inside.states.entries c.self.invariant.kept is))
    c.changes.ensures
