use Rattle.std.proofs.Common.{subst}
use Rattle.key_maps.specs.TwoMaps.{AreTwoMaps, TwoMaps}
use Rattle.key_maps.specs.lemmas.Both.{measured_maps}
use Rattle.key_maps.proofs.maps.KeyMaps.invariants.Goals as goal

pub returns : goal.returns
returns c = subst (λ (m : TwoMaps). AreTwoMaps m) c.self.view_is
    (measured_maps c.self.inside.states.entries c.self.inside.synced c.self.inside.visible c.self.invariant)
