use Rattle.std.proofs.Common.{◌≡◌, false, subst}
use Rattle.std.specs.Prelude.{◌↔◌}
use Rattle.key_maps.specs.TwoMaps.{TwoMaps}
use Rattle.key_maps.specs.lemmas.Both.{exact_by}
use Rattle.key_maps.proofs.maps.KeyMaps.has_changes.Goals as goal

pub returns : goal.returns
returns c =
    subst (λ (m : TwoMaps). (c.has_changes.result ≡ false) ↔ (m.synced ≡ m.visible)) c.self.view_is
    (exact_by c.has_changes.result c.self.inside.states.entries c.self.invariant.kept c.has_changes.ensures)
