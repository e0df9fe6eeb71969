use Rattle.std.proofs.Common.{◌≡◌, ◌<◌, ◌≤◌, length, sym, subst}
use Rattle.std.specs.Prelude.{None}
use Rattle.per_base.specs.Maps.{element_at, size_of, with_element}
use Rattle.key_maps.specs.TwoMaps.{TwoMaps}
use Rattle.key_maps.specs.lemmas.Both.{put_measured}
use Rattle.key_maps.proofs.maps.KeyMaps.put.Goals as goal

pub invariant_of-self-2 : goal.invariant_of-self-2
invariant_of-self-2 c =
    put_measured c.self.inside.states.entries c.put.new.states.entries c.self.inside.synced c.self.inside.visible
    c.extent_with-extent.result c.args.name.now c.args.key c.self.invariant c.in_ok-put.ensures.step
    (subst (λ (m : TwoMaps). c.extent_with-extent.result.count
    ≡ length (with_element m.visible c.args.name.now c.args.key)) (sym c.self.view_is)
    (c.extent_with-extent.ensures.counted c.args.key (sym c.len.ensures.len)))
    (subst (λ (m : TwoMaps). c.extent_with-extent.result.size
    ≡ size_of (with_element m.visible c.args.name.now c.args.key)) (sym c.self.view_is)
    (c.extent_with-extent.ensures.sized c.args.key (sym c.len.ensures.len)))
    (subst (λ (m : TwoMaps). element_at m.visible c.args.name.now ≡ None → length m.visible < 1024) (sym c.self.view_is)
    c.requires.place)
    (subst (λ (m : TwoMaps). size_of (with_element m.visible c.args.name.now c.args.key) ≤ 4194304) (sym c.self.view_is)
    c.requires.room)
