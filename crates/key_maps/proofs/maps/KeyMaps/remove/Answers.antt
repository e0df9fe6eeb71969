use Rattle.std.proofs.Common.{◌≡◌, ◌+◌, length, refl, rules, sym, subst, arith}
use Rattle.std.specs.Prelude.{None, Some}
use Rattle.per_base.specs.Maps.{element_at}
use Rattle.key_maps.specs.KeyStates.{visible_map}
use Rattle.key_maps.specs.TwoMaps.{TwoMaps}
use Rattle.key_maps.specs.lemmas.Both.{removed_measured, size_gone, without_absent}
use Rattle.key_maps.proofs.maps.KeyMaps.remove.Goals as goal

pub returns-in_default-clause-removed : goal.returns-in_default-clause-removed
returns-in_default-clause-removed c =
    let there : element_at (visible_map c.self.inside.states.entries) c.args.name.now ≡ None = search rules in
    let none : element_at c.args.self.now.visible c.args.name.now ≡ None =
    subst (λ (m : TwoMaps). element_at m.visible c.args.name.now ≡ None) c.self.view_is there in
    (λ i. record {
      synced = c.args.self.now.synced;
      visible =
          sym (without_absent c.args.self.now.visible c.args.name.now none) i;
    })

pub overflow_sub-extent-2 : goal.overflow_sub-extent-2
overflow_sub-extent-2 c =
    let there : element_at (visible_map c.self.inside.states.entries) c.args.name.now ≡ Some c.in-Some.old.now =
    search rules in
    omega (
      arith,
      size_gone (visible_map c.self.inside.states.entries) c.args.name.now c.in-Some.old.now there,
      c.element_size.ensures.size,
      c.len.ensures.len,
      c.self.invariant.visible.sized,
    )

pub invariant_of-self : goal.invariant_of-self
invariant_of-self c =
    let there : element_at (visible_map c.self.inside.states.entries) c.args.name.now ≡ Some c.in-Some.old.now =
    search rules in
    let takes : c.element_size.result ≡ length c.args.name.now + c.in-Some.old.now.len =
    omega (arith, c.element_size.ensures.size, c.len.ensures.len) in
    removed_measured c.self.inside.states.entries c.remove.new.states.entries c.self.inside.synced
    c.self.inside.visible _ c.args.name.now c.in-Some.old.now c.element_size.result c.self.invariant
    c.remove.ensures there takes refl refl
