use Rattle.std.proofs.Common.{◌≡◌, ◌<◌, ap, sym, ◌∙◌, map, length, rules, arith, replicate, None, get_or, inl, inr}
use Rattle.std.proofs.Math.ListN.{length-map}
use Rattle.std.specs.Prelude.{is_some}
use Rattle.std.proofs.lemmas.List.{with_items_is}
use Rattle.value_model.specs.Views.{kind_of}
use Rattle.migrate_fns.specs.Chains.{links}
use Rattle.migrate_fns.specs.Links.{entered}
use Rattle.migrate_fns.specs.Stored.{rule_of}
use Rattle.migrate_fns.proofs.Levels.{level_begun, level_made, level_next, link_within}
use Rattle.migrate_fns.proofs.search.Search.next_level.Goals.{in-Some, in_default}
use Rattle.migrate_fns.proofs.search.Search.next_level.Goals as goal

pub loop-link-init : goal.loop-link-init
loop-link-init g c =
    level_begun (map rule_of c.args.self.now.list.now) c.args.self.now.element.now (kind_of c.args.self.now.to.now)
    c.args.self.now.types (length c.args.levels.now) c.in_ok-level.level.items
    (c.in_ok-level.ensures.items_if_clones_equal (λ y h. search rules) ∙ ap (λ n. replicate n None) c.len.ensures)

pub enter-requires-clause-from : goal.enter-requires-clause-from
enter-requires-clause-from g c =
    let count : length c.args.self.now.links.items ≡ length (map rule_of c.args.self.now.list.now) =
    c.args.self.now.count ∙ sym (length-map c.args.self.now.list.now rule_of) in
    let at = sym (ap (λ ls. get_or ls c.loop-link.link-index None) c.deref-link-items.ensures.value) ∙ c.in-Some.is in
    let within : c.loop-link.link-index < length c.args.self.now.links.items =
    omega (arith, c.loop-link-test.true, ap (λ ls. length ls) c.deref-link-items.ensures.value) in
    omega (
      (link_within (map rule_of c.args.self.now.list.now) c.args.self.now.element.now
          (kind_of c.args.self.now.to.now) c.args.self.now.types c.loop-link.link-index c.args.self.now.links.items
          c.args.self.now.linked count within c.in-Some.link at).0,
      c.loop-link.invariant.count,
      ap (λ ls. length ls) c.as_mut_slice.ensures.value,
      arith,
    )

pub enter-requires-clause-to : goal.enter-requires-clause-to
enter-requires-clause-to g c =
    let count : length c.args.self.now.links.items ≡ length (map rule_of c.args.self.now.list.now) =
    c.args.self.now.count ∙ sym (length-map c.args.self.now.list.now rule_of) in
    let at = sym (ap (λ ls. get_or ls c.loop-link.link-index None) c.deref-link-items.ensures.value) ∙ c.in-Some.is in
    let within : c.loop-link.link-index < length c.args.self.now.links.items =
    omega (arith, c.loop-link-test.true, ap (λ ls. length ls) c.deref-link-items.ensures.value) in
    (link_within (map rule_of c.args.self.now.list.now) c.args.self.now.element.now (kind_of c.args.self.now.to.now)
    c.args.self.now.types c.loop-link.link-index c.args.self.now.links.items c.args.self.now.linked count within
    c.in-Some.link at).1

pub loop-link-preserved : goal.loop-link-preserved
loop-link-preserved g c =
    let count : length c.args.self.now.links.items ≡ length (map rule_of c.args.self.now.list.now) =
    c.args.self.now.count ∙ sym (length-map c.args.self.now.list.now rule_of) in
    let within : c.loop-link.link-index < length c.args.self.now.links.items =
    omega (arith, c.loop-link-test.true, ap (λ ls. length ls) c.deref-link-items.ensures.value) in
    level_next (map rule_of c.args.self.now.list.now) c.args.self.now.element.now (kind_of c.args.self.now.to.now)
    c.args.self.now.types c.loop-link.link-index c.args.self.now.links.items c.args.self.now.linked count within
    (length c.args.levels.now) c.loop-link.level.items c.match-link.level.items c.args.self.now.differ
    (elim c.match-link.branch [
      | in-Some w ↦ inl (
        w.in-Some.link,
        sym (ap (λ ls. get_or ls c.loop-link.link-index None) c.deref-link-items.ensures.value) ∙ w.in-Some.is,
        (λ k at. ap (λ v. v.items) w.level-is
            ∙ with_items_is c.loop-link.level w.enter.new.level (w.enter.auto.level ∙ w.as_mut_slice.ensures.len)
            ∙ w.enter.ensures k at
            ∙ ap (λ xs. entered (is_some (links (map rule_of c.args.self.now.list.now) c.args.self.now.element.now
            (kind_of c.args.self.now.to.now) (length c.args.levels.now) k)) w.in-Some.link xs)
            w.as_mut_slice.ensures.value),
      )
      | in_default w ↦ inr (
        sym (ap (λ ls. get_or ls c.loop-link.link-index None) c.deref-link-items.ensures.value) ∙ w.in_default.is,
        ap (λ v. v.items) w.level-is,
      )
    ])
    c.loop-link.invariant

pub returns : goal.returns
returns g c =
    level_made (map rule_of c.args.self.now.list.now) c.args.self.now.element.now (kind_of c.args.self.now.to.now)
    c.args.self.now.types (length c.args.levels.now) c.loop-link.link-index c.loop-link.level.items
    (omega (
      arith,
      c.loop-link-test.false,
      ap (λ ls. length ls) c.deref-link-items.ensures.value,
      c.args.self.now.count,
      length-map c.args.self.now.list.now rule_of,
    ))
    c.loop-link.invariant
