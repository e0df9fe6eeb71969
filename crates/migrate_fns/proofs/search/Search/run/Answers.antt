use Rattle.std.proofs.Common.{◌≡◌, ◌+◌, suc, ap, sym, subst, ◌∙◌, map, length, arith, rules}
use Rattle.value_model.specs.Views.{kind_of}
use Rattle.migrate_fns.specs.Chains.{links}
use Rattle.migrate_fns.specs.Links.{AreLevels, IsLevel, levels_view}
use Rattle.migrate_fns.specs.Stored.{rule_of}
use Rattle.migrate_fns.proofs.Levels.{IsLeft, left_first, left_found, left_next, left_none, no_levels, push_length}
use Rattle.migrate_fns.proofs.Levels.{view_push}
use Rattle.migrate_fns.proofs.search.Search.run.Goals as goal

pub loop-init : goal.loop-init
loop-init g c = (
  no_levels (map rule_of c.args.self.now.list.now) c.args.self.now.element.now (kind_of c.args.self.now.to.now)
      c.args.self.now.types (levels_view c.new-levels.result.items)
      (ap (λ ls. levels_view ls) c.new-levels.ensures.items),
  ap (λ ls. length ls) c.new-levels.ensures.items,
  left_first (map rule_of c.args.self.now.list.now) c.args.self.now.element.now (kind_of c.args.self.now.to.now)
      (kind_of c.args.self.now.from.now),
)

pub next_level-requires : goal.next_level-requires
next_level-requires g c = subst (λ ls. AreLevels (map rule_of c.args.self.now.list.now) c.args.self.now.element.now
    (kind_of c.args.self.now.to.now) c.args.self.now.types (levels_view ls)) (sym c.as_slice.ensures.value)
    c.loop.invariant.0

pub trace-requires : goal.trace-requires
trace-requires g c = subst (λ ls. AreLevels (map rule_of c.args.self.now.list.now) c.args.self.now.element.now
    (kind_of c.args.self.now.to.now) c.args.self.now.types (levels_view ls))
    (sym (c.as_slice-in-loop.ensures.value ∙ c.in_ok-push.ensures.items))
    (view_push (map rule_of c.args.self.now.list.now) c.args.self.now.element.now (kind_of c.args.self.now.to.now)
    c.args.self.now.types c.loop.levels.items c.in_ok-level.level c.loop.invariant.0
    (subst (λ ls. IsLevel (map rule_of c.args.self.now.list.now) c.args.self.now.element.now
    (kind_of c.args.self.now.to.now) c.args.self.now.types (length ls) c.in_ok-level.level.items)
    c.as_slice.ensures.value c.in_ok-level.ensures))

pub returns-in-Some : goal.returns-in-Some
returns-in-Some g c =
    let count : length c.as_slice-in-loop.result.now ≡ suc c.loop.counter =
    ap (λ ls. length ls) (c.as_slice-in-loop.ensures.value ∙ c.in_ok-push.ensures.items)
    ∙ push_length c.loop.levels.items c.in_ok-level.level c.loop.counter c.loop.invariant.1 in
    let found = sym (ap (λ n. links (map rule_of c.args.self.now.list.now) c.args.self.now.element.now
    (kind_of c.args.self.now.to.now) n (kind_of c.args.self.now.from.now)) count) ∙ sym c.in_ok-places.ensures
    ∙ c.in-Some.is in
    sym (left_found (map rule_of c.args.self.now.list.now) c.args.self.now.element.now (kind_of c.args.self.now.to.now)
    (kind_of c.args.self.now.from.now) c.loop.counter (search rules) c.loop.invariant.2 c.in-Some.places found)

pub loop-preserved : goal.loop-preserved
loop-preserved g c =
    let count : length c.as_slice-in-loop.result.now ≡ suc c.loop.counter =
    ap (λ ls. length ls) (c.as_slice-in-loop.ensures.value ∙ c.in_ok-push.ensures.items)
    ∙ push_length c.loop.levels.items c.in_ok-level.level c.loop.counter c.loop.invariant.1 in
    let none = sym (ap (λ n. links (map rule_of c.args.self.now.list.now) c.args.self.now.element.now
    (kind_of c.args.self.now.to.now) n (kind_of c.args.self.now.from.now)) count) ∙ sym c.in_ok-places.ensures
    ∙ c.in_default.is in
    let next : suc c.loop.counter ≡ c.loop.counter + 1 = omega arith in (
      subst (λ ls. AreLevels (map rule_of c.args.self.now.list.now) c.args.self.now.element.now
          (kind_of c.args.self.now.to.now) c.args.self.now.types (levels_view ls)) (sym c.in_ok-push.ensures.items)
          (view_push (map rule_of c.args.self.now.list.now) c.args.self.now.element.now
          (kind_of c.args.self.now.to.now) c.args.self.now.types c.loop.levels.items c.in_ok-level.level
          c.loop.invariant.0
          (subst (λ ls. IsLevel (map rule_of c.args.self.now.list.now) c.args.self.now.element.now
          (kind_of c.args.self.now.to.now) c.args.self.now.types (length ls) c.in_ok-level.level.items)
          c.as_slice.ensures.value c.in_ok-level.ensures)),
      ap (λ ls. length ls) (sym c.as_slice-in-loop.ensures.value) ∙ count ∙ next,
      subst (λ n. IsLeft (map rule_of c.args.self.now.list.now) c.args.self.now.element.now
          (kind_of c.args.self.now.to.now) (kind_of c.args.self.now.from.now) n) next
          (left_next (map rule_of c.args.self.now.list.now) c.args.self.now.element.now (kind_of c.args.self.now.to.now)
          (kind_of c.args.self.now.from.now) c.loop.counter (search rules) c.loop.invariant.2 none),
    )

pub returns : goal.returns
returns g c =
    let end : c.loop.counter ≡ 8 = search rules in
    sym (left_none (map rule_of c.args.self.now.list.now) c.args.self.now.element.now (kind_of c.args.self.now.to.now)
    (kind_of c.args.self.now.from.now)
    (subst (λ n. IsLeft (map rule_of c.args.self.now.list.now) c.args.self.now.element.now
    (kind_of c.args.self.now.to.now) (kind_of c.args.self.now.from.now) n) end c.loop.invariant.2))
