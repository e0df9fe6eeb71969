use Rattle.std.proofs.Common.{◌≡◌, ◌<◌, ◌-◌, suc, ap, sym, subst, ◌∙◌, map, length, arith, Some, None}
use Rattle.std.proofs.Common.{refl, nat_eq, false, cond}
use Rattle.std.proofs.lemmas.Bool.{eqb-true}
use Rattle.std.proofs.lemmas.Option.{slice_get_read}
use Rattle.value_model.specs.Views.{kind_of}
use Rattle.migrate_fns.specs.Chains.{links}
use Rattle.migrate_fns.specs.Links.{levels_view}
use Rattle.migrate_fns.specs.Stored.{rule_of}
use Rattle.migrate_fns.specs.lemmas.Facts.{is_false, read_as}
use Rattle.migrate_fns.proofs.Levels.{Left, arrived, back, behind_none, cell_within, no_way, view_at}
use Rattle.migrate_fns.proofs.TypeNumbers.{numbered}
use Rattle.migrate_fns.proofs.search.Search.trace.Goals as goal

pub loop-left-init : goal.loop-left-init
loop-left-init g c = (
  omega arith,
  record {
    at = kind_of c.args.self.now.from.now;
    number = numbered c.args.self.now.types (kind_of c.args.self.now.from.now) c.args.self.now.start
        c.args.self.now.begins;
    way = behind_none (map rule_of c.args.self.now.list.now) c.args.self.now.element.now
        (kind_of c.args.self.now.to.now) c.new-places.result.items (length c.args.levels.now)
        (kind_of c.args.self.now.from.now) c.new-places.ensures.items;
  },
)

pub index-requires : goal.index-requires
index-requires g c =
    let within : c.loop-left.left - 1 < length c.args.levels.now =
    omega (arith, c.loop-left.invariant.0, c.loop-left-test.true) in
    let level = view_at c.args.levels.now (c.loop-left.left - 1) c.index-levels-left.result
    (slice_get_read c.args.levels.now (length c.args.levels.now) (c.loop-left.left - 1) c.index-levels-left.result
    refl within c.index-levels-left.is) in
    omega (
      cell_within (map rule_of c.args.self.now.list.now) c.args.self.now.element.now
          (kind_of c.args.self.now.to.now) c.args.self.now.types (levels_view c.args.levels.now)
          c.index-levels-left.result.items (c.loop-left.left - 1) c.loop-left.left c.loop-left.at
          c.loop-left.places.items _ c.requires level c.loop-left.invariant.1,
      c.index-levels-left.result.ok,
      arith,
    )

pub returns-in_default : goal.returns-in_default
returns-in_default g c =
    let within : c.loop-left.left - 1 < length c.args.levels.now =
    omega (arith, c.loop-left.invariant.0, c.loop-left-test.true) in
    let level = view_at c.args.levels.now (c.loop-left.left - 1) c.index-levels-left.result
    (slice_get_read c.args.levels.now (length c.args.levels.now) (c.loop-left.left - 1) c.index-levels-left.result
    refl within c.index-levels-left.is) in
    let one_less : c.loop-left.left ≡ suc (c.loop-left.left - 1) = omega (arith, c.loop-left-test.true) in
    let inside = cell_within (map rule_of c.args.self.now.list.now) c.args.self.now.element.now
    (kind_of c.args.self.now.to.now) c.args.self.now.types (levels_view c.args.levels.now)
    c.index-levels-left.result.items (c.loop-left.left - 1) c.loop-left.left c.loop-left.at c.loop-left.places.items _
    c.requires level c.loop-left.invariant.1 in
    sym (no_way (map rule_of c.args.self.now.list.now) c.args.self.now.element.now (kind_of c.args.self.now.to.now)
    c.args.self.now.types (levels_view c.args.levels.now) c.index-levels-left.result.items (c.loop-left.left - 1)
    c.loop-left.at c.loop-left.places.items _ c.requires level
    (read_as c.index-levels-left.result.items c.loop-left.at c.index.result.now None inside c.index.ensures
    ∙ c.in_default.is)
    (subst (λ n. Left (map rule_of c.args.self.now.list.now) c.args.self.now.element.now
    (kind_of c.args.self.now.to.now) c.args.self.now.types c.loop-left.places.items n c.loop-left.at
    (links (map rule_of c.args.self.now.list.now) c.args.self.now.element.now (kind_of c.args.self.now.to.now)
    (length c.args.levels.now) (kind_of c.args.self.now.from.now))) one_less c.loop-left.invariant.1))

pub loop-left-preserved : goal.loop-left-preserved
loop-left-preserved g c =
    let within : c.loop-left.left - 1 < length c.args.levels.now =
    omega (arith, c.loop-left.invariant.0, c.loop-left-test.true) in
    let level = view_at c.args.levels.now (c.loop-left.left - 1) c.index-levels-left.result
    (slice_get_read c.args.levels.now (length c.args.levels.now) (c.loop-left.left - 1) c.index-levels-left.result
    refl within c.index-levels-left.is) in
    let one_less : c.loop-left.left ≡ suc (c.loop-left.left - 1) = omega (arith, c.loop-left-test.true) in
    let inside = cell_within (map rule_of c.args.self.now.list.now) c.args.self.now.element.now
    (kind_of c.args.self.now.to.now) c.args.self.now.types (levels_view c.args.levels.now)
    c.index-levels-left.result.items (c.loop-left.left - 1) c.loop-left.left c.loop-left.at c.loop-left.places.items _
    c.requires level c.loop-left.invariant.1 in (
      omega (arith, within),
      subst (λ ps. Left (map rule_of c.args.self.now.list.now) c.args.self.now.element.now
          (kind_of c.args.self.now.to.now) c.args.self.now.types ps (c.loop-left.left - 1) c.in-Some.link.to
          (links (map rule_of c.args.self.now.list.now) c.args.self.now.element.now (kind_of c.args.self.now.to.now)
          (length c.args.levels.now) (kind_of c.args.self.now.from.now))) (sym c.in_ok-push.ensures.items)
          (back (map rule_of c.args.self.now.list.now) c.args.self.now.element.now (kind_of c.args.self.now.to.now)
          c.args.self.now.types (levels_view c.args.levels.now) c.index-levels-left.result.items
          (c.loop-left.left - 1) c.loop-left.at c.in-Some.link c.loop-left.places.items _ c.requires level
          (read_as c.index-levels-left.result.items c.loop-left.at c.index.result.now None inside c.index.ensures
          ∙ c.in-Some.is)
          (subst (λ n. Left (map rule_of c.args.self.now.list.now) c.args.self.now.element.now
          (kind_of c.args.self.now.to.now) c.args.self.now.types c.loop-left.places.items n c.loop-left.at
          (links (map rule_of c.args.self.now.list.now) c.args.self.now.element.now (kind_of c.args.self.now.to.now)
          (length c.args.levels.now) (kind_of c.args.self.now.from.now))) one_less c.loop-left.invariant.1)),
    )

pub returns-then-at-self : goal.returns-then-at-self
returns-then-at-self g c =
    let none_left : c.loop-left.left ≡ 0 = omega (arith, c.loop-left-test.false) in
    let apart : nat_eq c.loop-left.at c.args.self.now.end ≡ false =
    is_false (nat_eq c.loop-left.at c.args.self.now.end) (λ e. c.if-at-self.true (eqb-true _ _ e)) in
    sym (arrived (map rule_of c.args.self.now.list.now) c.args.self.now.element.now (kind_of c.args.self.now.to.now)
    c.args.self.now.types c.loop-left.places.items c.loop-left.at c.args.self.now.end _ c.args.self.now.differ
    (numbered c.args.self.now.types (kind_of c.args.self.now.to.now) c.args.self.now.end c.args.self.now.ends)
    (subst (λ n. Left (map rule_of c.args.self.now.list.now) c.args.self.now.element.now
    (kind_of c.args.self.now.to.now) c.args.self.now.types c.loop-left.places.items n c.loop-left.at
    (links (map rule_of c.args.self.now.list.now) c.args.self.now.element.now (kind_of c.args.self.now.to.now)
    (length c.args.levels.now) (kind_of c.args.self.now.from.now))) none_left c.loop-left.invariant.1)
    ∙ ap (λ b. cond b (Some c.loop-left.places.items) None) apart)
