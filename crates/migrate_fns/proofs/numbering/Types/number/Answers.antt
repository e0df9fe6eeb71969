use Rattle.std.proofs.Common.{◌≡◌, ap, sym, subst, ◌∙◌, map, length, arith, below_more, Some}
use Rattle.value_model.specs.Views.{kind_of}
use Rattle.migrate_fns.specs.Links.{AllDiffer}
use Rattle.migrate_fns.specs.lemmas.Facts.{not_false, some_is}
use Rattle.migrate_fns.specs.lemmas.SameKinds.{kind_is, same_from_is}
use Rattle.migrate_fns.proofs.TypeNumbers.{seen, seen_at, seen_differ, seen_kept, seen_last}
use Rattle.migrate_fns.proofs.numbering.Types.number.Goals as goal

pub returns-then-is_same-clause-number : goal.returns-then-is_same-clause-number
returns-then-is_same-clause-number c =
    let view : map seen c.deref-known-items.result.now ≡ c.args.self.now =
    ap (λ ts. map seen ts) c.deref-known-items.ensures.value ∙ c.self.view_is in
    seen_at c.deref-known-items.result.now c.args.self.now c.loop-number.number c.known-item.result view
    c.loop-number-test.true c.known-item.is
    ∙ ap (λ k. Some k) (kind_is (kind_of c.known-item.result.value_type.now)
    (kind_of c.new-marked.result.value_type.now) (sym c.is_same.ensures ∙ c.if-is_same.true))
    ∙ ap (λ v. Some (kind_of v)) c.new-marked.ensures

pub loop-number-preserved : goal.loop-number-preserved
loop-number-preserved c =
    let view : map seen c.deref-known-items.result.now ≡ c.args.self.now =
    ap (λ ts. map seen ts) c.deref-known-items.ensures.value ∙ c.self.view_is in
    let here = seen_at c.deref-known-items.result.now c.args.self.now c.loop-number.number c.known-item.result view
    c.loop-number-test.true c.known-item.is in
    below_more _ _ c.loop-number.invariant (λ e. not_false (sym c.if-is_same.false ∙ c.is_same.ensures
    ∙ same_from_is (kind_of c.known-item.result.value_type.now) (kind_of c.new-marked.result.value_type.now)
    (some_is (kind_of c.known-item.result.value_type.now) (kind_of c.new-marked.result.value_type.now) (sym here ∙ e))))

pub invariant_of-self-2 : goal.invariant_of-self-2
invariant_of-self-2 c = seen_differ c.self.inside.list.items c.push.new.self.items c.args.self.now c.new-marked.result
    c.self.view_is c.in_ok-push.ensures.items (subst (λ ks. AllDiffer ks) c.self.view_is c.self.invariant)
    (λ i within. c.loop-number.invariant i
    (omega (arith, within, c.loop-number-test.false, ap (λ ts. length ts) c.deref-known-items.ensures.value)))

pub returns-clause-number : goal.returns-clause-number
returns-clause-number c = seen_last c.self.inside.list.items c.push.new.self.items c.args.self.now c.new-marked.result
    c.self.view_is c.in_ok-push.ensures.items c.len-number.result
    (omega (arith, c.len-number.ensures, c.self.inside.list.ok))
    ∙ ap (λ v. Some (kind_of v)) c.new-marked.ensures

pub returns-clause-kept : goal.returns-clause-kept
returns-clause-kept c = seen_kept c.self.inside.list.items c.push.new.self.items c.args.self.now c.new-marked.result
    c.self.view_is c.in_ok-push.ensures.items

pub returns-clause-differ : goal.returns-clause-differ
returns-clause-differ c = seen_differ c.self.inside.list.items c.push.new.self.items c.args.self.now
    c.new-marked.result c.self.view_is c.in_ok-push.ensures.items
    (subst (λ ks. AllDiffer ks) c.self.view_is c.self.invariant)
    (λ i within. c.loop-number.invariant i
    (omega (arith, within, c.loop-number-test.false, ap (λ ts. length ts) c.deref-known-items.ensures.value)))
