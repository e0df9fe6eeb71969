use Rattle.std.proofs.Common.{ap, sym, subst, ◌∙◌, map}
use Rattle.std.specs.Prelude.{is_some}
use Rattle.value_model.specs.Views.{kind_of}
use Rattle.migrate_fns.specs.Chains.{IsShortestChain, chain_of}
use Rattle.migrate_fns.specs.Stored.{rule_of, rules_of}
use Rattle.migrate_fns.proofs.Found.{chain_is_found}
use Rattle.migrate_fns.proofs.Levels.{chain_ends}
use Rattle.migrate_fns.proofs.migrations.Migrations.find_chain.Goals as goal

pub invariant_of-result : goal.invariant_of-result
invariant_of-result g c =
    let found = ap (λ ms. chain_of (map rule_of ms) c.args.element.now (kind_of c.args.from.now)
    (kind_of c.args.to.now)) (sym c.as_slice.ensures.listed) ∙ sym c.in_ok-places_of_chain.ensures ∙ c.in-Some.is in
    let ends = chain_ends (rules_of c.args.self.now) c.args.element.now (kind_of c.args.to.now)
    (kind_of c.args.from.now) c.in-Some.places found in
    record { linked = ap (λ o. is_some o) ends.last; few = ends.few }

pub returns-in-None-clause-found : goal.returns-in-None-clause-found
returns-in-None-clause-found g c =
    let found = ap (λ ms. chain_of (map rule_of ms) c.args.element.now (kind_of c.args.from.now)
    (kind_of c.args.to.now)) (sym c.as_slice.ensures.listed) ∙ sym c.in_ok-places_of_chain.ensures ∙ c.in-None.is in
    subst (λ o. IsShortestChain (rules_of c.args.self.now) c.args.element.now (kind_of c.args.from.now)
    (kind_of c.args.to.now)
    o) found
    (chain_is_found (rules_of c.args.self.now) c.args.element.now (kind_of c.args.from.now) (kind_of c.args.to.now))

pub returns-in-Some-clause-found : goal.returns-in-Some-clause-found
returns-in-Some-clause-found g c =
    let found = ap (λ ms. chain_of (map rule_of ms) c.args.element.now (kind_of c.args.from.now)
    (kind_of c.args.to.now)) (sym c.as_slice.ensures.listed) ∙ sym c.in_ok-places_of_chain.ensures ∙ c.in-Some.is in
    subst (λ o. IsShortestChain (rules_of c.args.self.now) c.args.element.now (kind_of c.args.from.now)
    (kind_of c.args.to.now)
    o) found
    (chain_is_found (rules_of c.args.self.now) c.args.element.now (kind_of c.args.from.now) (kind_of c.args.to.now))

pub returns-in-Some-clause-first : goal.returns-in-Some-clause-first
returns-in-Some-clause-first g c =
    let found = ap (λ ms. chain_of (map rule_of ms) c.args.element.now (kind_of c.args.from.now)
    (kind_of c.args.to.now)) (sym c.as_slice.ensures.listed) ∙ sym c.in_ok-places_of_chain.ensures ∙ c.in-Some.is in
    (chain_ends (rules_of c.args.self.now) c.args.element.now (kind_of c.args.to.now) (kind_of c.args.from.now)
    c.in-Some.places found).first

pub returns-in-Some-clause-last : goal.returns-in-Some-clause-last
returns-in-Some-clause-last g c =
    let found = ap (λ ms. chain_of (map rule_of ms) c.args.element.now (kind_of c.args.from.now)
    (kind_of c.args.to.now)) (sym c.as_slice.ensures.listed) ∙ sym c.in_ok-places_of_chain.ensures ∙ c.in-Some.is in
    (chain_ends (rules_of c.args.self.now) c.args.element.now (kind_of c.args.to.now) (kind_of c.args.from.now)
    c.in-Some.places found).last
