use Rattle.std.proofs.Common.{◌≡◌, ap, subst, ◌∙◌}
use Rattle.std.specs.Prelude.{IfSome}
use Rattle.value_model.specs.Views.{kind_of}
use Rattle.migrate_fns.specs.Chains.{chain_of}
use Rattle.migrate_fns.specs.Rules.{ConvertsTo}
use Rattle.migrate_fns.specs.Stored.{answers_of, rules_of}
use Rattle.update_plan.proofs.Renewals.{chain_keeps, told}
use Rattle.update_plan.proofs.renewing.Update.converted.Goals as goal

pub returns-clause-kept : goal.returns-clause-kept
returns-clause-kept g c =
    let from = ap (λ k. chain_of (rules_of c.args.self.now.migrations.now) c.args.name k (kind_of c.args.to.now))
    c.in-Ok.ensures in
    let found = told _ _ _ _ c.in-Some.is (c.in-Ok-find_chain.ensures.places ∙ from) in
    let lent = subst (λ o. IfSome o (λ x. x.migrations.now ≡ c.args.self.now.migrations.now)) c.in-Some.is
    c.in-Ok-find_chain.ensures.lent in
    let answer = subst (λ m. ConvertsTo (answers_of m) c.in-Some.chain.places c.args.value.now c.in-Ok-convert.new) lent
    c.in-Ok-convert.ensures.answer in
    chain_keeps _ _ _ _ _ _ _ _ found answer c.encoded.ensures.encoded
