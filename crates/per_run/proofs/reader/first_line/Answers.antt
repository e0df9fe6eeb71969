use Rattle.std.proofs.Common.{arith, length, le_refl, subst}
use Rattle.std.proofs.lemmas.List.{take_all}
use Rattle.per_run.specs.Steps.{HasNoFeed}
use Rattle.per_run.proofs.Fronts.{clean_upto}
use Rattle.per_run.proofs.reader.first_line.Goals as goal

pub returns-in-Some-clause-clean : goal.returns-in-Some-clause-clean
returns-in-Some-clause-clean c =
    let first = c.in-Some.ensures.0 in
    clean_upto c.args.bytes.now c.in-Some.at (omega (arith, first.high))
    (λ k below is. first.before k (omega arith) below (grind (arith, is)))

pub returns-in-None-clause-none : goal.returns-in-None-clause-none
returns-in-None-clause-none c = subst HasNoFeed (take_all (length c.args.bytes.now) c.args.bytes.now (le_refl _))
    (clean_upto c.args.bytes.now (length c.args.bytes.now) (le_refl _)
    (λ k below is. c.in-None.ensures k (omega arith) below (grind (arith, is))))
