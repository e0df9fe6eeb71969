use Rattle.std.proofs.Common.{List, ℕ, ◌++◌, subst, sym}
use Rattle.hash_guard.specs.SealedText.{VerifiesAs, sealed}
use Rattle.hash_guard.specs.Laws.{sealed_verifies}
use Rattle.hash_guard.proofs.sealing.seal_into.Goals as goal

pub returns-clause-text : goal.returns-clause-text
unfolding sealed
returns-clause-text c = cc

pub returns-clause-verifies : goal.returns-clause-verifies
returns-clause-verifies c = λ rest.
    let P : List ℕ → Type 0 = λ text. VerifiesAs (text ++ rest) c.args.generation c.args.body.now in
    subst P (sym (returns-clause-text c))
    (sealed_verifies c.args.generation c.args.body.now rest c.requires.positive c.ranges.generation.fits
    c.requires.short)
