use Rattle.std.proofs.Common.{◌≡◌, ◌∙◌, ◌+◌, ◌≤◌, arith, ap}
use Rattle.std.specs.Fmt.{signed_decimal}
use lib.Signed.{mag}
use Rattle.value_text.specs.Whole.{signed_in}
use Rattle.value_text.specs.lemmas.WholeLaws.{signed_in_takes, signed_in_again, found, only}
use Rattle.value_text.proofs.whole.parse_signed.Goals as goal

pub returns-clause-found : goal.returns-clause-found
returns-clause-found c =
    found (λ z. (mag z ≤ c.args.max) × (c.args.text.now ≡ signed_decimal z))
    (signed_in (c.args.max + 1) c.args.text.now)
    (λ z e. let read = signed_in_takes (c.args.max + 1) c.args.text.now z e in (omega (arith, read.1), read.0))
    c.signed_in.result c.signed_in.ensures.read

pub returns-clause-only : goal.returns-clause-only
returns-clause-only c = λ e z fits same.
    only (signed_in (c.args.max + 1) c.args.text.now) c.signed_in.result c.signed_in.ensures.read e z
    (ap (signed_in (c.args.max + 1)) same ∙ signed_in_again (c.args.max + 1) z (omega (arith, c.requires))
    (omega arith))
