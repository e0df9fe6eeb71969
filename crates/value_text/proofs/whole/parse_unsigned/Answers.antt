use Rattle.std.proofs.Common.{◌≡◌, ◌∙◌, ◌+◌, ◌≤◌, arith, ap}
use Rattle.std.specs.Fmt.{decimal}
use Rattle.value_text.specs.Whole.{unsigned_in}
use Rattle.value_text.specs.lemmas.WholeLaws.{unsigned_in_takes, unsigned_in_again, found, only}
use Rattle.value_text.proofs.whole.parse_unsigned.Goals as goal

pub returns-clause-found : goal.returns-clause-found
returns-clause-found c =
    found (λ n. (n ≤ c.args.max) × (c.args.text.now ≡ decimal n)) (unsigned_in (c.args.max + 1) c.args.text.now)
    (λ n e. let read = unsigned_in_takes (c.args.max + 1) c.args.text.now n e in (omega (arith, read.1), read.0))
    c.unsigned_in.result c.unsigned_in.ensures.read

pub returns-clause-only : goal.returns-clause-only
returns-clause-only c = λ e n fits same.
    only (unsigned_in (c.args.max + 1) c.args.text.now) c.unsigned_in.result c.unsigned_in.ensures.read e n
    (ap (unsigned_in (c.args.max + 1)) same ∙ unsigned_in_again (c.args.max + 1) n (omega arith) (omega arith))
