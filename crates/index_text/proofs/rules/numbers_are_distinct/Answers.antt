use Rattle.std.proofs.Common.{ap, eqb, length, ◌∙◌, ℕ}
use Rattle.index_text.specs.lemmas.Order.{set_size}
use Rattle.index_text.proofs.rules.numbers_are_distinct.Goals as goal

pub returns : goal.returns
returns c = ap (λ (n : ℕ). eqb n (length c.args.numbers.now))
    (c.len.ensures.len ∙ set_size c.args.numbers.now c.in_ok-different.different c.in_ok-different.ensures)
