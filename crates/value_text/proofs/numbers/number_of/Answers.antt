use Rattle.std.proofs.Common.{sym, ◌∙◌}
use Rattle.value_text.specs.lemmas.Digits.{IsUtf8-digits, parsed, number_of-none}
use Rattle.value_text.proofs.numbers.number_of.Goals as goal

pub returns-then-not-is_canonical : goal.returns-then-not-is_canonical
returns-then-not-is_canonical c = sym (number_of-none c.args.digits.now
    (sym c.is_canonical.ensures ∙ c.if-not-is_canonical.true))

pub returns-in-Err : goal.returns-in-Err
returns-in-Err c = absurd (c.in-Err.ensures.cases.0 (IsUtf8-digits c.args.digits.now c.requires))

pub returns-in-Ok : goal.returns-in-Ok
returns-in-Ok c = c.ok.ensures.value ∙ parsed c.args.digits.now c.in-Ok.text.now c.parse.result c.in-Ok.ensures.cases.0
    c.requires (sym c.is_canonical.ensures ∙ c.if-not-is_canonical.false) c.parse.ensures.value.0
