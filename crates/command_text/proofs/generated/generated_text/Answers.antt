use Rattle.std.proofs.Common.{rules}
use Rattle.std.proofs.lemmas.Bool.{ne_eqb}
use Rattle.command_text.proofs.generated.generated_text.Goals as goal

pub returns : goal.returns
returns c = rw (
  ne_eqb _ _ c.if-place-eq0.false,
  ne_eqb _ _ c.if-place-eq4.false,
  ne_eqb _ _ c.if-place-eq6.false,
  ne_eqb _ _ c.if-place-eq7.false,
) (search rules)
