use Rattle.value_model.specs.lemmas.Members.{types_differ}
use Rattle.value_model.proofs.types.+same.Goals as goal

pub all_same-returns-then-types-others : goal.all_same-returns-then-types-others
all_same-returns-then-types-others t c = (
  λ h. cc,
  λ e.
      absurd (types_differ c.args.types.now c.args.others.now c.if-types-others.true e),
)
