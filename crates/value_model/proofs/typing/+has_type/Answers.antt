use Rattle.value_model.specs.lemmas.Members.{members_differ}
use Rattle.value_model.proofs.typing.+has_type.Goals as goal

pub have_types-returns-then-nodes-types : goal.have_types-returns-then-nodes-types
have_types-returns-then-nodes-types t c = (
  λ h. cc,
  λ e.
      absurd (members_differ c.args.nodes.now c.args.types.now c.if-nodes-types.true e),
)
