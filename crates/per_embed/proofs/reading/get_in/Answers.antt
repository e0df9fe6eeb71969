use Rattle.per_embed.proofs.Unfailed.{get_open}
use Rattle.per_embed.proofs.reading.get_in.Goals as goal

pub returns-in-Some-clause-closed : goal.returns-in-Some-clause-closed
returns-in-Some-clause-closed g c = (
  λ is. absurd (get_open c.in-Some.kvs.config c.in-Some.kvs.session.visible c.args.key.now g.T.PerValue.kind
      c.get_value.result c.get_value.ensures.refused is),
  λ none. absurd cc,
)
