use Rattle.per_reasons.proofs.Types.{encodes}
use Rattle.per_reasons.proofs.initials.has_encoding.Goals as goal

pub returns : goal.returns
returns c = encodes _ _ c.has_type.result c.requires.typed c.requires.valid c.has_type.ensures
