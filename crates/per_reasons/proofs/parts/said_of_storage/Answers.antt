use Rattle.per_reasons.proofs.parts.said_of_storage.Goals as goal

pub returns : goal.returns
returns c = record { storage = c.as_str-storage.result.now; spelled = c.in_ok-format.ensures.ok }
