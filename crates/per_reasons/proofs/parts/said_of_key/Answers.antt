use Rattle.per_reasons.proofs.parts.said_of_key.Goals as goal

pub returns : goal.returns
returns c = record {
  storage = c.as_str-storage.result.now;
  key = c.as_str-key.result.now;
  spelled = c.in_ok-format.ensures.ok;
}
