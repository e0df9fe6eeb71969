use Rattle.std.proofs.Common.{◌≡◌, take, drop}
use Rattle.per_base.specs.FieldLoops.{with_front}
use Rattle.command_text.specs.Reading.{split}
use Rattle.command_text.proofs.words.split.Given as goal

-- the bytes so far, before what the rest gives
abbrev pub invariant-loop-at : goal.invariant-loop-at
invariant-loop-at l = with_front (take l.at l.text) (split (drop l.at l.text)) ≡ split l.text
