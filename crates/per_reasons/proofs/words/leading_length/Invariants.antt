use Rattle.std.proofs.Common.{◌≡◌, ◌+◌, drop}
use Rattle.per_words.specs.Flaws.{leading_length}
use Rattle.per_reasons.proofs.words.leading_length.Given as goal

-- the bytes so far are none of a space
abbrev pub invariant-loop-at : goal.invariant-loop-at
invariant-loop-at l = l.at + leading_length (drop l.at l.text) ≡ leading_length l.text
