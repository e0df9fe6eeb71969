use Rattle.std.proofs.Common.{◌≡◌, ◌+◌, drop}
use Rattle.per_words.specs.Numbers.{leading_number_length}
use Rattle.per_words.proofs.numbers.leading_number_length.Given as goal

-- the bytes so far are none after a number
abbrev pub invariant-loop-at : goal.invariant-loop-at
invariant-loop-at l = l.at + leading_number_length (drop l.at l.text) ≡ leading_number_length l.text
