use Rattle.std.proofs.Common.{◌≡◌, drop}
use Rattle.per_words.specs.Numbers.{wrong_number}
use Rattle.per_words.specs.declared.numbers.ValuePlace.TheVariants as place
use Rattle.per_words.proofs.numbers.wrong_number.Given as goal

-- the first such number is in the text that is left
abbrev pub invariant-loop-at : goal.invariant-loop-at
invariant-loop-at l = wrong_number l.place (drop l.at l.text) ≡ wrong_number place.Front l.text
