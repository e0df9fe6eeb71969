use Rattle.std.proofs.Common.{◌≡◌, ◌++◌, drop}
use Rattle.per_words.specs.Screens.{broken}
use Rattle.per_words.proofs.screens.broken.Given as goal

-- the rows so far, and those of the text that is left
abbrev pub invariant-loop-at : goal.invariant-loop-at
invariant-loop-at l = l.rows.items ++ broken l.column (drop l.at l.text) ≡ broken 0 l.text
