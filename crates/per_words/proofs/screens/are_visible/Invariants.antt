use Rattle.std.proofs.Common.{◌≡◌, IsUtf8}
use Rattle.std.specs.Str.Iter.{chars_rest}
use Rattle.per_words.specs.Screens.{are_visible}
use Rattle.per_words.proofs.screens.are_visible.Given as goal

-- so is what is left
abbrev pub invariant-loop-c : goal.invariant-loop-c
invariant-loop-c l = IsUtf8 (chars_rest l.c-iterator)
    × (are_visible (chars_rest l.c-iterator) ≡ are_visible l.text)
