use Rattle.std.proofs.Common.{◌≡◌, flat_map, string_bytes}
use Rattle.per_words.specs.Screens.{visible_char}
use Rattle.per_words.proofs.screens.visible.Given as goal

-- the characters so far
abbrev pub invariant-loop-c : goal.invariant-loop-c
invariant-loop-c l = string_bytes l.shown ≡ flat_map visible_char l.yielded
