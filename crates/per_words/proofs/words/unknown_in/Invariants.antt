use Rattle.std.proofs.Common.{◌≡◌, drop, map, string_bytes}
use Rattle.per_words.specs.Apart.{unknown_in}
use Rattle.per_words.specs.declared.words.WordRole.TheVariants as reading
use Rattle.per_words.proofs.words.unknown_in.Given as goal

-- the first such word is among those that are left
abbrev pub invariant-loop-word : goal.invariant-loop-word
invariant-loop-word l = unknown_in l.reading (map string_bytes (drop l.word-index l.words))
    ≡ unknown_in reading.Word (map string_bytes l.words)
