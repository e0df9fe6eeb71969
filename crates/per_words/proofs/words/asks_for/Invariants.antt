use Rattle.std.proofs.Common.{◌≡◌, drop, map, string_bytes}
use Rattle.per_words.specs.Apart.{asks_for}
use Rattle.per_words.specs.declared.words.WordRole.TheVariants as reading
use Rattle.per_words.proofs.words.asks_for.Given as goal

-- so do the words that are left
abbrev pub invariant-loop-word : goal.invariant-loop-word
invariant-loop-word l = asks_for l.option l.reading (map string_bytes (drop l.word-index l.words))
    ≡ asks_for l.option reading.Word (map string_bytes l.words)
