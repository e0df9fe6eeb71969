use Rattle.std.proofs.Common.{◌≡◌, ◌++◌, drop, map, string_bytes}
use Rattle.per_words.specs.Apart.{named_words}
use Rattle.per_words.specs.declared.words.WordRole.TheVariants as reading
use Rattle.per_words.proofs.words.named_words.Given as goal

-- what is named so far, and in the words that are left
abbrev pub invariant-loop-word : goal.invariant-loop-word
invariant-loop-word l = map (λ word. word.now) l.named.items
    ++ named_words l.reading (map string_bytes (drop l.word-index l.words))
    ≡ named_words reading.Word (map string_bytes l.words)
