use Rattle.std.proofs.Common.{◌≡◌, ◌++◌, drop, map, string_bytes}
use Rattle.per_words.specs.Apart.{options_in}
use Rattle.per_words.specs.declared.words.WordRole.TheVariants as reading
use Rattle.per_words.proofs.words.options_in.Given as goal

-- the options so far, and those of the words that are left
abbrev pub invariant-loop-word : goal.invariant-loop-word
invariant-loop-word l = map string_bytes l.options.items
    ++ options_in l.reading (map string_bytes (drop l.word-index l.words))
    ≡ options_in reading.Word (map string_bytes l.words)
