use Rattle.std.proofs.Common.{◌≡◌, ◌∷◌, ◌++◌, drop, map}
use Rattle.std.specs.List.{flat_map}
use Rattle.per_words.proofs.pushing.push_words.Given as goal

-- the line so far, and the words that are left
abbrev pub invariant-loop-word : goal.invariant-loop-word
invariant-loop-word l =
    l.line.items ++ flat_map (λ word. 32 ∷ word) (map (λ word. word.now) (drop l.word-index l.words))
    ≡ l.fn.line.items ++ flat_map (λ word. 32 ∷ word) (map (λ word. word.now) l.words)
