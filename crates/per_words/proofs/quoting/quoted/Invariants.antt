use Rattle.std.proofs.Common.{◌≡◌, ◌∷◌, ◌++◌, drop}
use Rattle.per_words.specs.Quoted.{quoted_bytes}
use Rattle.per_words.proofs.quoting.quoted.Given as goal

-- the quote and the bytes so far, and those that are left
abbrev pub invariant-loop-byte : goal.invariant-loop-byte
invariant-loop-byte l = l.text.items ++ quoted_bytes (drop l.byte-index l.word) ≡ 39 ∷ quoted_bytes l.word
