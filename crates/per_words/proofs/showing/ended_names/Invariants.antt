use Rattle.std.proofs.Common.{◌≡◌, ◌++◌, drop, map}
use Rattle.per_words.specs.Shown.{ended}
use Rattle.per_words.proofs.showing.ended_names.Given as goal

-- the text so far, and the names that are left
abbrev pub invariant-loop-byte : goal.invariant-loop-byte
invariant-loop-byte l = l.out.items ++ map ended (drop l.byte-index l.names) ≡ map ended l.names
