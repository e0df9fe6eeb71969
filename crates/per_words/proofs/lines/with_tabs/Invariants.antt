use Rattle.std.proofs.Common.{◌≡◌, ◌++◌, drop, map}
use Rattle.per_words.specs.Words.{tabbed}
use Rattle.per_words.proofs.lines.with_tabs.Given as goal

-- the text so far, and the bytes that are left
abbrev pub invariant-loop-byte : goal.invariant-loop-byte
invariant-loop-byte l = l.text.items ++ map tabbed (drop l.byte-index l.bytes) ≡ map tabbed l.bytes
