use Rattle.std.proofs.Common.{◌≡◌, ◌++◌, drop, string_bytes}
use Rattle.value_text.specs.Texts.{hex_text}
use Rattle.value_text.proofs.printing.push_hex.Given as goal

-- the text so far, and the bytes that are left
abbrev pub invariant-loop-byte : goal.invariant-loop-byte
invariant-loop-byte l = string_bytes l.out ++ hex_text (drop l.byte-index l.bytes)
    ≡ string_bytes l.fn.out ++ hex_text l.bytes
