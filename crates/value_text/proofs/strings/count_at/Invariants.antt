use Rattle.std.proofs.Common.{◌≡◌, length, ◌-◌}
use Rattle.std.specs.Prelude.{option_map}
use Rattle.value_text.proofs.Hex.{counted}
use Rattle.value_text.specs.Readers.{hex_bytes_at}
use Rattle.value_text.proofs.strings.count_at.Given as goal

-- the bytes so far, and those of what is left
abbrev pub invariant-loop-count : goal.invariant-loop-count
invariant-loop-count l = counted l.count (hex_bytes_at (length l.bytes - l.count) l.rest)
    ≡ option_map (λ x. length x.0) (hex_bytes_at (length l.bytes) l.bytes)
