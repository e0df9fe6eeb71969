use Rattle.std.proofs.Common.{◌≡◌, length, ◌-◌}
use Rattle.per_base.specs.FieldLoops.{with_front}
use Rattle.value_text.specs.Readers.{hex_bytes_at}
use Rattle.value_text.proofs.strings.bytes_reusing.Given as goal

-- the bytes so far, and those of what is left
abbrev pub invariant-loop : goal.invariant-loop
invariant-loop l = with_front l.found.items (hex_bytes_at (length l.bytes - l.counter) l.rest)
    ≡ hex_bytes_at (length l.bytes) l.bytes
