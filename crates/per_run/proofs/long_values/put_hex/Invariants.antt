use Rattle.std.proofs.Common.{drop}
use Rattle.value_text.specs.Texts.{hex_text}
use Rattle.per_run.proofs.Behind.{Putting}
use Rattle.per_run.proofs.long_values.put_hex.Given as goal

-- the bytes that were put, and those that are left
abbrev pub invariant-loop-byte : goal.invariant-loop-byte
invariant-loop-byte g l = Putting (g.K.Sink.written l.initial.sink) (g.K.Sink.written l.sink) l.initial.waiting.items
    l.waiting.items (hex_text l.bytes) (hex_text (drop l.byte-index l.bytes)) (g.K.Sink.faults l.initial.sink)
    (g.K.Sink.faults l.sink)
