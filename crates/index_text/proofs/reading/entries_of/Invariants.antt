use Rattle.std.proofs.Common.{◌≡◌, ◌-◌}
use Rattle.per_base.specs.Fields.{many}
use Rattle.index_text.specs.Reading.{entry_at}
use Rattle.per_base.specs.FieldLoops.{with_front}
use Rattle.index_text.proofs.reading.entries_of.Given as goal

abbrev pub invariant-loop : goal.invariant-loop
invariant-loop l = with_front l.entries.items (many (entry_at l.header.format l.header.kind)
    (l.header.count - l.counter) l.rest) ≡ many (entry_at l.header.format l.header.kind) l.header.count l.bytes
