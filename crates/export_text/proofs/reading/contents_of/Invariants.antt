use Rattle.std.proofs.Common.{◌≡◌, ◌-◌}
use Rattle.per_base.specs.Fields.{many}
use Rattle.per_base.specs.FieldLoops.{with_front}
use Rattle.export_text.specs.Exports.{fresh_at}
use Rattle.export_text.proofs.reading.contents_of.Given as goal

abbrev pub invariant-loop : goal.invariant-loop
invariant-loop l = with_front l.contents.items (many (fresh_at l.header.kind) (l.header.count - l.counter) l.rest)
    ≡ many (fresh_at l.header.kind) l.header.count l.bytes
