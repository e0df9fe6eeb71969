use Rattle.std.proofs.Common.{◌≡◌, ◌-◌}
use Rattle.std.specs.Int.{w32}
use Rattle.per_base.specs.Fields.{many, number_at}
use Rattle.per_base.specs.FieldLoops.{with_front}
use Rattle.index_text.proofs.fields.numbers_of.Given as goal

abbrev pub invariant-loop : goal.invariant-loop
invariant-loop l = with_front l.numbers.items (many (number_at w32) (l.count - l.counter) l.rest)
    ≡ many (number_at w32) l.count l.bytes
