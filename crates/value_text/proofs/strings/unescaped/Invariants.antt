use Rattle.std.proofs.Common.{◌≡◌, false, drop}
use Rattle.per_base.specs.FieldLoops.{with_front}
use Rattle.value_text.specs.Readers.{quoted_at}
use Rattle.value_text.proofs.strings.unescaped.Given as goal

-- the text so far, and what is left of it
abbrev pub invariant-loop-i : goal.invariant-loop-i
invariant-loop-i l = with_front l.text.items (quoted_at l.is_escaped (drop l.i l.bytes)) ≡ quoted_at false l.bytes
