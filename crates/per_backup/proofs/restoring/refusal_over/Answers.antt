use Rattle.std.proofs.Common.{arith}
use Rattle.per_backup.proofs.Restored.{taken_not, taken_worn}
use Rattle.per_backup.proofs.restoring.refusal_over.Goals as goal

pub returns-then-generation-eq18446744073709551615 : goal.returns-then-generation-eq18446744073709551615
returns-then-generation-eq18446744073709551615 c = taken_worn c.args.generation (omega arith)

pub returns : goal.returns
returns c = taken_not c.args.generation (omega arith)
