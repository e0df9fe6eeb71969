use Rattle.std.proofs.Common.{arith}
use Rattle.std.proofs.lemmas.Grind.{common_steps}
use Rattle.per_system.proofs.Digits.{begins}
use Rattle.per_system.proofs.names.begins_number.Goals as goal

pub returns-then-is_empty : goal.returns-then-is_empty
returns-then-is_empty c = λ n small is. let b = begins n c.args.bytes.now small is in
    grind (arith, common_steps, b.some, b.digit, b.nonzero)

pub returns-then-first-eq48 : goal.returns-then-first-eq48
returns-then-first-eq48 c = λ n small is. let b = begins n c.args.bytes.now small is in
    grind (arith, common_steps, b.some, b.digit, b.nonzero)

pub returns-then-first-gt48 : goal.returns-then-first-gt48
returns-then-first-gt48 c = λ n small is. let b = begins n c.args.bytes.now small is in
    grind (arith, common_steps, b.some, b.digit, b.nonzero)

pub returns-else-first-gt48 : goal.returns-else-first-gt48
returns-else-first-gt48 c = λ n small is. let b = begins n c.args.bytes.now small is in
    grind (arith, common_steps, b.some, b.digit, b.nonzero)
