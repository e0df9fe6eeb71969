use Rattle.std.proofs.Common.{◌<◌, ◌^◌, arith}
use Rattle.std.proofs.lemmas.Fmt.{parse-decimal}
use Rattle.std.proofs.lemmas.Grind.{common_steps}
use Rattle.per_system.proofs.names.number_of.Goals as goal

pub returns-then-begins_number : goal.returns-then-begins_number
returns-then-begins_number c = λ n small is.
    let short : n < 2 ^ 64 = omega arith in
    let read = parse-decimal 32 n c.args.digits.now c.parse.result small short is c.parse.ensures.value.0 in
    grind (arith, common_steps, read)
