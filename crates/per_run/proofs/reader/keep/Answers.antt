-- The start of a line with more bytes: it is full, or it grows.
use Rattle.std.proofs.Common.{◌∙◌, arith}
use Rattle.per_run.proofs.Fronts.{keeps_front}
use Rattle.per_run.proofs.reader.keep.Goals as goal

pub returns-in-Ok-clause-kept : goal.returns-in-Ok-clause-kept
returns-in-Ok-clause-kept c = λ rest is. c.in-Ok.ensures.items
    ∙ keeps_front 262145 c.args.kept.now.items rest c.args.bytes.now _ is (omega arith)
