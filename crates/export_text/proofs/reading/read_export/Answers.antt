use Rattle.std.proofs.Common.{arith}
use Rattle.export_text.proofs.Whole.{read_is_spelled, read_keeps_rules, refused_is_none}
use Rattle.export_text.proofs.reading.read_export.Goals as goal

pub returns-clause-rules : goal.returns-clause-rules
returns-clause-rules c = read_keeps_rules c.args.bytes.now c.read_whole.result (λ i. omega (arith, c.type_inv.bytes i))
    c.read_whole.ensures.read

pub returns-clause-spelled : goal.returns-clause-spelled
returns-clause-spelled c = read_is_spelled c.args.bytes.now c.read_whole.result (λ i. omega (arith, c.type_inv.bytes i))
    c.read_whole.ensures.read

pub returns-clause-refused : goal.returns-clause-refused
returns-clause-refused c = refused_is_none c.args.bytes.now c.read_whole.result c.read_whole.ensures.read
