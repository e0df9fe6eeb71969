use Rattle.mem_system.proofs.Done.{is_absent}
use Rattle.mem_system.proofs.memory.MemSystemSystem.open.Goals as goal

pub returns-else-has-clause-absent : goal.returns-else-has-clause-absent
returns-else-has-clause-absent c = λ told. is_absent c.enter.new.self c.args.file (c.has.ensures c.if-has.false)
