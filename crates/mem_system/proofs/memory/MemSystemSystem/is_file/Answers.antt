use Rattle.mem_system.proofs.Done.{is_absent}
use Rattle.mem_system.proofs.memory.MemSystemSystem.is_file.Goals as goal

pub returns-clause-absent : goal.returns-clause-absent
returns-clause-absent c = λ told no. is_absent c.enter.new.self c.args.file (c.has.ensures no)
