use Rattle.mem_system.proofs.Done.{is_absent}
use Rattle.mem_system.proofs.memory.MemSystemSystem.list.Goals as goal

pub returns-clause-others : goal.returns-clause-others
returns-clause-others c = λ told f none. is_absent c.enter.new.self f (c.in_ok-numbers.ensures f none)
