use Rattle.mem_system.specs.Memory.{mem_medium}
use Rattle.mem_system.proofs.Done.{Announced, announced}
use Rattle.mem_system.proofs.memory.MemSystemSystem.announce.Goals as goal

done : (c : goal.In_ok-note) → Announced c.args.file c.args.at c.args.bytes.now (mem_medium c.args.self.now)
    (mem_medium c.note.new.self)
done c = announced c.args.self.now c.note.new.self c.args.file c.args.at c.args.bytes.now c.in_ok-copy.copy
    c.in_ok-copy.ensures.items c.in_ok-note.ensures.ok

pub returns-clause-image : goal.returns-clause-image
returns-clause-image c = (done c).image

pub returns-clause-now : goal.returns-clause-now
returns-clause-now c = (done c).now

pub returns-clause-time : goal.returns-clause-time
returns-clause-time c = (done c).time

pub returns-clause-named : goal.returns-clause-named
returns-clause-named c = (done c).named

pub returns-clause-free : goal.returns-clause-free
returns-clause-free c = (done c).free

pub returns-clause-lost : goal.returns-clause-lost
returns-clause-lost c = (done c).lost
