use Rattle.std.proofs.Common.{refl}
use Rattle.mem_system.specs.Memory.{mem_medium}
use Rattle.mem_system.proofs.Done.{SettledAll, settled_all}
use Rattle.mem_system.proofs.memory.MemSystemSystem.settle.Goals as goal

done : (c : goal.In_ok-note) → SettledAll (mem_medium c.args.self.now) (mem_medium c.note.new.self)
done c = settled_all c.args.self.now c.note.new.self (c.requires refl) c.in_ok-note.ensures.ok

pub returns-clause-quiet : goal.returns-clause-quiet
returns-clause-quiet c = (done c).quiet

pub returns-clause-writes_nothing : goal.returns-clause-writes_nothing
returns-clause-writes_nothing c = (done c).writes_nothing

pub returns-clause-time : goal.returns-clause-time
returns-clause-time c = (done c).time

pub returns-clause-named : goal.returns-clause-named
returns-clause-named c = (done c).named

pub returns-clause-free : goal.returns-clause-free
returns-clause-free c = (done c).free

pub returns-clause-lost : goal.returns-clause-lost
returns-clause-lost c = (done c).lost
