use Rattle.std.proofs.Common.{subst}
use Rattle.mem_system.specs.History.{DropNothing}
use Rattle.mem_system.proofs.Done.{all_whole}
use Rattle.mem_system.proofs.memory.MemSystem.is_whole.Goals as goal

pub returns : goal.returns
returns c = λ yes. all_whole c.args.self.now
    (subst (λ calls. DropNothing calls) c.as_slice.ensures.value (c.drops_nothing.ensures yes))
