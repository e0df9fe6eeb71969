use Rattle.std.proofs.Common.{arith}
use Rattle.guarded_cell.proofs.Choosing.{chooses_on}
use Rattle.guarded_cell.proofs.slots.choose.Goals as goal

pub loop-copy-preserved : goal.loop-copy-preserved
loop-copy-preserved g c = chooses_on c.args.pick c.loop-copy.chosen c.args.place c.args.parity c.loop-copy.copy
    c.args.generation c.args.text.now
    c.in_ok-found.found c.is_picked.result c.slot.result (omega arith) c.is_picked.ensures c.slot.ensures
    c.loop-copy.invariant
    c.in_ok-found.ensures.found c.look_at.ensures.reads c.look_at.ensures.time c.in_ok-found.ensures.faults.passes
