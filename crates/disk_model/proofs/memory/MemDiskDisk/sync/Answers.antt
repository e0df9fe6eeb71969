use Rattle.disk_model.proofs.Answering.{sync_done}
use Rattle.disk_model.proofs.memory.MemDiskDisk.sync.Goals as goal

pub returns-clause-quiet : goal.returns-clause-quiet
returns-clause-quiet c = (sync_done c.args.self.now c.enter.new.self c.in_ok-enter.ensures.ok.counts
    c.in_ok-enter.ensures.record).quiet

pub returns-clause-writes_nothing : goal.returns-clause-writes_nothing
returns-clause-writes_nothing c = (sync_done c.args.self.now c.enter.new.self c.in_ok-enter.ensures.ok.counts
    c.in_ok-enter.ensures.record).writes_nothing

pub returns-clause-time : goal.returns-clause-time
returns-clause-time c = (sync_done c.args.self.now c.enter.new.self c.in_ok-enter.ensures.ok.counts
    c.in_ok-enter.ensures.record).time
