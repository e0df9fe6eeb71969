use Rattle.std.proofs.Common.{◌∙◌, ap, length}
use Rattle.disk_model.proofs.Answering.{read_done}
use Rattle.disk_model.proofs.memory.MemDiskDisk.size.Goals as goal

pub returns-clause-size : goal.returns-clause-size
returns-clause-size c = ap length (c.bytes_of.ensures ∙ ap (λ image. image c.args.file)
    c.in_ok-enter.ensures.record.image_is)

pub returns-clause-reads : goal.returns-clause-reads
returns-clause-reads c = (read_done c.args.self.now c.enter.new.self c.in_ok-enter.ensures.ok.counts
    c.in_ok-enter.ensures.record).0

pub returns-clause-time : goal.returns-clause-time
returns-clause-time c = (read_done c.args.self.now c.enter.new.self c.in_ok-enter.ensures.ok.counts
    c.in_ok-enter.ensures.record).1
