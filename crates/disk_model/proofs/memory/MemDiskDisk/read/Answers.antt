use Rattle.std.proofs.Common.{◌≡◌, ◌∙◌, ◌-◌, ap, length, min, take, drop}
use Rattle.disk_model.specs.History.{image_of}
use Rattle.disk_model.proofs.Answering.{read_done}
use Rattle.disk_model.proofs.memory.MemDiskDisk.read.Goals as goal

pub returns-clause-bytes : goal.returns-clause-bytes
returns-clause-bytes c =
    let same : c.bytes_of.result.now ≡ image_of c.args.self.now.files c.args.file =
    c.bytes_of.ensures ∙ ap (λ image. image c.args.file) c.in_ok-enter.ensures.record.image_is in (
      c.read_from.ensures.count ∙ ap (λ bytes. min (length c.args.out.now) (length bytes - c.args.at)) same,
      c.read_from.ensures.bytes ∙ ap (λ bytes. take c.read_from.result (drop c.args.at bytes)) same,
    )

pub returns-clause-reads : goal.returns-clause-reads
returns-clause-reads c = (read_done c.args.self.now c.enter.new.self c.in_ok-enter.ensures.ok.counts
    c.in_ok-enter.ensures.record).0

pub returns-clause-time : goal.returns-clause-time
returns-clause-time c = (read_done c.args.self.now c.enter.new.self c.in_ok-enter.ensures.ok.counts
    c.in_ok-enter.ensures.record).1
