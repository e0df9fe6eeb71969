use Rattle.std.proofs.Common.{◌∙◌, sym, length, le_trans, le_of_eq}
use Rattle.disk_model.specs.History.{image_of}
use Rattle.disk_model.proofs.Answering.{WriteDone, write_done, same_torn, on_err}
use Rattle.disk_model.proofs.memory.MemDiskDisk.write_at.Goals as goal

pub returns-in_err-begin-clause-torn : goal.returns-in_err-begin-clause-torn
returns-in_err-begin-clause-torn c = on_err _ _
    (same_torn (image_of c.args.self.now.files) (image_of c.begin.new.self.files) c.args.file c.args.at
    (length c.args.bytes.now) c.in_err-begin.ensures.record.image_is)

done : (c : goal.In-Ok) → WriteDone c.args.file c.args.at c.args.bytes.now c.args.self.now c.write.new.self
done c = let (copy, copied, shows) = c.in-Ok.ensures.ok in
    write_done c.args.self.now c.begin.new.self c.write.new.self c.args.file c.args.at c.args.bytes.now copy
    c.in_ok-begin.ensures.record copied shows
    (le_trans c.in_ok-begin.ensures.begun.later (le_of_eq (sym c.in-Ok.ensures.rest.counts.faults)))

pub returns-in-Ok-clause-now : goal.returns-in-Ok-clause-now
returns-in-Ok-clause-now c = (done c).now

pub returns-in-Ok-clause-during : goal.returns-in-Ok-clause-during
returns-in-Ok-clause-during c = (done c).during

pub returns-in-Ok-clause-time : goal.returns-in-Ok-clause-time
returns-in-Ok-clause-time c = (done c).time

pub returns-in-Ok-clause-tears : goal.returns-in-Ok-clause-tears
returns-in-Ok-clause-tears c = (done c).tears

pub returns-in-Err-clause-torn : goal.returns-in-Err-clause-torn
returns-in-Err-clause-torn c =
    same_torn (image_of c.args.self.now.files) (image_of c.starve.new.self.files) c.args.file c.args.at
    (length c.args.bytes.now)
    (c.starve.ensures.record.image_is ∙ c.in-Err.ensures.err.image_is ∙ c.in_ok-begin.ensures.record.image_is)
