use Rattle.std.proofs.Common.{is_ok}
use Rattle.disk_model.specs.History.{image_of, start_image}
use Rattle.disk_model.proofs.Answering.{note_tied}
use Rattle.disk_model.proofs.memory.MemDisk.note.Goals as goal

pub invariant_of-self : goal.invariant_of-self
invariant_of-self c = record {
  tied = note_tied c.args.self.now.calls.items c.push.new.self.items c.args.call (is_ok c.push.result)
      (image_of c.args.self.now.files) (start_image c.args.self.now.files c.args.self.now.start) c.requires
      c.push.ensures.items c.args.self.now.tied;
}
