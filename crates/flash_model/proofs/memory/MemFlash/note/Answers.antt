use Rattle.std.proofs.Common.{is_ok}
use Rattle.flash_model.specs.History.{pages_of}
use Rattle.flash_model.proofs.Answering.{note_tied}
use Rattle.flash_model.proofs.memory.MemFlash.note.Goals as goal

pub invariant_of-self : goal.invariant_of-self
invariant_of-self c = record {
  long = c.args.self.now.long;
  tied = note_tied c.args.self.now.calls.items c.push.new.self.items c.args.call (is_ok c.push.result)
      (pages_of c.args.self.now.pages.items) c.requires c.push.ensures.items c.args.self.now.tied;
}
