use Rattle.disk_model.specs.History.{image_of}
use Rattle.std.specs.Prelude.{is_ok}
use Rattle.mem_system.proofs.Done.{note_tied}
use Rattle.mem_system.proofs.memory.MemSystem.note.Goals as goal

pub invariant_of-self : goal.invariant_of-self
invariant_of-self c =
    let was = c.args.self.now in
    record {
      tied = note_tied (image_of was.start) was.history.items c.push.new.self.items c.args.call (is_ok c.push.result)
          (image_of was.files) c.requires c.push.ensures.items was.tied;
    }
