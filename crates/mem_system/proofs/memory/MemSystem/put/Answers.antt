use Rattle.disk_model.specs.History.{image_of}
use Rattle.mem_system.proofs.Done.{write_tied}
use Rattle.mem_system.proofs.memory.MemSystem.put.Goals as goal

pub invariant_of-self-in-Ok : goal.invariant_of-self-in-Ok
invariant_of-self-in-Ok c =
    let was = c.args.self.now in
    record {
      tied = write_tied (image_of was.start) was.history.items c.push.new.self.items (image_of was.files)
          (image_of c.put.new.files) c.args.file c.args.at c.in_ok-from_slice.field-0 c.args.bytes.now
          c.in_ok-from_slice.ensures.items c.in_ok-push.ensures.items was.tied c.in-Ok.ensures.ok;
    }
