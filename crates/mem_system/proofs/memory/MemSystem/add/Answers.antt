use Rattle.std.proofs.Common.{◌∙◌}
use Rattle.disk_model.specs.History.{image_of}
use Rattle.mem_system.proofs.Done.{note_tied}
use Rattle.mem_system.specs.declared.record.Call.TheVariants.{Make}
use Rattle.std.proofs.Common.{true}
use Rattle.mem_system.proofs.memory.MemSystem.add.Goals as goal

pub invariant_of-self-in-Ok : goal.invariant_of-self-in-Ok
invariant_of-self-in-Ok c =
    let was = c.args.self.now in
    record {
      tied = note_tied (image_of was.start) was.history.items c.push.new.self.items (Make c.args.file) true
          (image_of c.add.new.files) tt c.in_ok-push.ensures.items (c.add.ensures ∙ was.tied);
    }
