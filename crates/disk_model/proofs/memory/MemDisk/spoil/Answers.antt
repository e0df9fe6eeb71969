use Rattle.disk_model.specs.History.{image_of}
use Rattle.disk_model.proofs.Pushed.{none_pending}
use Rattle.disk_model.proofs.memory.MemDisk.spoil.Goals as goal

pub returns-then-set-clause-quiet : goal.returns-then-set-clause-quiet
returns-then-set-clause-quiet c = none_pending c.clear.new.self.items c.clear.ensures.items
    (image_of c.set_byte-set.new.files)
