use Rattle.std.proofs.Common.{refl}
use Rattle.disk_model.specs.History.{image_of}
use Rattle.disk_model.proofs.Pushed.{none_pending}
use Rattle.disk_model.proofs.memory.MemDisk.holding.Goals as goal

pub returns-clause-fresh : goal.returns-clause-fresh
returns-clause-fresh c = record {
  quiet = none_pending c.new.result.items c.new.ensures.items (image_of c.args.files);
  faults = c.none.ensures.faults;
  written = refl;
  starved = c.none.ensures.starved;
  orders = c.none.ensures.orders;
}
