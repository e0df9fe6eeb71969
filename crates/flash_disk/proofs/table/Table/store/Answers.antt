use Rattle.std.proofs.Common.{sym, ◌∙◌}
use Rattle.flash_disk.proofs.Counting.{inserted}
use Rattle.flash_disk.proofs.table.Table.store.Goals as goal

pub returns-then-room-gt0-clause-counts : goal.returns-then-room-gt0-clause-counts
returns-then-room-gt0-clause-counts c ok block =
    inserted block c.args.self.now.newest c.insert.new.self c.args.key c.args.new c.insert.result
    (sym c.is_ok.ensures.value ∙ ok) c.insert.ensures.old c.insert.ensures.entries
