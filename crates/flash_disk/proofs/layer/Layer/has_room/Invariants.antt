use Rattle.std.proofs.Common.{◌≡◌, ◌≤◌, ◌-◌, ◌/◌}
use Rattle.flash_disk.specs.Counted.{missing}
use Rattle.flash_disk.proofs.layer.Layer.has_room.Given as goal

abbrev pub invariant-loop-page : goal.invariant-loop-page
invariant-loop-page g l = (l.new ≡ missing l.self.state.table l.file (l.at / 256) (l.page - l.at / 256))
    × (l.new ≤ l.page)
