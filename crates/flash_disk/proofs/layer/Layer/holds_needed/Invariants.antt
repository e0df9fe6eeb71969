use Rattle.std.proofs.Common.{◌≡◌, ◌<◌, true}
use Rattle.flash_disk.specs.Newest.{places}
use Rattle.flash_disk.specs.Kept.{in_ranges}
use Rattle.flash_disk.specs.Forgetting.{LeadsKept, LeavesKept}
use Rattle.flash_disk.proofs.Steps.{LookedOn}
use Rattle.flash_disk.proofs.layer.Layer.holds_needed.Given as goal

abbrev pub invariant-loop-at : goal.invariant-loop-at
invariant-loop-at g l =
    let m = g.F.Flash.medium l.initial.self.flash in
    record {
      reads : LookedOn g.F.Flash.told g.F.Flash.medium l.initial.self l.self;
      out : g.F.Flash.told ≡ true → l.block < m.blocks
          → LeadsKept (in_ranges l.kept) m.state.pages (places m.blocks) l.initial.self.state.table
          → LeavesKept (in_ranges l.kept) l.initial.self.state.table l.block l.at;
    }
