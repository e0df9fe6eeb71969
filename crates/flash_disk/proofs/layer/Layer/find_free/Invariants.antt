use Rattle.std.proofs.Common.{◌≢◌, ◌<◌, ℕ}
use Rattle.flash_disk.specs.Kept.{in_ranges}
use Rattle.flash_disk.specs.Forgetting.{NeedsBlock}
use Rattle.flash_disk.proofs.Steps.{LookedOn}
use Rattle.flash_disk.proofs.layer.Layer.find_free.Given as goal

abbrev pub invariant-loop-block : goal.invariant-loop-block
invariant-loop-block g l =
    let s = l.initial.self.state in
    record {
      reads : LookedOn g.F.Flash.told g.F.Flash.medium l.initial.self l.self;
      needed : (b : ℕ) → b < l.block → b ≢ s.spare → NeedsBlock (in_ranges l.kept) s.table b;
    }
