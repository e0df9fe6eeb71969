use Rattle.std.proofs.Common.{◌≡◌, ◌<◌, ℕ, true}
use Rattle.flash_disk.specs.Kept.{in_ranges, HoldsKept}
use Rattle.flash_disk.proofs.Steps.{LookedOn}
use Rattle.flash_disk.proofs.layer.Layer.find_other.Given as goal

abbrev pub invariant-loop-block : goal.invariant-loop-block
invariant-loop-block g l =
    let m = g.F.Flash.medium l.initial.self.flash in
    record {
      reads : LookedOn g.F.Flash.told g.F.Flash.medium l.initial.self l.self;
      kept : g.F.Flash.told ≡ true → (b : ℕ) → b < l.block → HoldsKept (in_ranges l.kept) m.state.pages b;
    }
