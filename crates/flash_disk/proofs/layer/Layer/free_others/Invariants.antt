use Rattle.std.proofs.Common.{◌≡◌, ◌<◌, ℕ, true}
use Rattle.flash_disk.specs.Does.{Does}
use Rattle.flash_disk.specs.Kept.{in_ranges, HoldsKept}
use Rattle.flash_disk.specs.Forgetting.{Forgets, IsForgetting, IsFreeBlock}
use Rattle.flash_disk.proofs.Accounting.{Counted}
use Rattle.flash_disk.proofs.layer.Layer.free_others.Given as goal

abbrev pub invariant-loop-block : goal.invariant-loop-block
invariant-loop-block g l =
    let m = g.F.Flash.medium l.initial.self.flash in
    let now = g.F.Flash.medium l.self.flash in
    record {
      counts : Counted g.F.Flash.told g.F.Flash.medium 0 l.initial.self l.self;
      forgetting : g.F.Flash.told ≡ true → IsForgetting (in_ranges l.kept) now.state.pages now.blocks l.self.state;
      free : g.F.Flash.told ≡ true → IsFreeBlock now.state.pages now.blocks l.self.state l.target;
      holds : g.F.Flash.told ≡ true → (b : ℕ) → b < l.block → HoldsKept (in_ranges l.kept) now.state.pages b;
      does : g.F.Flash.told ≡ true → Does (Forgets (in_ranges l.kept) m.blocks m.state.pages) m now;
    }
