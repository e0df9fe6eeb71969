use Rattle.std.proofs.Common.{◌≡◌, ◌≤◌, true}
use Rattle.flash_disk.specs.Does.{Does}
use Rattle.flash_disk.specs.Kept.{in_ranges}
use Rattle.flash_disk.specs.Forgetting.{IsMovingKept, MovesKept}
use Rattle.flash_disk.proofs.Accounting.{Counted}
use Rattle.flash_disk.proofs.layer.Layer.move_kept.Given as goal

abbrev pub invariant-loop-page : goal.invariant-loop-page
invariant-loop-page g l =
    let m = g.F.Flash.medium l.initial.self.flash in
    let now = g.F.Flash.medium l.self.flash in
    record {
      counts : Counted g.F.Flash.told g.F.Flash.medium 0 l.initial.self l.self;
      few : l.count ≤ l.page;
      spare : l.self.state.spare ≡ l.initial.self.state.spare;
      moving : g.F.Flash.told ≡ true → IsMovingKept (in_ranges l.kept) now.state.pages now.blocks l.self.state l.from l.to
          l.page l.count;
      does : g.F.Flash.told ≡ true → Does (MovesKept (in_ranges l.kept) m.blocks l.from l.to m.state.pages) m now;
    }
