use Rattle.std.proofs.Common.{◌≡◌, ◌≤◌, vec_len, true}
use Rattle.flash_disk.specs.Newest.{places}
use Rattle.flash_disk.specs.Does.{Does}
use Rattle.flash_disk.specs.Standing.{KeepsRecords}
use Rattle.flash_disk.specs.Counted.{copied_below}
use Rattle.flash_disk.specs.Moving.{IsMoving, StandsMoved}
use Rattle.flash_disk.proofs.Accounting.{Counted}
use Rattle.flash_disk.proofs.layer.Layer.copy_needed.Given as goal

abbrev pub invariant-loop-page : goal.invariant-loop-page
invariant-loop-page g l =
    let m = g.F.Flash.medium l.initial.self.flash in
    let now = g.F.Flash.medium l.self.flash in
    record {
      counts : Counted g.F.Flash.told g.F.Flash.medium 0 l.initial.self l.self;
      few : vec_len l.self.state.moved ≤ copied_below l.initial.self.state.table l.from l.page;
      count : vec_len l.self.state.moved ≤ l.page;
      state : l.self.state ≡ record l.initial.self.state { moved = l.self.state.moved };
      moving : g.F.Flash.told ≡ true → IsMoving now.state.pages now.blocks l.self.state l.from l.to l.page;
      keeps : g.F.Flash.told ≡ true → KeepsRecords m.state.pages now.state.pages (places m.blocks);
      does : g.F.Flash.told ≡ true → Does (StandsMoved l.initial.self.state.table l.from l.to m) m now;
    }
