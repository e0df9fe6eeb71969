use Rattle.std.proofs.Common.{◌≡◌, true}
use Rattle.flash_disk.specs.Newest.{places}
use Rattle.flash_disk.specs.Does.{Does}
use Rattle.flash_disk.specs.Entries.{SameEntries}
use Rattle.flash_disk.specs.Standing.{KeepsRecords}
use Rattle.flash_disk.specs.Moving.{IsJoining, LeadsFewer, StandsMoved}
use Rattle.flash_disk.proofs.Accounting.{Counted}
use Rattle.flash_disk.proofs.layer.Layer.add_needed.Given as goal

abbrev pub invariant-loop-page : goal.invariant-loop-page
invariant-loop-page g l =
    let m = g.F.Flash.medium l.initial.self.flash in
    let now = g.F.Flash.medium l.self.flash in
    let start = l.initial.self.state in
    record {
      counts : Counted g.F.Flash.told g.F.Flash.medium 0 l.initial.self l.self;
      state : l.self.state ≡ record start { table = l.self.state.table; fill = l.self.state.fill };
      joining : g.F.Flash.told ≡ true → IsJoining now.state.pages now.blocks l.self.state l.from l.page;
      fewer : g.F.Flash.told ≡ true → LeadsFewer start.table l.self.state.table l.from;
      entries : g.F.Flash.told ≡ true → SameEntries start.table l.self.state.table;
      keeps : g.F.Flash.told ≡ true → KeepsRecords m.state.pages now.state.pages (places m.blocks);
      does : g.F.Flash.told ≡ true → Does (StandsMoved start.table l.from start.current m) m now;
    }
