use Rattle.std.proofs.Common.{◌≡◌, true}
use Rattle.flash_disk.specs.Apart.{copy_of}
use Rattle.flash_disk.specs.KeepsApart.{KeepsApart}
use Rattle.flash_disk.specs.Does.{Does}
use Rattle.flash_disk.specs.Standing.{DenotesFiles}
use Rattle.flash_disk.specs.Steps.{IsSure}
use Rattle.flash_disk.specs.Entries.{SameEntries}
use Rattle.flash_disk.proofs.Writing.{Wiped}
use Rattle.flash_disk.proofs.Accounting.{Counted}
use Rattle.flash_disk.proofs.layer.Layer.wipe_strays.Given as goal

abbrev pub invariant-loop-page : goal.invariant-loop-page
invariant-loop-page g l = record {
  ready : IsSure g.F.Flash.told g.F.Flash.medium l.self;
  wiped : g.F.Flash.told ≡ true → Wiped (g.F.Flash.medium l.initial.self.flash) (g.F.Flash.medium l.self.flash) l.file
      l.page l.initial.self.state.stray_end;
  does : g.F.Flash.told ≡ true → Does (DenotesFiles (g.F.Flash.medium l.initial.self.flash))
      (g.F.Flash.medium l.initial.self.flash) (g.F.Flash.medium l.self.flash);
  apart : g.F.Flash.told ≡ true → KeepsApart (copy_of l.file) (g.F.Flash.medium l.initial.self.flash)
      (g.F.Flash.medium l.self.flash);
  counts : Counted g.F.Flash.told g.F.Flash.medium l.page l.initial.self l.self;
  entries : g.F.Flash.told ≡ true → SameEntries l.initial.self.state.table l.self.state.table;
}
