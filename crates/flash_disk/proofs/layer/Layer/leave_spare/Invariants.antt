use Rattle.std.proofs.Common.{◌≡◌, ◌<◌, true}
use Rattle.flash_disk.specs.Newest.{places}
use Rattle.flash_disk.specs.Known.{page_len}
use Rattle.flash_disk.specs.Learnt.{LeavesBlock}
use Rattle.flash_disk.proofs.Steps.{SteppedOn}
use Rattle.flash_disk.proofs.layer.Layer.leave_spare.Given as goal

abbrev pub invariant-loop-page : goal.invariant-loop-page
invariant-loop-page g l =
    let m = g.F.Flash.medium l.initial.self.flash in
    record {
      step : SteppedOn g.F.Flash.told g.F.Flash.medium l.initial.self l.self;
      sequence : l.self.state.sequence ≡ l.initial.self.state.sequence;
      spare : l.self.state.spare ≡ l.initial.self.state.spare;
      len : page_len l.self.state.table ≡ page_len l.initial.self.state.table;
      left : g.F.Flash.told ≡ true → l.spare < m.blocks → LeavesBlock m.state.pages (places m.blocks) l.spare 0 l.page
          l.initial.self.state.table l.self.state.table;
    }
