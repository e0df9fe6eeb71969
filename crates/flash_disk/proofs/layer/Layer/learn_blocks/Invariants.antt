use Rattle.std.proofs.Common.{◌≡◌, ◌*◌, true}
use Rattle.flash_disk.specs.Learnt.{HasLearnt, IsTop}
use Rattle.flash_disk.proofs.Steps.{SteppedOn}
use Rattle.flash_disk.proofs.layer.Layer.learn_blocks.Given as goal

abbrev pub invariant-loop-block : goal.invariant-loop-block
invariant-loop-block g l =
    let pages = (g.F.Flash.medium l.initial.self.flash).state.pages in
    record {
      step : SteppedOn g.F.Flash.told g.F.Flash.medium l.initial.self l.self;
      learns : g.F.Flash.told ≡ true → HasLearnt pages (64 * l.block) l.self.state.table;
      tops : g.F.Flash.told ≡ true → IsTop pages 0 l.initial.self.state.sequence
          → IsTop pages (64 * l.block) l.self.state.sequence;
    }
