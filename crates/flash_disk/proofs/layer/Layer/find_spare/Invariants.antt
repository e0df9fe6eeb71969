use Rattle.std.proofs.Common.{◌≡◌, ℕ, ◌<◌, true}
use Rattle.flash_disk.specs.Newest.{IsSpare, places}
use Rattle.flash_disk.specs.Learnt.{HasLearnt}
use Rattle.flash_disk.proofs.Steps.{LookedOn}
use Rattle.flash_disk.proofs.layer.Layer.find_spare.Given as goal

abbrev pub invariant-loop-block : goal.invariant-loop-block
invariant-loop-block g l =
    let pages = (g.F.Flash.medium l.initial.self.flash).state.pages in
    record {
      reads : LookedOn g.F.Flash.told g.F.Flash.medium l.initial.self l.self;
      none : g.F.Flash.told ≡ true → HasLearnt pages (places l.blocks) l.initial.self.state.table
          → (b : ℕ) → b < l.block → IsSpare pages (places l.blocks) b → ⊥;
    }
