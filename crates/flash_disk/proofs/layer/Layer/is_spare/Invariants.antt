use Rattle.std.proofs.Common.{◌≡◌, ℕ, ◌<◌, ◌+◌, ◌*◌, true}
use Rattle.flash_disk.specs.Newest.{NeedsPlace, places}
use Rattle.flash_disk.specs.Learnt.{HasLearnt}
use Rattle.flash_disk.proofs.Steps.{LookedOn}
use Rattle.flash_disk.proofs.layer.Layer.is_spare.Given as goal

abbrev pub invariant-loop-page : goal.invariant-loop-page
invariant-loop-page g l =
    let m = g.F.Flash.medium l.initial.self.flash in
    record {
      reads : LookedOn g.F.Flash.told g.F.Flash.medium l.initial.self l.self;
      unneeded : g.F.Flash.told ≡ true → HasLearnt m.state.pages (places m.blocks) l.initial.self.state.table
          → (p : ℕ) → p < l.page → NeedsPlace m.state.pages (places m.blocks) (64 * l.block + p) → ⊥;
    }
