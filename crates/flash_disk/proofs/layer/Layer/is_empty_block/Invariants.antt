use Rattle.std.proofs.Common.{◌≡◌, ◌<◌, ℕ, true}
use Rattle.flash_model.specs.Pages.{blank_page}
use Rattle.flash_disk.proofs.Steps.{LookedOn}
use Rattle.flash_disk.proofs.layer.Layer.is_empty_block.Given as goal

abbrev pub invariant-loop-page : goal.invariant-loop-page
invariant-loop-page g l =
    let m = g.F.Flash.medium l.initial.self.flash in
    record {
      reads : LookedOn g.F.Flash.told g.F.Flash.medium l.initial.self l.self;
      blank : g.F.Flash.told ≡ true → l.block < m.blocks → (p : ℕ) → p < l.page → m.state.pages l.block p ≡ blank_page;
    }
