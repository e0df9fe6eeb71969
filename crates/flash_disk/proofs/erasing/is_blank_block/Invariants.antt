use Rattle.std.proofs.Common.{◌≡◌, ◌<◌, ℕ, true}
use Rattle.flash_model.specs.Pages.{blank_page}
use Rattle.flash_disk.proofs.erasing.is_blank_block.Given as goal

abbrev pub invariant-loop-at : goal.invariant-loop-at
invariant-loop-at g l =
    let m = g.F.Flash.medium l.initial.flash in
    let now = g.F.Flash.medium l.flash in
    record {
      blocks : now.blocks ≡ m.blocks;
      faults : now.faults ≡ m.faults;
      same : g.F.Flash.told ≡ true → now.state ≡ m.state;
      blank : g.F.Flash.told ≡ true → (p : ℕ) → p < l.at → m.state.pages l.block p ≡ blank_page;
    }
