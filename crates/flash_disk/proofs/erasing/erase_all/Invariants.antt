use Rattle.std.proofs.Common.{◌≡◌, ◌<◌, ℕ, true}
use Rattle.flash_model.specs.Pages.{blank_page}
use Rattle.flash_disk.proofs.erasing.erase_all.Given as goal

abbrev pub invariant-loop-block : goal.invariant-loop-block
invariant-loop-block g l =
    let m = g.F.Flash.medium l.initial.flash in
    let now = g.F.Flash.medium l.flash in
    record {
      blocks : now.blocks ≡ m.blocks;
      faults : now.faults ≡ m.faults;
      blank : g.F.Flash.told ≡ true → (b p : ℕ) → b < l.block → p < 64 → now.state.pages b p ≡ blank_page;
    }
