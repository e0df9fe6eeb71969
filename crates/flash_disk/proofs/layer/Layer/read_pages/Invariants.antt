use Rattle.std.proofs.Common.{◌≡◌, ℕ, ◌<◌, ◌≤◌, ◌+◌, ◌-◌, length, get_or, true}
use Rattle.flash_disk.specs.Newest.{places}
use Rattle.flash_disk.specs.FlashFiles.{file_byte, file_len}
use Rattle.flash_disk.specs.Learnt.{KnowsLengths}
use Rattle.flash_disk.proofs.Steps.{LookedOn}
use Rattle.flash_disk.proofs.layer.Layer.read_pages.Given as goal

abbrev pub decreases-loop-done : goal.decreases-loop-done
decreases-loop-done g l = length l.out - l.done

abbrev pub invariant-loop-done : goal.invariant-loop-done
invariant-loop-done g l = record {
  within : l.done ≤ length l.out;
  reads : LookedOn g.F.Flash.told g.F.Flash.medium l.initial.self l.self;
  read : g.F.Flash.told ≡ true → KnowsLengths (g.F.Flash.medium l.initial.self.flash).state.pages
      (places (g.F.Flash.medium l.initial.self.flash).blocks) l.initial.self.state.table
      → l.at + length l.out ≤ file_len (g.F.Flash.medium l.initial.self.flash).state.pages
      (places (g.F.Flash.medium l.initial.self.flash).blocks) l.file
      → (k : ℕ) → k < l.done
      → get_or l.out k 0 ≡ file_byte (g.F.Flash.medium l.initial.self.flash).state.pages
      (places (g.F.Flash.medium l.initial.self.flash).blocks) l.file (l.at + k);
}
