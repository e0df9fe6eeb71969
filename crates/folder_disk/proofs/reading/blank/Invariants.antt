use Rattle.std.proofs.Common.{◌≡◌, ◌<◌, ◌≤◌, ℕ, length}
use Rattle.std.specs.Prelude.{slice_index}
use Rattle.folder_disk.proofs.reading.blank.Given as goal

abbrev pub invariant-loop-place : goal.invariant-loop-place
invariant-loop-place l = record {
  long : l.count ≤ length l.out;
  zeros : (j : ℕ) → j < l.place → slice_index l.out j ≡ 0;
}
