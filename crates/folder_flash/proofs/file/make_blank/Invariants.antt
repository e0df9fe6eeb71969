use Rattle.std.proofs.Common.{◌≡◌, ◌<◌, ◌≤◌, ℕ, length}
use Rattle.std.specs.Prelude.{slice_index}
use Rattle.folder_flash.proofs.file.make_blank.Given as goal

abbrev pub invariant-loop-place : goal.invariant-loop-place
invariant-loop-place l = record {
  from : l.count ≤ l.place;
  long : length l.out ≡ length l.initial.out;
  kept : (j : ℕ) → j < l.count → slice_index l.out j ≡ slice_index l.initial.out j;
  blank : (j : ℕ) → l.count ≤ j → j < l.place → slice_index l.out j ≡ 255;
}
