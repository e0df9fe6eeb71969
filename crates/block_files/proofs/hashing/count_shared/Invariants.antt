use Rattle.std.proofs.Common.{◌≡◌, ◌*◌, take}
use Rattle.block_files.proofs.hashing.count_shared.Given as goal

abbrev pub invariant-loop-i : goal.invariant-loop-i
invariant-loop-i l = take (32768 * l.i) l.bytes ≡ take (32768 * l.i) l.others
