use Rattle.std.proofs.Common.{◌*◌, take}
use Rattle.sha2.specs.Hashers.{Holds256}
use Rattle.block_files.specs.States.{AreStatesOf}
use Rattle.block_files.proofs.hashing.hash_from.Given as goal

abbrev pub invariant-loop-i : goal.invariant-loop-i
invariant-loop-i l = record {
  state : Holds256 l.hasher (take (32768 * l.i) l.bytes);
  kept : AreStatesOf l.bytes l.kept.items;
}
