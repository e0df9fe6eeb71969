use Rattle.std.proofs.Common.{List, ℕ, sym, ap, subst, length, arith}
use Rattle.block_files.specs.BlockSets.{AreDistinct}
use Rattle.block_files.specs.lemmas.Sharing.{free_distinct}
use Rattle.block_files.proofs.putting.put_blob.Goals as goal

pub write_blob-requires : goal.write_blob-requires
write_blob-requires g c =
    let P : List ℕ → Type 0 = λ xs. AreDistinct xs in
    record {
      room = omega (arith, ap length c.as_slice.ensures, c.in_ok-blob.ensures.count);
      distinct = subst P (sym c.as_slice.ensures) (free_distinct c.args.used.now c.in_ok-blob.blob.blocks
          c.in_ok-blob.ensures.free);
    }

pub returns-in_err-write_blob-clause-reserved : goal.returns-in_err-write_blob-clause-reserved
returns-in_err-write_blob-clause-reserved g c = λ failed.
    (c.in_ok-blob.blob.blocks, c.in_ok-blob.ensures.count, c.in_ok-blob.ensures.free, c.in_ok-blob.ensures.used)
