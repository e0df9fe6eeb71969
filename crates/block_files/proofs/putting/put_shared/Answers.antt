use Rattle.std.proofs.Common.{◌*◌, List, ℕ, sym, ap, subst, length, arith, le_refl}
use Rattle.disk_model.specs.Place.{area, IsNoArea}
use Rattle.block_files.specs.BlockSets.{AreDistinct}
use Rattle.block_files.specs.Parts.{changed_blocks}
use Rattle.block_files.specs.Areas.{HoldsShared}
use Rattle.block_files.specs.Writes.{IsTaken, IsApartFromChanged}
use Rattle.block_files.specs.lemmas.Sharing.{holds_shared, taken_apart_changed}
use Rattle.block_files.specs.lemmas.Stretches.{tore_less}
use Rattle.block_files.proofs.putting.put_shared.Goals as goal

pub write_shared-requires : goal.write_shared-requires
write_shared-requires g c =
    let blocks = c.in_ok-blob.blob.blocks in
    let P : List ℕ → Type 0 = λ xs. AreDistinct xs in
    record {
      room = omega (arith, ap length c.as_slice.ensures, c.in_ok-blob.ensures.count);
      distinct = subst P (sym c.as_slice.ensures) c.in_ok-blob.ensures.distinct;
      shared = λ tells i lt. (
          let file = (g.D.Disk.medium c.args.disk.now).image (area c.args.place i) in
          let Q : List ℕ → Type 0 = λ xs. HoldsShared file xs c.args.bytes.now c.args.old_bytes.now in
          subst Q (sym c.as_slice.ensures)
          (holds_shared file blocks c.args.bytes.now c.args.old_blocks.now c.args.old_bytes.now c.args.used.now
          c.in_ok-blob.ensures.shared c.in_ok-blob.ensures.count c.requires.room (c.requires.whole tells i lt)));
    }

pub returns-in_err-write_shared-clause-failed : goal.returns-in_err-write_shared-clause-failed
returns-in_err-write_shared-clause-failed g c = λ failed.
    let blocks = c.in_ok-blob.blob.blocks in
    let none = IsNoArea c.args.place in
    let n = c.args.place.copies * (256 * changed_blocks c.args.bytes.now c.args.old_bytes.now) in
    let P : List ℕ → Type 0 = λ xs. (k : ℕ) → IsTaken c.args.used.now k
    → IsApartFromChanged xs c.args.bytes.now c.args.old_bytes.now k in
    tore_less g.D.Disk.told none (IsApartFromChanged c.as_slice.result.now c.args.bytes.now c.args.old_bytes.now) none
    (IsTaken c.args.used.now)
    (λ f is. is)
    (subst P (sym c.as_slice.ensures) (taken_apart_changed blocks c.args.bytes.now c.args.old_blocks.now
    c.args.old_bytes.now c.args.used.now c.in_ok-blob.ensures.shared))
    n n (le_refl n) (g.D.Disk.medium c.args.disk.now) (g.D.Disk.medium c.write_shared.new.disk)
    c.in_err-write_shared.ensures.failed

pub returns-in_err-write_shared-clause-reserved : goal.returns-in_err-write_shared-clause-reserved
returns-in_err-write_shared-clause-reserved g c = λ failed.
    (c.in_ok-blob.blob.blocks, c.in_ok-blob.ensures.count, c.in_ok-blob.ensures.shared, c.in_ok-blob.ensures.used)
