use Rattle.std.proofs.Common.{◌*◌, [], length, get_or}
use Rattle.block_files.specs.BlockSets.{IsNotAmong}
use Rattle.block_files.specs.Parts.{changed_blocks}
use Rattle.block_files.specs.Areas.{area_of}
use Rattle.block_files.specs.Writes.{IsNoneOf, IsApartFromChanged}
use Rattle.block_files.specs.lemmas.Everywhere.{shared_none, apart_none, whole_le}
use Rattle.block_files.specs.lemmas.Stretches.{wrote_less, tore_less}
use Rattle.block_files.specs.lemmas.Outcomes.{on_err}
use Rattle.block_files.proofs.mending.mend.Goals as goal

pub write_copies-requires-clause-shared : goal.write_copies-requires-clause-shared
write_copies-requires-clause-shared g c = λ tells i lt.
    shared_none ((g.D.Disk.medium c.args.disk.now).image (area_of c.args.place (get_or c.args.copies.now i 0)))
    c.args.blocks.now c.args.bytes.now

pub returns-clause-done : goal.returns-clause-done
returns-clause-done g c =
    let none = IsNoneOf c.args.place c.args.copies.now in
    wrote_less g.D.Disk.told none (IsApartFromChanged c.args.blocks.now c.args.bytes.now []) none
    (IsNotAmong c.args.blocks.now)
    (λ f is. is) (apart_none c.args.blocks.now c.args.bytes.now [])
    (length c.args.copies.now * (256 * changed_blocks c.args.bytes.now []))
    (length c.args.copies.now * (256 * length c.args.blocks.now))
    (whole_le c.args.bytes.now (length c.args.copies.now) (length c.args.blocks.now) c.requires.room)
    (g.D.Disk.medium c.args.disk.now) (g.D.Disk.medium c.write_copies.new.disk)
    c.in_ok-write_copies.ensures.done

pub returns-in_err-write_copies-clause-failed : goal.returns-in_err-write_copies-clause-failed
returns-in_err-write_copies-clause-failed g c =
    let none = IsNoneOf c.args.place c.args.copies.now in
    on_err c.from_residual.result
    (tore_less g.D.Disk.told none (IsApartFromChanged c.args.blocks.now c.args.bytes.now []) none
    (IsNotAmong c.args.blocks.now)
    (λ f is. is) (apart_none c.args.blocks.now c.args.bytes.now [])
    (length c.args.copies.now * (256 * changed_blocks c.args.bytes.now []))
    (length c.args.copies.now * (256 * length c.args.blocks.now))
    (whole_le c.args.bytes.now (length c.args.copies.now) (length c.args.blocks.now) c.requires.room)
    (g.D.Disk.medium c.args.disk.now) (g.D.Disk.medium c.write_copies.new.disk)
    c.in_err-write_copies.ensures.failed)
