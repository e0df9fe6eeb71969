use Rattle.std.proofs.Common.{◌*◌, [], length}
use Rattle.std.proofs.lemmas.Result.{on_ok_weaker, on_err_weaker}
use Rattle.disk_model.specs.Place.{area, IsNoArea}
use Rattle.block_files.specs.BlockSets.{IsNotAmong}
use Rattle.block_files.specs.Parts.{changed_blocks}
use Rattle.block_files.specs.Writes.{IsApartFromChanged}
use Rattle.block_files.specs.lemmas.Everywhere.{shared_none, apart_none, whole_le}
use Rattle.block_files.specs.lemmas.Stretches.{wrote_less, tore_less}
use Rattle.block_files.proofs.writing.write_blob.Goals as goal

pub write_shared-requires-clause-shared : goal.write_shared-requires-clause-shared
write_shared-requires-clause-shared g c = λ tells i lt.
    shared_none ((g.D.Disk.medium c.args.disk.now).image (area c.args.place i)) c.args.blocks.now c.args.bytes.now

pub returns-clause-done : goal.returns-clause-done
returns-clause-done g c =
    let none = IsNoArea c.args.place in
    on_ok_weaker c.write_shared.result
    (wrote_less g.D.Disk.told none (IsApartFromChanged c.args.blocks.now c.args.bytes.now []) none
    (IsNotAmong c.args.blocks.now)
    (λ f is. is) (apart_none c.args.blocks.now c.args.bytes.now [])
    (c.args.place.copies * (256 * changed_blocks c.args.bytes.now []))
    (c.args.place.copies * (256 * length c.args.blocks.now))
    (whole_le c.args.bytes.now c.args.place.copies (length c.args.blocks.now) c.requires.room)
    (g.D.Disk.medium c.args.disk.now) (g.D.Disk.medium c.write_shared.new.disk))
    c.write_shared.ensures.done

pub returns-clause-failed : goal.returns-clause-failed
returns-clause-failed g c =
    let none = IsNoArea c.args.place in
    on_err_weaker c.write_shared.result
    (tore_less g.D.Disk.told none (IsApartFromChanged c.args.blocks.now c.args.bytes.now []) none
    (IsNotAmong c.args.blocks.now)
    (λ f is. is) (apart_none c.args.blocks.now c.args.bytes.now [])
    (c.args.place.copies * (256 * changed_blocks c.args.bytes.now []))
    (c.args.place.copies * (256 * length c.args.blocks.now))
    (whole_le c.args.bytes.now c.args.place.copies (length c.args.blocks.now) c.requires.room)
    (g.D.Disk.medium c.args.disk.now) (g.D.Disk.medium c.write_shared.new.disk))
    c.write_shared.ensures.failed
