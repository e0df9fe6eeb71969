use Rattle.std.proofs.Common.{◌*◌, ◌≤◌, ap, arith, length, take}
use Rattle.std.proofs.lemmas.Result.{on_ok_weaker, on_err_weaker}
use Rattle.disk_model.specs.Place.{IsNoArea}
use Rattle.block_files.specs.Parts.{changed_blocks}
use Rattle.block_files.specs.Writes.{IsNoneOf, IsApartFromChanged}
use Rattle.block_files.specs.lemmas.Everywhere.{numbers, numbers_named, shared_named, all_full, none_named}
use Rattle.block_files.specs.lemmas.Everywhere.{length-numbers}
use Rattle.block_files.specs.lemmas.Stretches.{wrote_less, tore_less}
use Rattle.block_files.proofs.writing.write_shared.Goals as goal

pub write_copies-requires-clause-copies : goal.write_copies-requires-clause-copies
write_copies-requires-clause-copies g c = numbers_named c.args.place

pub write_copies-requires-clause-shared : goal.write_copies-requires-clause-shared
write_copies-requires-clause-shared g c = λ tells.
    shared_named c.args.place c.args.blocks.now c.args.bytes.now
    c.args.was.now
    (g.D.Disk.medium c.args.disk.now).image (c.requires.shared tells)

pub returns-clause-whole : goal.returns-clause-whole
returns-clause-whole g c = λ tells.
    on_ok_weaker c.write_copies.result
    (all_full c.args.place c.args.blocks.now c.args.bytes.now
    (g.D.Disk.medium c.write_copies.new.disk).image)
    (c.write_copies.ensures.whole tells)

pub returns-clause-done : goal.returns-clause-done
returns-clause-done g c =
    let place = c.args.place in
    let apart = IsApartFromChanged c.args.blocks.now c.args.bytes.now c.args.was.now in
    let n = 256 * changed_blocks c.args.bytes.now c.args.was.now in
    let le : length (take place.copies numbers) * n ≤ place.copies * n =
    omega (arith, ap (λ k. k * n) (length-numbers place)) in
    on_ok_weaker c.write_copies.result
    (wrote_less g.D.Disk.told (IsNoneOf place (take place.copies numbers)) apart
    (IsNoArea place) apart
    (none_named place) (λ k is. is) (length (take place.copies numbers) * n)
    (place.copies * n) le
    (g.D.Disk.medium c.args.disk.now) (g.D.Disk.medium c.write_copies.new.disk))
    c.write_copies.ensures.done

pub returns-clause-failed : goal.returns-clause-failed
returns-clause-failed g c =
    let place = c.args.place in
    let apart = IsApartFromChanged c.args.blocks.now c.args.bytes.now c.args.was.now in
    let n = 256 * changed_blocks c.args.bytes.now c.args.was.now in
    let le : length (take place.copies numbers) * n ≤ place.copies * n =
    omega (arith, ap (λ k. k * n) (length-numbers place)) in
    on_err_weaker c.write_copies.result
    (tore_less g.D.Disk.told (IsNoneOf place (take place.copies numbers)) apart
    (IsNoArea place) apart
    (none_named place) (λ k is. is) (length (take place.copies numbers) * n)
    (place.copies * n) le
    (g.D.Disk.medium c.args.disk.now) (g.D.Disk.medium c.write_copies.new.disk))
    c.write_copies.ensures.failed
