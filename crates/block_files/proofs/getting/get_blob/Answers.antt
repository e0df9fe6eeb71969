use Rattle.std.proofs.Common.{◌*◌, ◌∙◌, ℕ, List, min, length, sym, ap, subst}
use Rattle.block_files.specs.BlockSets.{Ascend}
use Rattle.block_files.specs.Contents.{first_content, unvoted, AreCopies}
use Rattle.block_files.proofs.Counting.{lacking_is, lacking_copies, lacking_ascend, voted_size}
use Rattle.block_files.proofs.First.{unvoted_size}
use Rattle.block_files.proofs.getting.get_blob.Goals as goal

pub returns-clause-lacking : goal.returns-clause-lacking
returns-clause-lacking g c = λ tells.
    c.in_ok-blob.ensures.lacking
    ∙ lacking_is c.in_ok-blob.blob.value c.args.place c.args.blocks.now c.args.len
    c.args.hash.now
    (g.D.Disk.medium c.args.disk.now).image c.in_ok-looked.looked.texts
    c.in_ok-looked.looked.inside.items
    (c.in_ok-looked.ensures.texts tells) (c.in_ok-looked.ensures.inside tells)

pub returns-clause-salvage : goal.returns-clause-salvage
returns-clause-salvage g c = λ tells.
    c.in_ok-blob.ensures.salvage
    ∙ ap (λ given. unvoted c.in_ok-blob.blob.value (first_content given)) (c.in_ok-looked.ensures.texts tells)

pub returns-clause-size : goal.returns-clause-size
returns-clause-size g c =
    voted_size (min c.args.len (256 * length c.args.blocks.now)) c.args.m c.in_ok-looked.looked.texts
    c.in_ok-blob.blob.value
    c.requires c.in_ok-blob.ensures.value c.in_ok-looked.ensures.size

pub returns-clause-salvage_size : goal.returns-clause-salvage_size
returns-clause-salvage_size g c =
    unvoted_size (min c.args.len (256 * length c.args.blocks.now)) c.in_ok-looked.looked.texts
    c.in_ok-blob.blob.value c.in_ok-blob.blob.salvage
    c.in_ok-blob.ensures.salvage c.in_ok-looked.ensures.size

pub returns-clause-copies : goal.returns-clause-copies
returns-clause-copies g c =
    let given = c.in_ok-looked.looked.texts in
    let long = c.in_ok-looked.ensures.copies.0 in
    let P : List ℕ → Type 0 = λ xs. AreCopies c.args.place.copies xs in
    subst P (sym c.in_ok-blob.ensures.lacking)
    (lacking_copies c.in_ok-blob.blob.value given c.in_ok-looked.looked.inside.items c.args.place.copies long)

pub returns-clause-ascending : goal.returns-clause-ascending
returns-clause-ascending g c =
    let given = c.in_ok-looked.looked.texts in
    let long = c.in_ok-looked.ensures.copies.0 in
    let P : List ℕ → Type 0 = λ xs. Ascend xs in
    subst P (sym c.in_ok-blob.ensures.lacking)
    (lacking_ascend c.in_ok-blob.blob.value given c.in_ok-looked.looked.inside.items c.args.place.copies long)
