use Rattle.std.proofs.Common.{◌≡◌, ◌+◌, ◌*◌, ℕ, List, ap, ◌∙◌, arith}
use Rattle.std.specs.Prelude.{is_some}
use Rattle.disk_model.specs.Place.{area}
use Rattle.block_files.specs.Contents.{counting}
use Rattle.element_state.proofs.Contents.{one_voted}
use Rattle.element_state.proofs.supporting.read_counted.Goals as goal

pub returns-clause-counts : goal.returns-clause-counts
returns-clause-counts g c = λ tells.
    let e = c.args.entry.now in
    let image = (g.D.Disk.medium c.args.disk.now).image in
    let blocks = c.as_slice.result.now in
    let file = c.args.place.first + 4 * c.args.copy + 4 * 0 + 2 in
    let same : file ≡ area c.args.place c.args.copy = omega arith in
    c.is_some.ensures ∙ ap is_some (c.in_ok-blob.ensures.value tells)
    ∙ one_voted (counting (image file) blocks e.len e.hash)
    ∙ ap (λ (f : ℕ). is_some (counting (image f) blocks e.len e.hash)) same
    ∙ ap (λ (bs : List ℕ). is_some (counting (image (area c.args.place c.args.copy)) bs e.len e.hash))
    c.as_slice.ensures
