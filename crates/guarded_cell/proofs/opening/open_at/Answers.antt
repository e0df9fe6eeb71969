use Rattle.std.proofs.Common.{◌∙◌, ℕ, ◌+◌, List, not, ap}
use Rattle.disk_model.specs.Orders.{named_in}
use Rattle.guarded_cell.proofs.Changing.{brings_none}
use Rattle.guarded_cell.proofs.Marked.{seen_lacking}
use Rattle.guarded_cell.proofs.Seeing.{lacking_is}
use Rattle.guarded_cell.proofs.opening.open_at.Goals as goal

pub returns-in_err-lacking-clause-brings : goal.returns-in_err-lacking-clause-brings
returns-in_err-lacking-clause-brings g c = brings_none (g.met.D.Disk.lawful c.args.disk.now)

pub returns-clause-lacking : goal.returns-clause-lacking
returns-clause-lacking g c = λ tells.
    let image = (g.D.Disk.medium c.args.disk.now).image in
    lacking_is image c.args.place c.args.seen.generation c.args.seen.text
    c.all_but-chosen.result c.in_ok-lacking.lacking
    (seen_lacking image c.args.place c.args.seen c.all_but-chosen.result
    (c.requires.seen tells)
    (λ copy lt. c.all_but-chosen.ensures copy lt
    ∙ ap (λ (numbers : List ℕ). not (named_in numbers (copy + 1))) c.as_slice.ensures))
    c.in_ok-lacking.ensures
