use Rattle.std.proofs.Common.{◌∙◌, ℕ, ◌+◌, List, Bool, not, ap, sym, subst}
use Rattle.disk_model.specs.Orders.{named_in}
use Rattle.guarded_cell.specs.Register.{own, other}
use Rattle.guarded_cell.specs.Slots.{Picks}
use Rattle.guarded_cell.specs.declared.slots.Pick.TheVariants.{Lacking, Verifying}
use Rattle.guarded_cell.proofs.Changing.{brings_none}
use Rattle.guarded_cell.proofs.Marked.{seen_lacking, stale_slots}
use Rattle.guarded_cell.proofs.adopting.adopt_seen.Goals as goal

pub returns-in_err-sealed_text-clause-brings : goal.returns-in_err-sealed_text-clause-brings
returns-in_err-sealed_text-clause-brings g c = brings_none (g.met.D.Disk.lawful c.args.disk.now)

pub replace-requires-clause-lacking : goal.replace-requires-clause-lacking
replace-requires-clause-lacking g c = λ tells.
    let image = (g.D.Disk.medium c.args.disk.now).image in
    let generation = c.args.seen.now.generation in
    subst (λ (text : List ℕ). Picks Lacking c.all_but-lacking.result image c.args.place
    (own generation) generation text) (sym c.as_slice-text.ensures)
    (seen_lacking image c.args.place c.args.seen.now c.all_but-lacking.result
    (c.requires.seen tells)
    (λ copy lt. c.all_but-lacking.ensures copy lt
    ∙ ap (λ (numbers : List ℕ). not (named_in numbers (copy + 1))) c.as_slice.ensures))

pub replace-requires-clause-stale : goal.replace-requires-clause-stale
replace-requires-clause-stale g c = λ tells.
    let image = (g.D.Disk.medium c.args.disk.now).image in
    let generation = c.args.seen.now.generation in
    subst (λ (flags : List Bool). Picks Verifying flags image c.args.place
    (other generation) generation c.as_slice-text.result.now) (sym c.others-stale.ensures)
    (stale_slots image c.args.place generation c.as_slice-text.result.now c.args.slots
    (c.requires.slots tells))
