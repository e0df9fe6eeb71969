use Rattle.std.proofs.Common.{List, ℕ, length, ap, ◌∙◌, subst, arith}
use Rattle.guarded_cell.specs.Cells.{CellAt}
use Rattle.root_text.specs.RootText.{absent, root_text}
use Rattle.deploy_laws.specs.Places.{root_place}
use Rattle.deploy.proofs.AtRest.{unformatted}
use Rattle.deploy.proofs.RootLens.{formatted_cost, none_written, placed_cost, root_len_is}
use Rattle.deploy.proofs.Settled.{cell_at, formats_at, spares_at}
use Rattle.deploy.proofs.formatting.format_root.Goals as goal

pub returns-in_err-text-clause-any_moment : goal.returns-in_err-text-clause-any_moment
returns-in_err-text-clause-any_moment g c = λ tells quiet.
    unformatted c.stops_are_lawful.ensures.untouched (root_place c.args.app) 1
    (root_text absent)
    g.D.Disk.told (g.D.Disk.medium c.args.disk.now) (g.met.D.Disk.lawful c.args.disk.now) quiet

pub format_cell-requires : goal.format_cell-requires
format_cell-requires g c =
    let short = c.one_root.ensures.short absent tt in
    let written = ap length (c.deref.ensures.value ∙ c.in_ok-text.ensures.text) in
    omega (arith, short, written)

pub returns-in_err-cell-clause-elsewhere : goal.returns-in_err-cell-clause-elsewhere
returns-in_err-cell-clause-elsewhere g c = λ tells. spares_at c.root_place.result c.args.app c.root_place.ensures
    (g.D.Disk.medium c.args.disk.now).image (g.D.Disk.medium c.format_cell.new.disk).image
    (c.format_cell.ensures.formats.elsewhere tells)

pub returns-in_err-cell-clause-any_moment : goal.returns-in_err-cell-clause-any_moment
returns-in_err-cell-clause-any_moment g c = λ tells quiet.
    formats_at c.root_place.result c.args.app c.root_place.ensures
    c.deref.result.now (root_text absent) (g.D.Disk.medium c.args.disk.now) (g.D.Disk.medium c.format_cell.new.disk)
    (c.deref.ensures.value ∙ c.in_ok-text.ensures.text)
    (c.format_cell.ensures.formats.any_moment tells quiet)

pub returns-clause-cell : goal.returns-clause-cell
returns-clause-cell g c = cell_at c.root_place.result c.args.app c.root_place.ensures 1 c.in_ok-cell.cell
    c.in_ok-cell.ensures.cell

pub returns-clause-held : goal.returns-clause-held
returns-clause-held g c = λ tells. subst (λ (t : List ℕ).
    CellAt (g.D.Disk.medium c.format_cell.new.disk).image c.in_ok-cell.cell t)
    (c.deref.ensures.value ∙ c.in_ok-text.ensures.text) (c.in_ok-cell.ensures.held tells)

pub returns-clause-elsewhere : goal.returns-clause-elsewhere
returns-clause-elsewhere g c = λ tells. spares_at c.root_place.result c.args.app c.root_place.ensures
    (g.D.Disk.medium c.args.disk.now).image (g.D.Disk.medium c.format_cell.new.disk).image
    (c.format_cell.ensures.formats.elsewhere tells)

pub returns-clause-any_moment : goal.returns-clause-any_moment
returns-clause-any_moment g c = λ tells quiet. formats_at c.root_place.result c.args.app c.root_place.ensures
    c.deref.result.now (root_text absent) (g.D.Disk.medium c.args.disk.now) (g.D.Disk.medium c.format_cell.new.disk)
    (c.deref.ensures.value ∙ c.in_ok-text.ensures.text)
    (c.format_cell.ensures.formats.any_moment tells quiet)

pub returns-in_err-text-clause-written : goal.returns-in_err-text-clause-written
returns-in_err-text-clause-written g c = none_written _ _

pub returns-in_err-cell-clause-written : goal.returns-in_err-cell-clause-written
returns-in_err-cell-clause-written g c = formatted_cost _ _ (length c.deref.result.now)
    (placed_cost _ c.args.app _ _ _ c.root_place.ensures c.format_cell.ensures.formats.written)
    (ap length (c.deref.ensures.value ∙ c.in_ok-text.ensures.text) ∙ root_len_is absent)

pub returns-clause-written : goal.returns-clause-written
returns-clause-written g c = formatted_cost _ _ (length c.deref.result.now)
    (placed_cost _ c.args.app _ _ _ c.root_place.ensures c.format_cell.ensures.formats.written)
    (ap length (c.deref.ensures.value ∙ c.in_ok-text.ensures.text) ∙ root_len_is absent)
