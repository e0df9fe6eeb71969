use Rattle.std.proofs.Common.{◌+◌, ℕ, List, length, ap, subst, ◌∙◌, arith}
use Rattle.std.specs.Prelude.{option_map}
use Rattle.disk_model.specs.Medium.{EachCase}
use Rattle.guarded_cell.specs.Cells.{CellAt}
use Rattle.guarded_cell.specs.Stops.{PutStops}
use Rattle.root_text.specs.RootText.{installed, root_text}
use Rattle.root_text.specs.Views.{version_said}
use Rattle.deploy.proofs.AtRest.{unwritten}
use Rattle.deploy.proofs.RootLens.{installed_len, none_written, text_cost}
use Rattle.deploy.proofs.WrittenVersions.{versions_are_root}
use Rattle.deploy.proofs.writing.write_version.Goals as goal

pub write-requires-clause-short : goal.write-requires-clause-short
write-requires-clause-short g c =
    let root = installed c.args.bank (version_said c.args.active.now)
    (option_map (λ v. version_said v.now) c.args.previous) in
    let short = c.one_root.ensures.short root (versions_are_root c.args.bank c.args.active.now c.args.previous
    c.requires.bank c.requires.active c.requires.previous) in
    let a = ap length c.deref.ensures.value in
    let b = ap length c.in_ok-text.ensures.text in
    omega (arith, short, a, b)

pub returns-in_err-text-clause-any_moment : goal.returns-in_err-text-clause-any_moment
returns-in_err-text-clause-any_moment g c = λ tells quiet.
    unwritten c.stops_are_lawful.ensures.untouched c.args.cell.place
    (c.args.cell.generation + 1)
    (root_text (installed c.args.bank (version_said c.args.active.now)
    (option_map (λ v. version_said v.now) c.args.previous)))
    g.D.Disk.told (g.D.Disk.medium c.args.disk.now) (g.met.D.Disk.lawful c.args.disk.now) quiet

pub returns-in_err-next-clause-any_moment : goal.returns-in_err-next-clause-any_moment
returns-in_err-next-clause-any_moment g c = λ tells quiet.
    let old = g.D.Disk.medium c.args.disk.now in
    subst (λ (t : List ℕ). EachCase (PutStops c.args.cell.place
    (c.args.cell.generation + 1) t old.image) old (g.D.Disk.medium c.write.new.disk))
    (c.deref.ensures.value ∙ c.in_ok-text.ensures.text) (c.in_err-next.ensures.puts.any_moment tells quiet)

pub returns-clause-any_moment : goal.returns-clause-any_moment
returns-clause-any_moment g c = λ tells quiet.
    let old = g.D.Disk.medium c.args.disk.now in
    subst (λ (t : List ℕ). EachCase (PutStops c.args.cell.place
    (c.args.cell.generation + 1) t old.image) old (g.D.Disk.medium c.write.new.disk))
    (c.deref.ensures.value ∙ c.in_ok-text.ensures.text) (c.in_ok-next.ensures.puts.any_moment tells quiet)

pub returns-clause-held : goal.returns-clause-held
returns-clause-held g c = λ tells.
    subst (λ (t : List ℕ). CellAt (g.D.Disk.medium c.write.new.disk).image c.in_ok-next.next t)
    (c.deref.ensures.value ∙ c.in_ok-text.ensures.text) (c.in_ok-next.ensures.held tells)

pub returns-in_err-next-clause-written : goal.returns-in_err-next-clause-written
returns-in_err-next-clause-written g c = text_cost _ _ _ (length c.deref.result.now) _
    c.in_err-next.ensures.puts.written (ap length (c.deref.ensures.value ∙ c.in_ok-text.ensures.text)
    ∙ installed_len c.args.bank c.args.active.now c.args.previous)

pub returns-clause-written : goal.returns-clause-written
returns-clause-written g c = text_cost _ _ _ (length c.deref.result.now) _
    c.in_ok-next.ensures.puts.written (ap length (c.deref.ensures.value ∙ c.in_ok-text.ensures.text)
    ∙ installed_len c.args.bank c.args.active.now c.args.previous)

pub returns-in_err-text-clause-written : goal.returns-in_err-text-clause-written
returns-in_err-text-clause-written g c = none_written _ _
