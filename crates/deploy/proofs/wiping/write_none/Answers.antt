use Rattle.std.proofs.Common.{◌+◌, ◌∙◌, ℕ, List, length, ap, subst, arith}
use Rattle.disk_model.specs.Medium.{EachCase}
use Rattle.guarded_cell.specs.Cells.{CellAt, generation_of, place_of}
use Rattle.guarded_cell.specs.Stops.{PutStops}
use Rattle.root_text.specs.RootText.{absent, root_text}
use Rattle.deploy.proofs.AtRest.{unwritten}
use Rattle.deploy.proofs.RootLens.{none_written, root_len_is, text_cost}
use Rattle.deploy.proofs.wiping.write_none.Goals as goal

pub write-requires-clause-short : goal.write-requires-clause-short
write-requires-clause-short g c =
    let short = c.one_root.ensures.short absent tt in
    let e = ap length (c.deref.ensures.value ∙ c.in_ok-text.ensures.text) in
    omega (arith, short, e)

pub returns-clause-held : goal.returns-clause-held
returns-clause-held g c = λ tells. subst (λ (t : List ℕ).
    CellAt (g.D.Disk.medium c.write.new.disk).image c.in_ok-next.next t)
    (c.deref.ensures.value ∙ c.in_ok-text.ensures.text) (c.in_ok-next.ensures.held tells)

pub returns-clause-any_moment : goal.returns-clause-any_moment
returns-clause-any_moment g c = λ tells quiet.
    let old = g.D.Disk.medium c.args.disk.now in
    let new = g.D.Disk.medium c.write.new.disk in
    subst (λ (t : List ℕ). EachCase (PutStops (place_of c.args.cell)
    (generation_of c.args.cell + 1) t old.image) old new)
    (c.deref.ensures.value ∙ c.in_ok-text.ensures.text) (c.in_ok-next.ensures.puts.any_moment tells quiet)

pub returns-in_err-next-clause-any_moment : goal.returns-in_err-next-clause-any_moment
returns-in_err-next-clause-any_moment g c = λ tells quiet.
    let old = g.D.Disk.medium c.args.disk.now in
    let new = g.D.Disk.medium c.write.new.disk in
    subst (λ (t : List ℕ). EachCase (PutStops (place_of c.args.cell)
    (generation_of c.args.cell + 1) t old.image) old new)
    (c.deref.ensures.value ∙ c.in_ok-text.ensures.text) (c.in_err-next.ensures.puts.any_moment tells quiet)

pub returns-in_err-text-clause-any_moment : goal.returns-in_err-text-clause-any_moment
returns-in_err-text-clause-any_moment g c = λ tells quiet.
    unwritten c.stops_are_lawful.ensures.untouched (place_of c.args.cell)
    (generation_of c.args.cell + 1) (root_text absent)
    g.D.Disk.told (g.D.Disk.medium c.args.disk.now) (g.met.D.Disk.lawful c.args.disk.now) quiet

pub returns-clause-written : goal.returns-clause-written
returns-clause-written g c = text_cost _ _ _ (length c.deref.result.now) 2 c.in_ok-next.ensures.puts.written
    (ap length (c.deref.ensures.value ∙ c.in_ok-text.ensures.text) ∙ root_len_is absent)

pub returns-in_err-next-clause-written : goal.returns-in_err-next-clause-written
returns-in_err-next-clause-written g c = text_cost _ _ _ (length c.deref.result.now) 2
    c.in_err-next.ensures.puts.written
    (ap length (c.deref.ensures.value ∙ c.in_ok-text.ensures.text) ∙ root_len_is absent)

pub returns-in_err-text-clause-written : goal.returns-in_err-text-clause-written
returns-in_err-text-clause-written g c = none_written _ _
