use Rattle.std.proofs.Common.{[], option_map, ap, sym, ◌∙◌}
use Rattle.per_base.specs.declared.errors.PerError.TheVariants as error
use Rattle.per_base.specs.declared.errors.Unit.TheVariants as unit
use Rattle.deploy_rows.specs.Rows.{rolling_back}
use Rattle.deploy.specs.declared.roots.Root.{Root}
use Rattle.deploy.specs.declared.roots.Root.TheVariants.{Bad, Absent}
use Rattle.deploy.specs.Roots.{root_app}
use Rattle.deploy.proofs.LoneRows.{is_refused, rollback_absent, rollback_bad}
use Rattle.deploy.proofs.roots.Root.with_previous.Goals as goal

pub returns-in-Bad-clause-refused : goal.returns-in-Bad-clause-refused
returns-in-Bad-clause-refused c = is_refused (rolling_back (option_map (λ n. n.now) c.args.busy)) c.args.self Bad
    c.refuses.result (error.IntegrityCorrupted unit.Root) c.in-Bad.is c.refuses.ensures
    (rollback_bad (option_map (λ n. n.now) c.args.busy))

pub returns-in-Absent-clause-refused : goal.returns-in-Absent-clause-refused
returns-in-Absent-clause-refused c = is_refused (rolling_back (option_map (λ n. n.now) c.args.busy)) c.args.self
    (Absent c.in-Absent.cell) c.refuses-in-Absent.result error.NotInstalled c.in-Absent.is c.refuses-in-Absent.ensures
    (rollback_absent (option_map (λ n. n.now) c.args.busy) c.in-Absent.cell)

pub returns-in-Installed-clause-due : goal.returns-in-Installed-clause-due
returns-in-Installed-clause-due c = λ e refusal either. c.with_previous.ensures.due e
    (ap (λ (r : Root). rolling_back (option_map (λ n. n.now) c.args.busy) (root_app r [])) (sym c.in-Installed.is)
    ∙ refusal) either
