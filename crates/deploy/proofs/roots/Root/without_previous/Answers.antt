use Rattle.per_base.specs.declared.errors.PerError.TheVariants as error
use Rattle.per_base.specs.declared.errors.Unit.TheVariants as unit
use Rattle.deploy_rows.specs.Rows.{finishing}
use Rattle.deploy.specs.declared.roots.Root.TheVariants.{Bad, Absent}
use Rattle.deploy.proofs.LoneRows.{finish_absent, finish_bad, is_refused}
use Rattle.deploy.proofs.roots.Root.without_previous.Goals as goal

pub returns-in-Bad-clause-refused : goal.returns-in-Bad-clause-refused
returns-in-Bad-clause-refused c = is_refused finishing c.args.self Bad c.refuses.result
    (error.IntegrityCorrupted unit.Root) c.in-Bad.is c.refuses.ensures finish_bad

pub returns-in-Absent-clause-refused : goal.returns-in-Absent-clause-refused
returns-in-Absent-clause-refused c = is_refused finishing c.args.self (Absent c.in-Absent.cell)
    c.refuses-in-Absent.result error.NotInstalled c.in-Absent.is c.refuses-in-Absent.ensures
    (finish_absent c.in-Absent.cell)
