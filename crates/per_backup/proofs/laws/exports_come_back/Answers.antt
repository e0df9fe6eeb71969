use Rattle.per_backup.proofs.ImportRows.{again, exported, imports, restored}
use Rattle.per_backup.proofs.laws.exports_come_back.Goals as goal

pub returns-clause-imports : goal.returns-clause-imports
returns-clause-imports c = imports

pub returns-clause-exported : goal.returns-clause-exported
returns-clause-exported c = exported c.export_is_exact.ensures.again

pub returns-clause-again : goal.returns-clause-again
returns-clause-again c = again c.export_is_exact.ensures.taken

pub returns-clause-restored : goal.returns-clause-restored
returns-clause-restored c = restored c.export_is_exact.ensures.taken c.names_are_apart.ensures
    c.said_is_kept.ensures.keeps
