use Rattle.per_backup.proofs.Numbers.{exports, imports, restores}
use Rattle.per_backup.proofs.laws.refusals_are_numbered.Goals as goal

pub returns-clause-exports : goal.returns-clause-exports
returns-clause-exports c = exports

pub returns-clause-imports : goal.returns-clause-imports
returns-clause-imports c = imports

pub returns-clause-restores : goal.returns-clause-restores
returns-clause-restores c = restores
