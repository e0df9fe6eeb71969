use Rattle.std.proofs.Common.{◌≡◌, drop}
use Rattle.deployment_model.specs.Data.{storage_data}
use Rattle.per_backup.specs.Backups.{least_mismatch}
use Rattle.per_backup.proofs.typing.least_mismatch.Given as goal

-- no element so far has another type
abbrev pub invariant-loop-fresh : goal.invariant-loop-fresh
invariant-loop-fresh l = least_mismatch (storage_data l.config) (drop l.fresh-index l.contents)
    ≡ least_mismatch (storage_data l.config) l.contents
