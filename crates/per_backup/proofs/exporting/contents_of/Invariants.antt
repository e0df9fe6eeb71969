use Rattle.std.proofs.Common.{◌≡◌, drop}
use Rattle.deployment_model.specs.Data.{storage_data}
use Rattle.per_backup.specs.Backups.{exported_contents}
use Rattle.per_backup.proofs.ExportRows.{followed_by}
use Rattle.per_backup.proofs.exporting.contents_of.Given as goal

-- the contents so far, and after them those of the rest
abbrev pub invariant-loop-entry : goal.invariant-loop-entry
invariant-loop-entry l = followed_by l.contents.items (exported_contents (storage_data l.config)
    (drop l.entry-index l.entries)) ≡ exported_contents (storage_data l.config) l.entries
