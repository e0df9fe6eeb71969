use Rattle.std.proofs.Common.{◌+◌, length, map}
use Rattle.deployment_model.specs.Data.{element_data, storage_data}
use Rattle.migrate_fns.specs.Stored.{answers_of, rules_of}
use Rattle.update_plan.specs.Merging.{merged}
use Rattle.update_plan.proofs.Updating.{Renewing}
use Rattle.update_plan.proofs.renewing.Update.updated.Given as goal

-- what was made, and after it what the rest becomes
abbrev pub invariant-loop-first : goal.invariant-loop-first
invariant-loop-first g l = Renewing (rules_of l.self.migrations.now) (answers_of l.self.migrations.now) l.self.moment
    (storage_data l.self.storage.now)
    (merged l.fn.stored (map element_data l.self.storage.now.elements)) (merged l.entries (map element_data l.elements))
    l.contents.items

abbrev pub decreases-loop-first : goal.decreases-loop-first
decreases-loop-first g l = length l.entries + length l.elements
