use Rattle.std.proofs.Common.{drop, map}
use Rattle.deployment_model.specs.Data.{deployment_data, storage_data}
use Rattle.migrate_fns.specs.Stored.{answers_of, rules_of}
use Rattle.update_plan.specs.Plans.{stored_for}
use Rattle.update_plan.proofs.AllPlans.{Planning}
use Rattle.update_plan.proofs.planning.plan.Given as goal

-- what was planned, and after it the plans of the rest
abbrev pub invariant-loop-storage : goal.invariant-loop-storage
invariant-loop-storage g l = Planning (rules_of l.migrations) (answers_of l.migrations) l.now
    (stored_for (deployment_data l.old) l.contents)
    (map storage_data l.new.storages) (drop l.storage-index (map storage_data l.new.storages)) l.plans.items
