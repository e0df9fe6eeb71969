use Rattle.std.specs.List.{AllByRecursion}
use Rattle.deployment_model.specs.Data.{deployment_data}
use Rattle.update_plan.specs.Plans.{IsStoredOf}
use Rattle.text_tests.proofs.updates.installed.installed.Given as goal

-- what is stored so far is of the deployment
abbrev pub invariant-loop-storage : goal.invariant-loop-storage
invariant-loop-storage l = AllByRecursion (IsStoredOf (deployment_data l.old)) l.contents.items
