use Rattle.std.specs.Prelude.{true}
use Rattle.disk_model.specs.Memory.{mem_medium}
use Rattle.deploy.specs.Building.{StagedAt}
use Rattle.deploy_tests.proofs.building.stepped.Given as goal

abbrev pub invariant-loop : goal.invariant-loop
invariant-loop l = StagedAt true (mem_medium l.disk).image l.app l.staged
