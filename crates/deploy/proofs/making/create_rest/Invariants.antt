use Rattle.std.proofs.Common.{◌≡◌, ◌+◌, ◌≤◌, drop}
use Rattle.std.specs.Prelude.{map}
use Rattle.deployment_model.specs.Data.{storage_data}
use Rattle.deploy_laws.specs.Places.{shapes_from}
use Rattle.deploy.specs.Clauses.{Leaves}
use Rattle.deploy_rows.specs.Costs.{making_costs}
use Rattle.deploy.specs.Making.{IsInNone}
use Rattle.deploy.proofs.MadeStorages.{IsMaking}
use Rattle.deploy.proofs.making.create_rest.Given as goal

-- that many are made, at their cost, and before the first of them nothing is done
abbrev pub invariant-loop-number : goal.invariant-loop-number
invariant-loop-number g l = record {
  unmoved : l.number ≤ l.built → l.disk ≡ l.fn.disk;
  making : IsMaking g.D.Disk.told l.app l.bank l.built l.number l.deployment.storages l.contents
      (g.D.Disk.medium l.fn.disk) (g.D.Disk.medium l.disk);
  places : Leaves g.D.Disk.told (IsInNone (drop l.built (shapes_from l.app l.bank 0 (map storage_data
      l.deployment.storages)))) (g.D.Disk.medium l.fn.disk) (g.D.Disk.medium l.disk);
  written : (g.D.Disk.medium l.disk).written
      + making_costs (drop l.number (map storage_data l.deployment.storages)) (drop l.number l.contents)
      ≤ (g.D.Disk.medium l.fn.disk).written
      + making_costs (drop l.built (map storage_data l.deployment.storages)) (drop l.built l.contents);
}
