use Rattle.std.specs.Prelude.{true}
use Rattle.disk_model.specs.Memory.{mem_medium}
use Rattle.deploy_tests.proofs.Staging.{of_its_own}
use Rattle.deploy_tests.proofs.building.stepped.Goals as goal

pub next_storage-requires : goal.next_storage-requires
next_storage-requires c = record {
  staged = of_its_own true (mem_medium c.loop.disk).image c.args.app c.loop.staged
      c.loop.invariant;
}
