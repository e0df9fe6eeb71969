use Rattle.std.specs.Prelude.{true}
use Rattle.disk_model.specs.Memory.{mem_medium}
use Rattle.element_store.specs.Stores.{IsUsed}
use Rattle.deploy_tests.proofs.storages.set.Given as goal

abbrev pub invariant-loop-pair : goal.invariant-loop-pair
invariant-loop-pair l = IsUsed true (mem_medium l.disk).image l.kvs.store
