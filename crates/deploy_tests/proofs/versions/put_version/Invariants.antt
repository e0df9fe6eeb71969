use Rattle.std.specs.Prelude.{◌≡◌}
use Rattle.disk_model.specs.Memory.{mem_medium}
use Rattle.deploy_tests.proofs.versions.put_version.Given as goal

abbrev pub invariant-loop-config : goal.invariant-loop-config
invariant-loop-config l = record {
  number : l.number ≡ l.config-index;
  image : (mem_medium l.disk).image ≡ (mem_medium l.fn.disk).image;
}
