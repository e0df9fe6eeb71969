use Rattle.std.specs.Prelude.{true}
use Rattle.disk_model.specs.Memory.{mem_medium}
use Rattle.deploy.specs.Roots.{RootAt}
use Rattle.deploy_tests.proofs.calls.calls.Given as goal

abbrev pub invariant-loop-call : goal.invariant-loop-call
invariant-loop-call g l = RootAt true (mem_medium l.disk).image l.app l.root
