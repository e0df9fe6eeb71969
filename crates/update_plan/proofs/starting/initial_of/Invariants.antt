use Rattle.std.proofs.Common.{◌≡◌, ◌++◌, drop, map}
use Rattle.std.specs.Prelude.{filter_map}
use Rattle.deployment_model.specs.Data.{element_data, storage_data}
use Rattle.update_plan.specs.Rows.{start_of}
use Rattle.update_plan.proofs.starting.initial_of.Given as goal

-- what was made, and after it what the rest starts with
abbrev pub invariant-loop-element : goal.invariant-loop-element
invariant-loop-element l = l.contents.items ++ filter_map (start_of (storage_data l.config) l.cause l.now)
    (drop l.element-index (map element_data l.config.elements))
    ≡ filter_map (start_of (storage_data l.config) l.cause l.now) (map element_data l.config.elements)
