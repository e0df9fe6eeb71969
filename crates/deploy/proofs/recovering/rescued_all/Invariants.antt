use Rattle.std.proofs.Common.{◌≡◌, ◌++◌, drop}
use Rattle.std.specs.Prelude.{filter_map}
use Rattle.deployment_model.specs.Data.{storage_data}
use Rattle.deploy.specs.Recovered.{rescued_entry}
use Rattle.deploy.proofs.recovering.rescued_all.Given as goal

-- what was rescued, and after it what can be of the rest
abbrev pub invariant-loop-entry : goal.invariant-loop-entry
invariant-loop-entry l = l.contents.items ++ filter_map (rescued_entry (storage_data l.config) l.now)
    (drop l.entry-index l.entries)
    ≡ filter_map (rescued_entry (storage_data l.config) l.now) l.entries
