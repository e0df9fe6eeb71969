-- How many bytes the calls on roots write.
use Rattle.std.specs.Prelude.{◌≤◌, ℕ, ◌+◌, List}
use Rattle.disk_model.specs.Medium.{Medium}
use Rattle.deploy_rows.specs.Costs.{root_cost}

-- no more is written than this root costs: it is written once, where it is written
abbrev pub WritesRoot : List (List ℕ) → (old new : Medium) → Type 0
WritesRoot manifests old new = new.written ≤ old.written + root_cost manifests
