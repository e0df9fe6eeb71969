-- A version that is installed with contents that are given in place of the initial ones.
use Rattle.std.specs.Prelude.{ℕ, ◌+◌, List, [], None}
use Rattle.per_base.specs.declared.elements.Fresh.{Fresh}
use Rattle.deployment_model.specs.Data.{DeploymentData}
use Rattle.deploy_laws.specs.Apps.{App, installed}
use Rattle.deploy_rows.specs.Rows.{made_states}

-- bank 0, with these contents of each storage
unfoldable pub filled_app : (generation : ℕ) → DeploymentData → List (List Fresh) → App
filled_app g d contents = record {
  says = installed (g + 1) (record { bank = 0; deployment = d }) None;
  lacking = [];
  states = made_states contents;
}
