-- The version that a manifest describes.
use Rattle.std.specs.Prelude.{◌≡◌, Result, Ok, Err}
use Rattle.per_base.specs.declared.errors.PerError.{PerError}
use Rattle.deployment_model.specs.Data.{DeploymentData, deployment_data}
use Rattle.root_text.specs.declared.versions.VersionText.{VersionText}

-- a version was read, or refused, as the row has it
abbrev pub TellsRow : Result DeploymentData PerError → Result VersionText PerError → Type 0
TellsRow row (Ok v) = row ≡ Ok (deployment_data v.deployment)
TellsRow row (Err e) = row ≡ Err e
