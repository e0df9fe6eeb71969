-- What the text of a manifest says, as the rows have it.
use Rattle.std.proofs.Common.{◌≡◌, ◌≢◌, ℕ, List, Option, None, Some, ap, ◌∙◌}
use Rattle.std.specs.Prelude.{Ok, Err}
use Rattle.per_base.specs.declared.errors.PerError.TheVariants.{ManifestRejected}
use Rattle.deployment_model.specs.Conditions.{IsDeployment}
use Rattle.deployment_model.specs.Data.{DeploymentData, deployment_data}
use Rattle.manifest.specs.declared.errors.ManifestError.{ManifestError}
use Rattle.manifest.specs.declared.errors.ManifestError.TheVariants.{OutOfMemory, Rejected}
use Rattle.manifest.specs.Reading.{RefusesManifest, broken_rule, deployment_in}
use Rattle.root_text.specs.declared.versions.VersionText.{VersionText}
use Rattle.deploy_rows.specs.Rows.{deployment_of, said_or_broken}
use Rattle.deploy.specs.Roots.{SaysDeployment}

pub told_read : (text : List ℕ) (d : DeploymentData) → deployment_in text ≡ Some d → deployment_of text ≡ Ok d
unfolding deployment_of
told_read text d says = ap (λ (o : Option DeploymentData). said_or_broken o (broken_rule text)) says

pub told_rejected : (text : List ℕ) (rule : ℕ) → deployment_in text ≡ None → broken_rule text ≡ Some rule
    → deployment_of text ≡ Err (ManifestRejected rule)
unfolding deployment_of
told_rejected text rule none broken =
    ap (λ (o : Option DeploymentData). said_or_broken o (broken_rule text)) none
    ∙ ap (λ (r : Option ℕ). said_or_broken None r) broken

-- by the error of the reader, which is no OutOfMemory
pub told_refused : (text : List ℕ) (error : ManifestError) (rule : ℕ) → error ≡ Rejected rule
    → RefusesManifest (broken_rule text) error
    → (error ≢ OutOfMemory → deployment_in text ≡ None) → deployment_of text ≡ Err (ManifestRejected rule)
told_refused text (Rejected r) rule is broken unsaid =
    let same : r ≡ rule = cc in
    told_rejected text rule (unsaid (λ no. cc)) (broken ∙ ap Some same)
told_refused text OutOfMemory rule is broken unsaid = absurd cc

-- what was read is kept with its text
pub kept_with : (text : List ℕ) (v : VersionText) → v.text ≡ text
    → deployment_in text ≡ Some (deployment_data v.deployment) → IsDeployment (deployment_data v.deployment)
    → SaysDeployment v
kept_with text v same says keeps = record { said = ap deployment_in same ∙ says; keeps = keeps }
