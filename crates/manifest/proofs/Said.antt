-- What the text of a manifest says is said by a text that breaks no rule.
use Rattle.std.proofs.Common.{◌≡◌, ◌≢◌, ℕ, ◌≤◌, Bool, true, false, List, length, Option, Some, None, Result, Ok, Err}
use Rattle.std.proofs.Common.{refl, leb-true}
use Rattle.std.specs.Prelude.{nat_le, IfErr}
use Rattle.serde_json.specs.Data.{Data}
use Rattle.deployment_model.specs.Conditions.{IsDeployment}
use Rattle.deployment_model.specs.Data.{DeploymentData}
use Rattle.deployment_model.specs.declared.configs.Deployment.{Deployment}
use Rattle.manifest.specs.declared.errors.ManifestError.{ManifestError}
use Rattle.manifest.specs.declared.errors.ManifestError.TheVariants.{Rejected, OutOfMemory}
use Rattle.manifest.specs.Reading.{Judges, broken_rule, deployment_in, said_in, value_of}
use Rattle.manifest.proofs.Kept.{least_of, read_kept}

unbroken : (o : Option Data) (broken : Option ℕ) (said : DeploymentData) → said_in o broken ≡ Some said → broken ≡ None
unbroken (Some d) None said is = refl
unbroken (Some d) (Some rule) said is = absurd cc
unbroken None broken said is = absurd cc

broken : (o : Option Data) (rule : ℕ) (least : Option ℕ) → least ≡ Some rule → said_in o least ≡ None
broken (Some d) rule None is = absurd cc
broken (Some d) rule (Some least) is = refl
broken None rule least is = refl

is_short : (o : Option Data) (short : Bool) → least_of o short ≡ None → short ≡ true
unfolding least_of
is_short o true none = refl
is_short o false none = absurd cc

pub said_keeps : (text : List ℕ) (said : DeploymentData) → deployment_in text ≡ Some said → IsDeployment said
unfolding broken_rule deployment_in least_of
said_keeps text said is = read_kept (value_of text) (nat_le (length text) 65536) said
    (unbroken (value_of text) (broken_rule text) said is) is

pub said_shortly : (text : List ℕ) (said : DeploymentData) → deployment_in text ≡ Some said → length text ≤ 65536
unfolding broken_rule deployment_in least_of
said_shortly text said is = leb-true _ _ (is_short (value_of text) (nat_le (length text) 65536)
    (unbroken (value_of text) (broken_rule text) said is))

pub unsaid_of : (text : List ℕ) (r : Result Deployment ManifestError) → Judges r (broken_rule text)
    → IfErr r (λ e. e ≢ OutOfMemory → deployment_in text ≡ None)
unfolding deployment_in
unsaid_of text (Ok d) judged = tt
unsaid_of text (Err (Rejected rule)) judged = λ error. broken (value_of text) rule (broken_rule text) judged
unsaid_of text (Err OutOfMemory) judged = λ error. absurd (error refl)
