-- What the text of a manifest says: the first rule that it violates, or a deployment.
use Rattle.std.specs.Prelude.{◌≡◌, ℕ, Bool, List, [], ◌∷◌, length, nat_le, if◌then◌else◌, Option, None, Some, is_some}
use Rattle.std.specs.Prelude.{⊤, Result, Ok, Err}
use Rattle.std.specs.Str.{is_utf8}
use Rattle.serde_json.specs.Data.{Data}
use Rattle.serde_json.specs.Read.{read}
use Rattle.serde_json.specs.View.{view}
use Rattle.serde_json.specs.declared.value.Value.{Value}
use Rattle.deployment_model.specs.Data.{DeploymentData}
use Rattle.manifest.specs.declared.errors.ManifestError.{ManifestError}
use Rattle.manifest.specs.declared.errors.ManifestError.TheVariants.{Rejected, OutOfMemory}
use Rattle.manifest.specs.Rules.{first_broken, first_violated, or_else}
use Rattle.manifest.specs.Contents.{deployment_said}

-- the JSON value that the text is, where it is UTF-8 and JSON
unfoldable pub value_of : List ℕ → Option Data
value_of text = if is_utf8 text then read text else None

-- ---- the rules of the text

-- rule 1: it has at most 65,536 bytes
abbrev pub is_short : List ℕ → Bool
is_short text = nat_le (length text) 65536

-- rule 2: it is JSON
abbrev pub is_json : List ℕ → Bool
is_json text = is_some (value_of text)

-- the rules of the text by their numbers
abbrev pub text_rules : List (ℕ × (List ℕ → Bool))
text_rules = (1, is_short) ∷ (2, is_json) ∷ []

-- ---- what is said

-- the first of the rules 3 to 24 that the value violates; none where there is no value
abbrev pub broken_in : Option Data → Option ℕ
broken_in None = None
broken_in (Some d) = first_violated d

-- the number, 1 to 24, of the first rule that the text violates; none where it keeps them all
unfoldable pub broken_rule : List ℕ → Option ℕ
broken_rule text = or_else (first_broken text_rules text) (broken_in (value_of text))

-- the deployment that the value says, where no rule (the second argument) is violated
abbrev pub said_in : Option Data → Option ℕ → Option DeploymentData
said_in (Some d) None = Some (deployment_said d)
said_in d rule = None

-- the deployment that the text says, where it breaks no rule
unfoldable pub deployment_in : List ℕ → Option DeploymentData
deployment_in text = said_in (value_of text) (broken_rule text)

-- the error names the first violated rule, `broken`; OutOfMemory says nothing of it
abbrev pub RefusesManifest : Option ℕ → ManifestError → Type 0
RefusesManifest broken (Rejected rule) = broken ≡ Some rule
RefusesManifest broken OutOfMemory = ⊤

-- what a check of rules answered agrees with `broken`, the first violated rule: it passed where none is violated, and
-- its error names the rule
abbrev pub Judges : {A : Type 0} → Result A ManifestError → Option ℕ → Type 0
Judges (Ok a) broken = broken ≡ None
Judges (Err e) broken = RefusesManifest broken e

-- reading a text as JSON gave `said`: the value, or the rejection by rule 2 where there is none
abbrev pub ReadsValue : Result Value ManifestError → Option Data → Type 0
ReadsValue (Ok v) said = said ≡ Some (view v)
ReadsValue (Err (Rejected rule)) said = (rule ≡ 2) × (said ≡ None)
ReadsValue (Err OutOfMemory) said = ⊤
