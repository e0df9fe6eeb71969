-- A manifest that is rejected breaks a rule.
use Rattle.std.specs.Prelude.{◌≡◌, ℕ, List, Bool, true, false, cond, Option, Some, None, is_some, Result, Ok, Err}
use Rattle.std.proofs.Common.{refl}
use Rattle.per_base.specs.declared.errors.PerError.{PerError}
use Rattle.per_base.specs.declared.errors.PerError.TheVariants as error
use Rattle.serde_json.specs.Data.{Data}
use Rattle.deployment_model.specs.Data.{DeploymentData}
use Rattle.manifest.specs.Reading.{is_short, is_json, broken_in, broken_rule, deployment_in, said_in, value_of}
use Rattle.manifest.specs.Rules.{or_else}
use Rattle.deploy_rows.specs.Rows.{said_or_broken, deployment_of}

abbrev pub IsRejected : (broken : Option ℕ) → PerError → Type 0
IsRejected broken e = (rule : ℕ) × (broken ≡ Some rule) × (e ≡ error.ManifestRejected rule)

-- a text that violates no rule is read
read_where_unbroken : (short json : Bool) (later : Option ℕ)
    → or_else (cond short (cond json None (Some 2)) (Some 1)) later ≡ None → json ≡ true
read_where_unbroken true true later e = refl
read_where_unbroken true false later e = absurd cc
read_where_unbroken false json later e = absurd cc

unbroken_is_json : (text : List ℕ) → broken_rule text ≡ None → is_some (value_of text) ≡ true
unfolding broken_rule
unbroken_is_json text e = read_where_unbroken (is_short text) (is_json text) (broken_in (value_of text)) e

err_is : (d e : PerError) → ◌≡◌ {A = Result DeploymentData PerError} (Err d) (Err e) → e ≡ d
err_is d e is = cc

no_err : (d : DeploymentData) (e : PerError) → ◌≡◌ {A = Result DeploymentData PerError} (Ok d) (Err e) → ⊥
no_err d e is = absurd cc

by_parts : (value : Option Data) (broken : Option ℕ) (e : PerError) → (broken ≡ None → is_some value ≡ true)
    → said_or_broken (said_in value broken) broken ≡ Err e → IsRejected broken e
by_parts None None e read is = absurd (let no : false ≡ true = read refl in cc)
by_parts (Some d) None e read is = absurd (no_err _ e is)
by_parts None (Some rule) e read is = (rule, refl, err_is (error.ManifestRejected rule) e is)
by_parts (Some d) (Some rule) e read is = (rule, refl, err_is (error.ManifestRejected rule) e is)

pub rejected : (text : List ℕ) (e : PerError) → deployment_of text ≡ Err e → IsRejected (broken_rule text) e
unfolding deployment_of deployment_in
rejected text e is = by_parts (value_of text) (broken_rule text) e (unbroken_is_json text) is
