-- A refusal that the root alone decides is due at once; what is due after it allocates.
use Rattle.std.proofs.Common.{◌≡◌, ◌⊎◌, ⊎_elim, ℕ, ◌-◌, List, [], Bool, true, false, Option, None, Some, refl, sym, ap}
use Rattle.std.proofs.Common.{◌∙◌, subst}
use Rattle.std.specs.Prelude.{Result, Ok, Err, cond, nat_le, option_map}
use Rattle.per_base.specs.declared.errors.Holder.TheVariants as holder
use Rattle.per_base.specs.declared.errors.Limit.TheVariants as limit
use Rattle.per_base.specs.declared.errors.PerError.{PerError}
use Rattle.per_base.specs.declared.errors.PerError.TheVariants as error
use Rattle.deployment_model.specs.Data.{DeploymentData}
use Rattle.element_state.specs.States.{greatest_generation}
use Rattle.guarded_cell.specs.Cells.{generation_of}
use Rattle.manifest.specs.Reading.{broken_rule, deployment_in}
use Rattle.root_text.specs.declared.versions.VersionText.{VersionText}
use Rattle.root_text.specs.Views.{version_said}
use Rattle.deploy_laws.specs.Apps.{App, absent, named_in_bank}
use Rattle.deploy_laws.specs.Places.{Named}
use Rattle.deploy_rows.specs.Rows.{◌>>=◌, Offer, deployment_of, installed_app, installing, newer_version, not_worn}
use Rattle.deploy_rows.specs.Rows.{offered}
use Rattle.deploy_rows.specs.Rows.{rollback_with, rolling_back, said_or_broken}
use Rattle.deploy.specs.declared.roots.Installed.{Installed}
use Rattle.deploy.specs.declared.roots.Root.TheVariants as root
use Rattle.deploy.specs.Refusals.{AllocatesNothing}
use Rattle.deploy.specs.Roots.{root_app}
use Rattle.deploy.proofs.InstallRow.{install_row}
use Rattle.deploy.proofs.Offers.{by_text, is_busy}

-- none of its refusals is decided by the root alone
abbrev pub TakesMemory : {A : Type 0} → Result A PerError → Type 0
TakesMemory r = (e : PerError) → r ≡ Err e → AllocatesNothing e → ⊥

takes_by : {A : Type 0} (r s : Result A PerError) → r ≡ s → TakesMemory s → TakesMemory r
takes_by {A} r s is takes e refusal none = takes e (sym is ∙ refusal) none

takes_error : {A : Type 0} (d : PerError) → (AllocatesNothing d → ⊥) → TakesMemory {A = A} (Err d)
takes_error {A} d takes e refusal none =
    let same : e ≡ d = cc in
    takes (subst AllocatesNothing same none)

takes_ok : {A : Type 0} (x : A) → TakesMemory (Ok x)
takes_ok {A} x e refusal none = cc

takes_cond : {A : Type 0} (b : Bool) (d : PerError) (x : A) → (AllocatesNothing d → ⊥)
    → TakesMemory (cond b (Err d) (Ok x))
takes_cond {A} true d x takes = takes_error {A = A} d takes
takes_cond {A} false d x takes = takes_ok x

takes_then : {A B : Type 0} (r : Result A PerError) (next : A → Result B PerError) → TakesMemory r
    → ((x : A) → TakesMemory (next x)) → TakesMemory (r >>= next)
takes_then {A} {B} (Ok x) next first then = then x
takes_then {A} {B} (Err d) next first then = λ e refusal none.
    first d refl (let same : e ≡ d = cc in subst AllocatesNothing same none)

-- ---- the manifest

broken_takes : (said : Option DeploymentData) (rule : Option ℕ) → TakesMemory (said_or_broken said rule)
broken_takes (Some d) rule = takes_ok d
broken_takes None None = takes_error (error.ManifestRejected 0) (λ none. none)
broken_takes None (Some rule) = takes_error (error.ManifestRejected rule) (λ none. none)

manifest_takes : (text : List ℕ) → TakesMemory (deployment_of text)
unfolding deployment_of
manifest_takes text = broken_takes (deployment_in text) (broken_rule text)

-- over a root that says that nothing is installed
pub install_takes : (now g : ℕ) (text : List ℕ) (a : App) → a.says ≡ absent g → TakesMemory (installing now text a)
install_takes now g text a is = takes_by (installing now text a)
    (deployment_of text >>= (λ d. not_worn g (Ok (installed_app g now d)))) (install_row now g text a is)
    (takes_then (deployment_of text) (λ d. not_worn g (Ok (installed_app g now d))) (manifest_takes text)
    (λ d. takes_cond (nat_le greatest_generation g) (error.LimitReached limit.Generations) (installed_app g now d)
    (λ none. none)))

-- ---- over a version that stands alone

module _ (busy : Option (List ℕ)) (text : List ℕ) (i : Installed) (none : i.previous ≡ None) where
  pub busy_takes : (name : List ℕ) → busy ≡ Some name → TakesMemory (offered busy text (root_app (root.Installed i) []))
  busy_takes name is = takes_by (offered busy text (root_app (root.Installed i) []))
      (Err (error.ResourceBusy (holder.Storage name)))
      (is_busy busy text i none name is) (takes_error (error.ResourceBusy (holder.Storage name)) (λ at_once. at_once))

  pub offer_takes : busy ≡ None → TakesMemory (offered busy text (root_app (root.Installed i) []))
  offer_takes free =
      let active : Named = named_in_bank i.bank (version_said i.active) in
      takes_by (offered busy text (root_app (root.Installed i) []))
      (deployment_of text >>= newer_version active (generation_of i.cell) text)
      (by_text busy text i none free (deployment_of text) refl)
      (takes_then (deployment_of text) (newer_version active (generation_of i.cell) text) (manifest_takes text)
      (λ d. takes_cond (nat_le d.version active.deployment.version)
      (error.VersionNotNewer active.deployment.version d.version)
      (record { generation = generation_of i.cell; active = active; manifest = text; deployment = d })
      (λ at_once. at_once)))

-- what is offered is not refused
pub not_offered : {P : Type 0} (row : Result Offer PerError) (o : Offer) (e : PerError) → row ≡ Ok o → row ≡ Err e → P
not_offered {P} row o e is refusal = cc

-- ---- a rollback over two versions, while a storage is open

open_refuses : (name : List ℕ) (i : Installed) (v : VersionText) → i.previous ≡ Some v
    → rolling_back (Some name) (root_app (root.Installed i) []) ≡ Err (error.ResourceBusy (holder.Storage name))
unfolding rolling_back
open_refuses name i v is = ap (λ (p : Option VersionText).
    rollback_with (Some name) (root_app (root.Installed i) []) (generation_of i.cell)
    (named_in_bank i.bank (version_said i.active)) (option_map
    (λ (w : VersionText). named_in_bank (1 - i.bank) (version_said w)) p)) is

unless_open : (busy : Option (List ℕ)) (i : Installed) (v : VersionText) → i.previous ≡ Some v → (busy ≡ None → ⊥)
    → TakesMemory (rolling_back busy (root_app (root.Installed i) []))
unless_open None i v is some = absurd (some refl)
unless_open (Some name) i v is some = takes_by (rolling_back (Some name) (root_app (root.Installed i) []))
    (Err (error.ResourceBusy (holder.Storage name)))
    (open_refuses name i v is) (takes_error (error.ResourceBusy (holder.Storage name)) (λ at_once. at_once))

unmapped : {A B : Type 0} (f : A → B) (o : Option A) → option_map f o ≡ None → o ≡ None
unmapped {A} {B} f None is = refl
unmapped {A} {B} f (Some x) is = absurd cc

-- so it is not due where the root alone decides, or no storage is open
pub rollback_not_due : {A : Type 0} (name_of : A → List ℕ) (busy : Option A) (i : Installed) (v : VersionText)
    → i.previous ≡ Some v → (busy ≡ None → ⊥)
    → (e : PerError) → rolling_back (option_map name_of busy) (root_app (root.Installed i) []) ≡ Err e
    → AllocatesNothing e ⊎ (busy ≡ None) → ⊥
rollback_not_due {A} name_of busy i v is some e refusal either = ⊎_elim
    (λ at_once. unless_open (option_map name_of busy) i v is (λ none. some (unmapped name_of busy none)) e refusal
    at_once)
    some either
