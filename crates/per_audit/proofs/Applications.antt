-- What an application has, by how its root is seen.
use Rattle.std.proofs.Common.{◌≡◌, ℕ, suc, List, [], ◌∷◌, ◌++◌, map, Bool, Option, Some, None, IfSome, refl, sym, ap}
use Rattle.std.proofs.Common.{◌∙◌, subst}
use Rattle.std.proofs.lemmas.List.{append-nil, append_assoc}
use Rattle.per_base.specs.declared.errors.Unit.TheVariants.{Root}
use Rattle.disk_model.specs.Image.{Image}
use Rattle.deployment_model.specs.Conditions.{IsDeployment}
use Rattle.deployment_model.specs.Data.{StorageData, deployment_data}
use Rattle.deployment_model.specs.declared.configs.Deployment.{Deployment}
use Rattle.element_state.specs.declared.shapes.Shape.{Shape}
use Rattle.element_state.specs.States.{State, store_at}
use Rattle.deploy.specs.Views.{ShowsVersions, seen_at, seen_by, versions}
use Rattle.deploy_laws.specs.Apps.{IsInBank, Says, nothing, absent, installed, app_at, root_sole, says_at}
use Rattle.deploy_laws.specs.Apps.{shapes_named}
use Rattle.deploy_laws.specs.Places.{Named, shapes_from, shapes_if, shapes_in, storage_shape, version_in_bank}
use Rattle.per_audit.specs.declared.findings.Finding.{Finding}
use Rattle.per_audit.specs.declared.findings.Listed.{Listed}
use Rattle.per_audit.specs.declared.noting.Notes.{Notes}
use Rattle.per_audit.specs.Audits.{damaged_by, each_storage, elements_of, findings_of, listed_of, of_storage}
use Rattle.per_audit.specs.Audits.{storages_if, storages_of, unless_sole}
use Rattle.per_audit.specs.Noted.{AddsNotes, elements_seen, findings_seen, of_previous, of_version}
use Rattle.per_audit.specs.Noted.{over_storages}

-- ---- the storages of both versions

module _ {A : Type 0} (f : ℕ → StorageData → State → List A) (image : Image) (app : ℕ) where
  -- those of one version before others
  each_more : (bank number : ℕ) (ss : List StorageData) (rest : List (ℕ × StorageData)) (shapes : List Shape)
      → each_storage f (map (λ s. (bank, s)) ss ++ rest) (map (store_at image)
      (shapes_from app bank number ss ++ shapes))
      ≡ over_storages f image app bank number ss ++ each_storage f rest (map (store_at image) shapes)
  each_more bank number [] rest shapes = refl
  each_more bank number (s ∷ ss) rest shapes =
      ap (λ (xs : List A). f bank s (store_at image (storage_shape app bank number s)) ++ xs)
      (each_more bank (suc number) ss rest shapes)
      ∙ sym (append_assoc (f bank s (store_at image (storage_shape app bank number s)))
      (over_storages f image app bank (suc number) ss) (each_storage f rest (map (store_at image) shapes)))

  versions_each : (active : Named) (previous : Option Named)
      → each_storage f (storages_of active ++ storages_if previous)
      (map (store_at image) (shapes_in app active ++ shapes_if app previous))
      ≡ of_version f image app active ++ of_previous f image app previous
  versions_each active None = each_more active.bank 0 active.deployment.storages [] []
  versions_each active (Some v) = each_more active.bank 0 active.deployment.storages (storages_of v) (shapes_in app v)

-- ---- an application

module _ (image : Image) (app : ℕ) where
  elements_by_says : (says : Says) (lacking : List ℕ) (sole : Bool)
      → elements_of app (record {
        says = says;
        lacking = lacking;
        states =
            map (store_at image) (shapes_named app says);
      })
      ≡ elements_seen image app (seen_by says lacking sole)
  unfolding elements_of shapes_named
  elements_by_says nothing lacking sole = refl
  elements_by_says (absent g) lacking sole = refl
  elements_by_says (installed g active previous) lacking sole =
      versions_each (listed_of app) image app active previous

  findings_by_says : (says : Says) (lacking : List ℕ) (sole : Bool)
      → findings_of app sole (record {
        says = says;
        lacking = lacking;
        states =
            map (store_at image) (shapes_named app says);
      })
      ≡ findings_seen image app (seen_by says lacking sole)
  unfolding findings_of shapes_named
  findings_by_says nothing lacking sole = refl
  findings_by_says (absent g) lacking sole = append-nil
      (damaged_by app None Root lacking ++ unless_sole sole app None Root)
  findings_by_says (installed g active previous) lacking sole =
      let of_root = damaged_by app None Root lacking ++ unless_sole sole app None Root in
      ap (λ (xs : List Finding). of_root ++ xs) (versions_each (of_storage app) image app active previous)
      ∙ sym (append_assoc of_root (of_version (of_storage app) image app active)
      (of_previous (of_storage app) image app previous))

  pub app_elements : elements_seen image app (seen_at image app) ≡ elements_of app (app_at image app)
  unfolding app_at
  app_elements = sym (elements_by_says (says_at image app) (app_at image app).lacking (root_sole image app))

  pub app_findings : findings_seen image app (seen_at image app)
      ≡ findings_of app (root_sole image app) (app_at image app)
  unfolding app_at
  app_findings = sym (findings_by_says (says_at image app) (app_at image app).lacking (root_sole image app))

-- ---- the versions that are seen

pub shown_active : (active : Named) (previous : Option Named) (lacking : List ℕ) (sole : Bool)
    → ShowsVersions (versions active previous lacking sole) → IsInBank active
shown_active active None lacking sole shown = shown
shown_active active (Some v) lacking sole shown = shown.of_active

pub shown_previous : (active : Named) (bank : ℕ) (previous : Option Deployment) (lacking : List ℕ) (sole : Bool)
    → ShowsVersions (versions active (version_in_bank bank previous) lacking sole)
    → IfSome previous (λ d. IsDeployment (deployment_data d))
shown_previous active bank None lacking sole shown = tt
shown_previous active bank (Some d) lacking sole shown = shown.of_previous.keeps

pub kept_some : (previous : Option Deployment) (d : Deployment) → previous ≡ Some d
    → IfSome previous (λ x. IsDeployment (deployment_data x)) → IsDeployment (deployment_data d)
kept_some previous d is kept = subst (λ (o : Option Deployment). IfSome o (λ x. IsDeployment (deployment_data x))) is
    kept

-- ---- what was added

pub adds_on : (es fs : List Listed) (gs hs : List Finding) (a b c : Notes) → AddsNotes es gs a b → AddsNotes fs hs b c
    → AddsNotes (es ++ fs) (gs ++ hs) a c
adds_on es fs gs hs a b c first next = record {
  elements_are = next.elements_are ∙ ap (λ (xs : List Listed). xs ++ fs) first.elements_are
      ∙ append_assoc a.elements.items es fs;
  findings_are = next.findings_are ∙ ap (λ (xs : List Finding). xs ++ hs) first.findings_are
      ∙ append_assoc a.findings.items gs hs;
}

pub adds_nothing : (a : Notes) → AddsNotes [] [] a a
adds_nothing a = record {
  elements_are = sym (append-nil a.elements.items);
  findings_are =
      sym (append-nil a.findings.items);
}
