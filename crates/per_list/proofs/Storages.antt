-- What is left to be listed, while storages are gone through one after another, and what an application has by how its
-- root is seen.
use Rattle.std.proofs.Common.{◌≡◌, ℕ, zero, suc, ◌+◌, ◌<◌, ◌≤◌, List, [], ◌∷◌, ◌++◌, map, length, get_or, drop, Option}
use Rattle.std.proofs.Common.{Bool, refl, sym, ap, ◌∙◌, subst, arith, option_map, Some, None}
use Rattle.std.specs.Prelude.{IfSome}
use Rattle.std.specs.List.{AllByRecursion}
use Rattle.std.proofs.lemmas.List.{append-nil, append_assoc, drop_all, drop_more}
use Rattle.disk_model.specs.Image.{Image}
use Rattle.deployment_model.specs.Conditions.{IsDeployment, IsStorage}
use Rattle.deployment_model.specs.Data.{StorageData, deployment_data, storage_data}
use Rattle.deployment_model.specs.declared.configs.Deployment.{Deployment}
use Rattle.deployment_model.specs.declared.configs.StorageConfig.{StorageConfig}
use Rattle.element_state.specs.declared.shapes.Shape.{Shape}
use Rattle.element_state.specs.States.{State, store_at}
use Rattle.deploy.specs.Views.{ShowsVersions, seen_at, seen_by, versions}
use Rattle.deploy_laws.specs.Apps.{IsInBank, Says, nothing, absent, installed, app_at, root_sole, says_at}
use Rattle.deploy_laws.specs.Apps.{shapes_named}
use Rattle.deploy_laws.specs.Places.{Named, shapes_from, shapes_if, shapes_in, storage_shape, version_in_bank}
use Rattle.per_list.specs.declared.forms.Form.{Form}
use Rattle.per_list.specs.Listings.{app_by, app_text, list_end, next_list, previous_by, storage_by, storages_by}
use Rattle.per_list.specs.Listings.{version_by, version_head, version_number}
use Rattle.per_list.specs.Seen.{app_seen, previous_seen, storages_seen, version_seen}

-- ---- storages of a version

-- what is there and what the storages from a number on come to is what was there at first and what all of them come to
abbrev pub StoragesLeft : Form → Image → (app bank number : ℕ) → List StorageConfig → (start now : List ℕ) → Type 0
StoragesLeft form image app bank number storages start now =
    now ++ storages_seen form image app bank number (map storage_data (drop number storages))
    ≡ start ++ storages_seen form image app bank 0 (map storage_data storages)

module _ (form : Form) (image : Image) (app bank : ℕ) (storages : List StorageConfig) (start : List ℕ) where
  pub storages_more : (number : ℕ) (x : StorageConfig) (now new : List ℕ) → number < length storages
      → x ≡ get_or storages number x
      → StoragesLeft form image app bank number storages start now
      → new ≡ now ++ storage_by form app bank number (storage_data x)
      (store_at image (storage_shape app bank number (storage_data x)))
      → StoragesLeft form image app bank (number + 1) storages start new
  storages_more number x now new lt is left added =
      let here = storage_by form app bank number (storage_data x)
      (store_at image (storage_shape app bank number (storage_data x))) in
      let later = drop (number + 1) storages in
      let rest = storages_seen form image app bank (suc number) (map storage_data later) in
      let next : number + 1 ≡ suc number = omega arith in
      let step : drop number storages ≡ x ∷ later = drop_more storages number x lt
      ∙ ap (λ (y : StorageConfig). y ∷ later) (sym is) in
      ap (λ n. new ++ storages_seen form image app bank n (map storage_data later)) next
      ∙ ap (λ (xs : List ℕ). xs ++ rest) added
      ∙ append_assoc now here rest
      ∙ sym (ap (λ (ys : List StorageConfig). now ++ storages_seen form image app bank number (map storage_data ys))
      step)
      ∙ left

  pub storages_all : (number : ℕ) (now : List ℕ) → length storages ≤ number
      → StoragesLeft form image app bank number storages start now
      → now ≡ start ++ storages_seen form image app bank 0 (map storage_data storages)
  storages_all number now past left =
      sym (append-nil now)
      ∙ sym (ap (λ (ys : List StorageConfig). now ++ storages_seen form image app bank number (map storage_data ys))
      (drop_all number storages past))
      ∙ left

-- each storage of a deployment keeps what storages keep
pub storage_keeps : (ds : List StorageConfig) (k : ℕ) (x : StorageConfig)
    → AllByRecursion IsStorage (map storage_data ds) → k < length ds → x ≡ get_or ds k x
    → IsStorage (storage_data x)
storage_keeps [] k x all lt is = absurd (omega (arith, lt))
storage_keeps (d ∷ ds) zero x all lt is = subst (λ (y : StorageConfig). IsStorage (storage_data y)) (sym is) all.0
storage_keeps (d ∷ ds) (suc k) x all lt is = storage_keeps ds k x all.1 (omega (arith, lt)) is

as_many : (ds : List StorageConfig) → length (map storage_data ds) ≡ length ds
as_many [] = refl
as_many (d ∷ ds) = ap suc (as_many ds)

-- there are at most sixteen
pub few_storages : (ds : List StorageConfig) → length (map storage_data ds) ≤ 16 → length ds ≤ 16
few_storages ds few = let same = as_many ds in omega (arith, few, same)

-- ---- an application

-- the states of the storages of a version before others, and those after them
states_before : (form : Form) (image : Image) (app bank number : ℕ) (ss : List StorageData) (shapes : List Shape)
    → storages_by form app bank number ss (map (store_at image) (shapes_from app bank number ss ++ shapes))
    ≡ storages_seen form image app bank number ss
states_before form image app bank number [] shapes = refl
states_before form image app bank number (s ∷ ss) shapes =
    ap (λ (xs : List ℕ). storage_by form app bank number s (store_at image (storage_shape app bank number s)) ++ xs)
    (states_before form image app bank (suc number) ss shapes)

states_after : (image : Image) (app bank number : ℕ) (ss : List StorageData) (shapes : List Shape)
    → drop (length ss) (map (store_at image) (shapes_from app bank number ss ++ shapes)) ≡ map (store_at image) shapes
states_after image app bank number [] shapes = refl
states_after image app bank number (s ∷ ss) shapes = states_after image app bank (suc number) ss shapes

previous_is_seen : (form : Form) (image : Image) (app : ℕ) (active : Named) (previous : Option Named)
    → previous_by form app previous (drop (length active.deployment.storages)
    (map (store_at image) (shapes_in app active ++ shapes_if app previous)))
    ≡ previous_seen form image app previous
previous_is_seen form image app active None = refl
previous_is_seen form image app active (Some v) =
    ap (λ (states : List State). version_by form app v states)
    (states_after image app active.bank 0 active.deployment.storages (shapes_in app v))

by_says : (form : Form) (image : Image) (app : ℕ) (says : Says) (lacking : List ℕ) (sole : Bool)
    → app_by form app says (map (store_at image) (shapes_named app says))
    ≡ app_seen form image app (seen_by says lacking sole)
unfolding shapes_named
by_says form image app nothing lacking sole = refl
by_says form image app (absent g) lacking sole = refl
by_says form image app (installed g active previous) lacking sole =
    let head = version_head form app active.bank active.deployment.version (option_map version_number previous) in
    let all = map (store_at image) (shapes_in app active ++ shapes_if app previous) in
    ap (λ (xs : List ℕ). head ++ xs ++ next_list form
    ++ previous_by form app previous (drop (length active.deployment.storages) all) ++ list_end form)
    (states_before form image app active.bank 0 active.deployment.storages (shapes_if app previous))
    ∙ ap (λ (xs : List ℕ). head ++ version_seen form image app active ++ next_list form ++ xs ++ list_end form)
    (previous_is_seen form image app active previous)

pub app_is_seen : (form : Form) (image : Image) (app : ℕ)
    → app_seen form image app (seen_at image app) ≡ app_text form app (app_at image app)
unfolding app_at app_text
app_is_seen form image app =
    sym (by_says form image app (says_at image app) (app_at image app).lacking (root_sole image app))

-- ---- versions

pub shown_active : (active : Named) (previous : Option Named) (lacking : List ℕ) (sole : Bool)
    → ShowsVersions (versions active previous lacking sole) → IsInBank active
shown_active active None lacking sole shown = shown
shown_active active (Some v) lacking sole shown = shown.of_active

pub shown_previous : (active : Named) (bank : ℕ) (previous : Option Deployment) (lacking : List ℕ) (sole : Bool)
    → ShowsVersions (versions active (version_in_bank bank previous) lacking sole)
    → IfSome previous (λ d. IsDeployment (deployment_data d))
shown_previous active bank None lacking sole shown = tt
shown_previous active bank (Some d) lacking sole shown = let placed = shown.of_previous in placed.keeps

pub kept_some : (previous : Option Deployment) (d : Deployment) → previous ≡ Some d
    → IfSome previous (λ d. IsDeployment (deployment_data d)) → IsDeployment (deployment_data d)
kept_some previous d is kept =
    subst (λ (o : Option Deployment). IfSome o (λ d. IsDeployment (deployment_data d))) is kept

-- the number of a version in a bank is that of its deployment
pub number_named : (bank : ℕ) (previous : Option Deployment)
    → option_map version_number (version_in_bank bank previous) ≡ option_map (λ (d : Deployment). d.version) previous
number_named bank None = refl
number_named bank (Some d) = refl
