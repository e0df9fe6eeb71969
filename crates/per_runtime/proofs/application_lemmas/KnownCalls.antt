-- What is known in memory of the calls that call the device.
use Rattle.std.proofs.Common.{◌≡◌, ◌<◌, ℕ, zero, suc, List, [], ◌∷◌, length, get_or, Bool, true, false, cond, IsTrue}
use Rattle.std.proofs.Common.{Option, Some, None, is_ok, Result, Ok, Err, slice_get, refl, sym, ap}
use Rattle.std.proofs.Common.{◌∙◌, subst, arith}
use Rattle.std.specs.Prelude.{map}
use Rattle.per_base.specs.declared.elements.StoreKind.{StoreKind}
use Rattle.per_base.specs.declared.errors.PerError.{PerError}
use Rattle.per_base.specs.declared.errors.PerError.TheVariants as error
use Rattle.disk_model.specs.Image.{Image}
use Rattle.guarded_cell.specs.Cells.{generation_of}
use Rattle.deployment_model.specs.declared.configs.StorageConfig.{StorageConfig}
use Rattle.deployment_model.specs.Data.{StorageData, deployment_data, storage_data}
use Rattle.deployment_model.specs.Lookups.{storage_number}
use Rattle.deployment_model.specs.Conditions.{IsDeployment}
use Rattle.element_state.specs.States.{State}
use Rattle.root_text.specs.Views.{version_said}
use Rattle.deploy.specs.declared.roots.Installed as parts
use Rattle.deploy.specs.declared.roots.Root.{Root}
use Rattle.deploy.specs.declared.roots.Root.TheVariants.{Bad, Absent, Installed}
use Rattle.deploy.specs.Laws.{RootInUseLaw}
use Rattle.deploy.specs.Roots.{IsRootOf, RootAt, root_says}
use Rattle.deploy_laws.specs.Apps.{App, app_at, named_in_bank}
use Rattle.deploy_laws.specs.Laws.{NumberLaw}
use Rattle.deploy_laws.specs.Places.{Named}
use Rattle.run_model.specs.Found.{FoundStorage, found_at, found_in, found_with, of_kind, storage_in}
use Rattle.run_model.specs.Worlds.{is_to_open}
use Rattle.per_runtime.specs.declared.application.running.Running.{Running}
use Rattle.per_runtime.specs.declared.application.running.Stage.{Stage}
use Rattle.per_runtime.specs.declared.application.running.Stage.TheVariants.{ToOpen, AtRest, Updating}
use Rattle.per_runtime.specs.application.Running.{IsRunning, IsStageAt, stage_in}
use Rattle.per_runtime.specs.application.Stages.{installed_parts, stage_root}
use Rattle.per_runtime.proofs.application_lemmas.InWorld.{app_is, at_state, states_of}
use Rattle.per_runtime.proofs.application_lemmas.Steps.{root_at_in}

-- ---- the root that is in memory

installed_root : (root : Root) (i : parts.Installed) → Some i ≡ installed_parts root → root ≡ Installed i
installed_root Bad i is = absurd cc
installed_root (Absent cell) i is = absurd cc
installed_root (Installed j) i is = let same : i ≡ j = cc in ap (λ (x : parts.Installed). Installed x) (sym same)

root_of_in : (told : Bool) (image : Image) (app : ℕ) (slots : _) (stage : Stage) → IsStageAt told image app slots stage
    → IsRootOf app (stage_root stage)
root_of_in told image app slots ToOpen is = tt
root_of_in told image app slots (AtRest root) is = is.root_at.memory
root_of_in told image app slots (Updating s) is = is.0.memory.root

-- the active version keeps what every deployment keeps
pub active_keeps : (told : Bool) (image : Image) (r : Running) (i : parts.Installed) → IsRunning told image r
    → Some i ≡ installed_parts (stage_root r.stage) → IsDeployment (deployment_data i.active.deployment)
active_keeps told image r i is some = (subst (λ (root : Root). IsRootOf r.app root)
    (installed_root (stage_root r.stage) i some) (root_of_in told image r.app r.slots r.stage
    is.stage_at)).1.active.keeps

-- ---- a storage of a name and a kind

abbrev if_agrees : (bank n : ℕ) (config : StorageData) (state : State) → Bool → Result FoundStorage PerError
if_agrees bank n config state agree = cond agree (Ok (record {
  bank = bank;
  number = n;
  config = config;
  state =
      state;
})) (Err error.StorageNotFound)

found_ok : (bank n : ℕ) (kind : Option StoreKind) (config : StorageData) (state : State)
    → is_ok (found_with bank n kind (Some config) (Some state)) ≡ of_kind kind config.kind
found_ok bank n kind config state = by (of_kind kind config.kind)
  where
    by : (agree : Bool) → is_ok (if_agrees bank n config state agree) ≡ agree
    by true = refl
    by false = refl

-- the storage of this number, as it is configured
configured_at : (xs : List StorageConfig) (n : ℕ) (d : StorageConfig) → n < length xs
    → slice_get (map storage_data xs) n ≡ Some (storage_data (get_or xs n d))
configured_at [] n d less = absurd (omega (arith, less))
configured_at (x ∷ xs) zero d less = refl
configured_at (x ∷ xs) (suc n) d less = configured_at xs n d (omega (arith, less))

module _ (in_use : RootInUseLaw) (numbers : NumberLaw) (told : Bool) (image : Image) (r : Running) (tells : IsTrue told)
    (is : IsRunning told image r) (opened : is_to_open (stage_in r.stage) ≡ false) (name : List ℕ)
    (kind : Option StoreKind) where
  abbrev root : Root
  root = stage_root r.stage

  root_at : RootAt told image r.app root
  root_at = root_at_in told image r.app r.slots r.stage opened is.stage_at

  found_by : (x : Root) → root ≡ x → storage_in (app_at image r.app) name kind
      ≡ found_in (root_says x) (states_of image r.app (root_says x)) name kind
  found_by x same = ap (λ (a : App). storage_in a name kind) (app_is in_use numbers told image r.app tells root root_at)
      ∙ ap (λ (y : Root). found_in (root_says y) (states_of image r.app (root_says y)) name kind) same

  none_by : (x : Root) → root ≡ x → installed_parts x ≡ None → is_ok (storage_in (app_at image r.app) name kind) ≡ false
  none_by Bad same none = ap is_ok (found_by Bad same)
  none_by (Absent cell) same none = ap is_ok (found_by (Absent cell) same)
  none_by (Installed i) same none = absurd cc

  pub none_installed : installed_parts root ≡ None → is_ok (storage_in (app_at image r.app) name kind) ≡ false
  none_installed none = none_by root refl none

  module _ (i : parts.Installed) (some : Some i ≡ installed_parts root) where
    abbrev v : Named
    v = named_in_bank i.bank (version_said i.active)

    by_number : (number : Option ℕ) → storage_number (deployment_data i.active.deployment) name ≡ number
        → storage_in (app_at image r.app) name kind ≡ found_at v (states_of image r.app (root_says (Installed i))) kind
        number
    by_number number is_number = found_by (Installed i) (installed_root root i some)
        ∙ ap (λ (n : Option ℕ). found_at v (states_of image r.app (root_says (Installed i))) kind n) is_number

    pub no_number : storage_number (deployment_data i.active.deployment) name ≡ None
        → is_ok (storage_in (app_at image r.app) name kind) ≡ false
    no_number none = ap is_ok (by_number None none)

    pub a_number : (n : ℕ) (config : StorageData) → storage_number (deployment_data i.active.deployment) name ≡ Some n
        → slice_get (deployment_data i.active.deployment).storages n ≡ Some config
        → is_ok (storage_in (app_at image r.app) name kind) ≡ of_kind kind config.kind
    a_number n config is_n configured = ap is_ok (by_number (Some n) is_n
        ∙ (ap (λ (c : Option StorageData). found_with i.bank n kind c
        (slice_get (states_of image r.app (root_says (Installed i))) n)) configured
        ∙ ap (λ (s : Option State). found_with i.bank n kind (Some config) s)
        (at_state numbers told image r.app tells (generation_of i.cell) v _ n config configured)))
        ∙ found_ok i.bank n kind config _

    -- ... whose kind was looked at
    pub a_kind : (xs : List StorageConfig) → xs ≡ i.active.deployment.storages → (n : ℕ) (d : StorageConfig)
        → n < length i.active.deployment.storages
        → storage_number (deployment_data i.active.deployment) name ≡ Some n → (k : StoreKind)
        → (get_or xs n d).kind ≡ k → is_ok (storage_in (app_at image r.app) name kind) ≡ of_kind kind k
    a_kind xs same n d less is_n k is_k =
        let here : slice_get (map storage_data i.active.deployment.storages) n
        ≡ Some (storage_data (get_or i.active.deployment.storages n d)) =
        configured_at i.active.deployment.storages n d less in
        a_number n (storage_data (get_or i.active.deployment.storages n d)) is_n here
        ∙ ap (λ (ys : List StorageConfig). of_kind kind (get_or ys n d).kind) (sym same) ∙ ap (of_kind kind) is_k
