-- The storage that was found by what a root says, as it is found on an image.
use Rattle.std.proofs.Common.{◌≡◌, ℕ, true, Option, Some, IfOk, Result, Ok, Err, map, option_map, slice_get, ap, ◌∙◌}
use Rattle.std.proofs.lemmas.Option.{slice_get-map}
use Rattle.std.specs.Prelude.{List, IfErr}
use Rattle.std.proofs.lemmas.Bool.{cond-true}
use Rattle.per_base.specs.declared.elements.StoreKind.{StoreKind}
use Rattle.per_base.specs.declared.errors.PerError.{PerError}
use Rattle.per_base.specs.declared.errors.PerError.TheVariants.{StorageNotFound}
use Rattle.disk_model.specs.Image.{Image}
use Rattle.element_state.specs.States.{State, store_at}
use Rattle.deployment_model.specs.Data.{StorageData}
use Rattle.deploy_laws.specs.Apps.{App, app_at, shapes_named}
use Rattle.deploy_laws.specs.Places.{Named}
use Rattle.deploy.specs.declared.roots.Root.{Root}
use Rattle.deploy.specs.Roots.{IsRootOf, IsRootOn, root_says}
use Rattle.run_model.specs.Found.{found_at, found_in, found_with, of_kind, storage_in}
use Rattle.per_runtime.specs.declared.storages.finding.Located.{Located}
use Rattle.per_runtime.specs.storages.Finding.{IsAsked, IsLocated, IsMissing, found_on, shape_at}
use Rattle.per_runtime.specs.storages.StorageLaws.{StorageLaws}
use Rattle.per_runtime.proofs.storage_lemmas.Storing.{shape_by_number}

-- what two facts of a result say together
pub both_ok : {X E : Type 0} (r : Result X E) (P Q R : X → Type 0) → ((x : X) → P x → Q x → R x) → IfOk r P → IfOk r Q
    → IfOk r R
both_ok (Ok x) P Q R joins p q = joins x p q
both_ok (Err e) P Q R joins p q = tt

pub weaker_err : {X E : Type 0} (r : Result X E) (P Q : E → Type 0) → ((e : E) → P e → Q e) → IfErr r P → IfErr r Q
weaker_err (Ok x) P Q leads p = tt
weaker_err (Err e) P Q leads p = leads e p

module _ (laws : StorageLaws) (app : ℕ) (root : Root) (of : IsRootOf app root) where
  storage_says : (image : Image) → IsRootOn image app root → (name : List ℕ) (kind : Option StoreKind)
      → storage_in (app_at image app) name kind ≡ found_in (root_says root)
      (map (store_at image) (shapes_named app (root_says root))) name kind
  storage_says image on name kind = ap (λ (a : App). storage_in a name kind) (laws.in_use image app root of on)

  pub asked_on : (name : List ℕ) (kind : Option StoreKind) (l : Located) → IsLocated app (root_says root) l
      → IsAsked (root_says root) name kind l
      → (image : Image) → IsRootOn image app root → storage_in (app_at image app) name kind ≡ Ok (found_on image l)
  asked_on name kind l located asked image on = storage_says image on name kind
      ∙ asked (map (store_at image) (shapes_named app (root_says root))) (store_at image (shape_at l))
      (slice_get-map (store_at image) (shapes_named app (root_says root)) l.number
      ∙ ap (option_map (store_at image)) (shape_by_number laws app root l located))

  pub missing_on : (name : List ℕ) (kind : Option StoreKind) (e : PerError) → IsMissing (root_says root) name kind e
      → (image : Image) → IsRootOn image app root → storage_in (app_at image app) name kind ≡ Err e
  missing_on name kind e missing image on = storage_says image on name kind
      ∙ missing (map (store_at image) (shapes_named app (root_says root)))

-- by its number, which leads to how it is configured, and its kind
pub is_asked : (v : Named) (states : List State) (kind : Option StoreKind) (found : Option ℕ) (number : ℕ)
    (s : StorageData) (state : State) → found ≡ Some number
    → slice_get v.deployment.storages number ≡ Some s → of_kind kind s.kind ≡ true
    → slice_get states number ≡ Some state
    → found_at v states kind found ≡ Ok (record { bank = v.bank; number = number; config = s; state = state })
is_asked v states kind found number s state by at fits is = ap (found_at v states kind) by
    ∙ ap (λ (c : Option StorageData). found_with v.bank number kind c (slice_get states number)) at
    ∙ ap (λ (x : Option State). found_with v.bank number kind (Some s) x) is
    ∙ cond-true (of_kind kind s.kind) (Ok (record { bank = v.bank; number = number; config = s; state = state }))
    (Err StorageNotFound) fits
