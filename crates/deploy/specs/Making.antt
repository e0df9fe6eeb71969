-- What is written where the storages of a version are made: into which files, how many bytes, and that the root comes
-- last.
use Rattle.std.specs.Prelude.{◌≡◌, ◌≤◌, ◌⊎◌, ℕ, ◌+◌, List, [], ◌∷◌, drop, Bool, IsTrue, Result, Ok, Err}
use Rattle.std.specs.List.{AllByRecursion}
use Rattle.per_base.specs.declared.elements.Fresh.{Fresh}
use Rattle.per_base.specs.declared.errors.PerError.{PerError}
use Rattle.disk_model.specs.Image.{Image}
use Rattle.disk_model.specs.Medium.{Elapses, Medium, Quiet}
use Rattle.disk_model.specs.Place.{IsOutside}
use Rattle.deployment_model.specs.Data.{DeploymentData, StorageData}
use Rattle.element_state.specs.declared.shapes.Shape.{Shape}
use Rattle.element_state.specs.States.{State}
use Rattle.deploy_laws.specs.Apps.{App, app_at}
use Rattle.deploy_laws.specs.Places.{shapes_from}
use Rattle.deploy_rows.specs.Costs.{making_costs, root_cost}
use Rattle.deploy_rows.specs.Rows.{InProgress, deployment_of, initial_all}
use Rattle.deploy.specs.declared.roots.Root.{Root}
use Rattle.deploy.specs.Clauses.{IsNoRootSlot, Leaves}
use Rattle.deploy.specs.Roots.{root_app, root_texts}

-- ---- files

-- the file is in the place of none of these storages: no slot and no area of one
abbrev pub IsInNone : List Shape → ℕ → Type 0
IsInNone shapes file = AllByRecursion (λ (shape : Shape). IsOutside shape.place file) shapes

-- the file is no slot of the root and in the place of none of these storages
abbrev pub IsBesideMade : ℕ → List Shape → ℕ → Type 0
IsBesideMade app shapes file = IsNoRootSlot app file × IsInNone shapes file

-- ---- bytes

-- an update writes nothing, or no more than the storages of the next version cost with the contents that it may begin
-- with over some states of the old ones, theirs where the disk is modelled, and then its root
abbrev pub WritesUpdate : (told : Bool) → (Rows : App → Result InProgress PerError → Type 0) → ℕ → Root → List ℕ
    → (old new : Medium) → Type 0
WritesUpdate told Rows app root manifest old new = (new.written ≡ old.written)
    ⊎ ((states : List State) × (p : InProgress) × (IsTrue told → (app_at old.image app).states ≡ states)
    × Rows (root_app root states) (Ok p)
    × (new.written ≤ old.written + (making_costs p.deployment.storages p.contents
    + root_cost (manifest ∷ root_texts root))))

-- ---- the order

-- what is made of a version: the storages with these shapes, which may cost so much, and then a root that keeps these
-- manifests, the active version's first
pub record Making : Type 0 where
  pub shapes : List Shape
  pub cost : ℕ
  pub manifests : List (List ℕ)

-- a version is made in this bank: its storages from the one with number `built` on, each with its contents, and then a
-- root that keeps these manifests
abbrev pub making_from : (app bank built : ℕ) → List StorageData → List (List Fresh) → (manifests : List (List ℕ))
    → Making
making_from app bank built storages contents manifests = record {
  shapes = drop built (shapes_from app bank 0 storages);
  cost = making_costs (drop built storages) (drop built contents);
  manifests = manifests;
}

-- The storages come first, and then the root, once: up to some moment of the calls only files of these storages change,
-- and no more is written than they cost; from it on only slots of the root change, and no more is written than writing
-- it once costs.
pub record RootComesLast {D : Type 0} (medium : D → Medium) (told : Bool) (app : ℕ) (making : Making) (old new : D)
    : Type 0 where
  -- the disk at that moment
  pub made : D
  pub storages : Leaves told (IsInNone making.shapes) (medium old) (medium made)
  pub costs : (medium made).written ≤ (medium old).written + making.cost
  pub before : Elapses (medium old) (medium made)
  -- what was made is durable before the root is begun, if nothing was pending
  pub durable : (Quiet (medium old) → Quiet (medium made)) ⊎ (new ≡ made)
  pub root : Leaves told (IsNoRootSlot app) (medium made) (medium new)
  pub once : (medium new).written ≤ (medium made).written + root_cost making.manifests
  pub after : Elapses (medium made) (medium new)

-- what each storage of a deployment starts with, installed at a moment in seconds, where there is a deployment
abbrev pub contents_by : (now : ℕ) → Result DeploymentData PerError → List (List Fresh)
contents_by now (Ok d) = initial_all now d
contents_by now (Err e) = []

-- what each storage of the deployment that a manifest says starts with, installed at a moment in seconds; nothing where
-- the manifest is refused
abbrev pub contents_said : (now : ℕ) → List ℕ → List (List Fresh)
contents_said now manifest = contents_by now (deployment_of manifest)

-- with this in progress an update over this root may begin, over some states of its storages, theirs where the disk is
-- modelled
abbrev pub MayBegin : (told : Bool) → (Rows : App → Result InProgress PerError → Type 0) → ℕ → Root → Image
    → InProgress → Type 0
MayBegin told Rows app root image p = (states : List State) × (IsTrue told → (app_at image app).states ≡ states)
    × Rows (root_app root states) (Ok p)
