-- An update in progress: the storages of the next version are made one after another.
use Rattle.std.specs.Prelude.{◌≡◌, ◌≤◌, ◌<◌, ◌-◌, ℕ, List, length, take, map, Bool, IsTrue, None, Result, Ok, Err}
use Rattle.per_base.specs.declared.errors.PerError.{PerError}
use Rattle.disk_model.specs.Image.{Image}
use Rattle.deployment_model.specs.Data.{deployment_data, storage_data}
use Rattle.element_state.specs.States.{greatest_generation}
use Rattle.guarded_cell.specs.Cells.{generation_of}
use Rattle.update_plan.specs.Plans.{AllFit}
use Rattle.root_text.specs.Views.{version_said}
use Rattle.deploy_laws.specs.Places.{Named, shapes_in}
use Rattle.deploy_laws.specs.Apps.{named_in_bank}
use Rattle.deploy_rows.specs.Rows.{InProgress}
use Rattle.deploy.specs.declared.roots.Root.{Root}
use Rattle.deploy.specs.declared.roots.Root.TheVariants.{Installed}
use Rattle.deploy.specs.declared.updating.Begin.{Begin}
use Rattle.deploy.specs.declared.updating.Begin.TheVariants as begin
use Rattle.deploy.specs.declared.updating.Staged.{Staged}
use Rattle.deploy.specs.Roots.{IsRootOf, IsRootOn, RootAt, SaysDeployment}
use Rattle.deploy.specs.Made.{AreMade}

-- the next version, the contents of its storages, and how many of them are made
abbrev pub staged_progress : Staged → InProgress
staged_progress s = record {
  manifest = s.version.text;
  deployment = deployment_data s.version.deployment;
  contents = s.contents.items;
  built =
      s.built;
}

-- the manifest of the next version
abbrev pub staged_text : Staged → List ℕ
staged_text s = s.version.text

-- the root over which it was begun
abbrev pub staged_root : Staged → Root
staged_root s = Installed s.root

-- the next version, in the other bank
abbrev pub offered_in : Staged → Named
offered_in s = named_in_bank (1 - s.root.bank) (version_said s.version)

-- an update in progress is one of this application, over a root with one version and a generation left; its manifest
-- says its deployment, whose storages may have the contents; at most all of them are made
pub record IsStaged (app : ℕ) (s : Staged) : Type 0 where
  pub of_app : s.app ≡ app
  pub below : app < 8
  pub root : IsRootOf app (Installed s.root)
  pub no_previous : s.root.previous ≡ None
  pub not_worn : generation_of s.root.cell < greatest_generation
  pub offers : SaysDeployment s.version
  pub fit : AllFit (map storage_data s.version.deployment.storages) s.contents.items
  pub within : s.built ≤ length s.contents.items

-- an update in progress is in use on a disk: the root stands, and those of the next version's storages that are made
-- open at their contents
pub record StagedAt (told : Bool) (image : Image) (app : ℕ) (s : Staged) : Type 0 where
  pub memory : IsStaged app s
  pub root_on : IsTrue told → IsRootOn image app (Installed s.root)
  pub made : IsTrue told → AreMade image (take s.built (shapes_in app (offered_in s))) (take s.built s.contents.items)

-- ---- how a beginning ended

-- the update that is ready, as it is in progress, or the refusal
abbrev pub begun_as : Begin → Result InProgress PerError
begun_as (begin.Ready s) = Ok (staged_progress s)
begun_as (begin.Refused root e) = Err e

-- an update that was begun is ready over the same root; one that was refused hands the root back
abbrev pub IsUpdateBegun : (told : Bool) (image : Image) (app : ℕ) → Root → Begin → Type 0
IsUpdateBegun told image app root (begin.Ready s) = StagedAt told image app s × (staged_root s ≡ root)
IsUpdateBegun told image app root (begin.Refused same e) = (same ≡ root) × RootAt told image app same
