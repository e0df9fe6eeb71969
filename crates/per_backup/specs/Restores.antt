-- What a restore promises.
use Rattle.std.specs.Prelude.{◌≡◌, ℕ, List, [], ◌∷◌, Option, None, Ok, IsErr, IsOk, map, Bool, IsTrue}
use Rattle.per_base.specs.declared.elements.Fresh.{Fresh}
use Rattle.per_base.specs.declared.errors.PerError.{PerError}
use Rattle.disk_model.specs.Frame.{IsSettledOn, Spares}
use Rattle.disk_model.specs.Image.{Image}
use Rattle.disk_model.specs.Medium.{EachCase, Medium, Quiet}
use Rattle.deployment_model.specs.Data.{deployment_data, storage_data}
use Rattle.update_plan.specs.Plans.{AllFit}
use Rattle.deploy_laws.specs.Apps.{App, IsCleanApp, Says, app_at, says_generation}
use Rattle.deploy_laws.specs.Stands.{ChangesNothing, StandsCase, StandsThroughout}
use Rattle.deploy_rows.specs.Rows.{after}
use Rattle.deploy.specs.Clauses.{IsBesideNext}
use Rattle.deploy.specs.Filled.{filled_app}
use Rattle.deploy.specs.Roots.{RootAt, SaysDeployment, root_texts}
use Rattle.deploy.specs.declared.roots.Root.{Root}
use Rattle.run_model.specs.Lives.{LooksOnly}
use Rattle.run_model.specs.Moments.{OrBefore}
use Rattle.per_backup.specs.Backups.{made_from, restoring, taken}
use Rattle.per_backup.specs.declared.filling.Ready.{Ready}

-- the application between what it was and what is restored
abbrev pub restored_to : (app : ℕ) (manifest : List ℕ) (texts : List (List ℕ)) → Image → App
restored_to app manifest texts image = after (app_at image app) (restoring manifest texts (app_at image app))

-- Every moment of a restore, however it ends: each crash meanwhile may also leave what one before the call might have
-- left (`OrBefore`).
pub record RestoreKeeps (app : ℕ) (manifest : List ℕ) (texts : List (List ℕ)) (old new : Medium) : Type 0 where
  -- the application stands between what it was and what is restored
  pub stands : IsCleanApp app old.image → EachCase (OrBefore old (StandsCase app (app_at old.image app)
      (restored_to app manifest texts old.image))) old new
  -- only slots of its root and files of its bank 0 change, at the end and at any moment
  pub elsewhere : Spares (IsBesideNext app 0) old.image new.image
  pub outside : EachCase (OrBefore old (IsSettledOn (IsBesideNext app 0) old.image)) old new
  -- and where the restore is refused nothing changes
  pub refused : IsErr (restoring manifest texts (app_at old.image app)) → LooksOnly old new

-- The same of the calls after the sync with which a restore begins, where nothing is pending.
pub record RestoresSettled (app : ℕ) (manifest : List ℕ) (texts : List (List ℕ)) (old new : Medium) : Type 0 where
  pub stands : StandsThroughout app (restored_to app manifest texts old.image) old new
  pub elsewhere : Spares (IsBesideNext app 0) old.image new.image
  pub outside : Quiet old → EachCase (IsSettledOn (IsBesideNext app 0) old.image) old new
  pub refused : IsErr (restoring manifest texts (app_at old.image app)) → ChangesNothing old new

-- A restore that ended: the application is the one that is restored, or the same where it was refused.
pub record Restored (app : ℕ) (manifest : List ℕ) (texts : List (List ℕ)) (old new : Medium) : Type 0 where
  pub world : app_at new.image app ≡ restored_to app manifest texts old.image
  -- the places of what was restored are clean, whatever they were before, and those of the application stay so
  pub clean : IsOk (restoring manifest texts (app_at old.image app)) → IsCleanApp app new.image
  pub stays_clean : IsCleanApp app old.image → IsCleanApp app new.image

-- the root is one version's, with this manifest, byte for byte, unless the restore was refused
abbrev pub IfHeld : (told : Bool) → Image → (app : ℕ) (manifest : List ℕ) → (refused : Option PerError) → Type 0
IfHeld told image app manifest refused = refused ≡ None → (root : Root) × RootAt told image app root
    × (root_texts root ≡ manifest ∷ [])

-- ---- its parts

-- what the root says that a call saw: where the disk's bytes are modelled, what is on it
abbrev pub IsSaid : (told : Bool) → Image → ℕ → Says → Type 0
IsSaid told image app says = IsTrue told → says ≡ (app_at image app).says

-- nothing is installed, and a generation is left
abbrev pub IsFreeFor : (told : Bool) → Image → ℕ → Type 0
IsFreeFor told image app = (says : Says) × IsSaid told image app says × (taken says ≡ None)

-- a version with contents of its storages, as the manifest and the texts have them
pub record IsReadyToInstall (manifest : List ℕ) (texts : List (List ℕ)) (r : Ready) : Type 0 where
  pub version : SaysDeployment r.version
  pub fit : AllFit (map storage_data r.version.deployment.storages) r.contents.items
  pub row : (g : ℕ) → made_from manifest texts g ≡ Ok (filled_app g (deployment_data r.version.deployment)
      r.contents.items)

-- the application with what is ready
abbrev pub ready_app : Ready → (app : ℕ) → Image → App
ready_app r app image = filled_app (says_generation (app_at image app).says) (deployment_data r.version.deployment)
    r.contents.items
