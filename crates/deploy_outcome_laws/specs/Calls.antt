-- What no call of a deployment does or answers, beside the clause that excludes it: one statement for each mistake. `g`
-- is a generation, `o` how a call ended, `c` a case of a crash, and `busy` the name of a storage that is open, if any.
use Rattle.std.specs.Prelude.{◌≡◌, ◌≢◌, ℕ, ◌<◌, List, Option, Some, None, Result, Err, Bool, IsTrue, IsOk, IsErrOf}
use Rattle.std.specs.Prelude.{length, slice_get, [], ◌∷◌}
use Rattle.per_base.specs.declared.errors.PerError.{PerError}
use Rattle.disk_model.specs.Image.{Image}
use Rattle.disk_model.specs.Case.{Case}
use Rattle.disk_model.specs.Medium.{Medium, Quiet}
use Rattle.guarded_cell.specs.Register.{IsAlone}
use Rattle.element_state.specs.declared.shapes.Shape.{Shape}
use Rattle.element_state.specs.Kept.{Kept}
use Rattle.element_state.specs.States.{State, store_at}
use Rattle.migrate_fns.specs.Rules.{Rule}
use Rattle.migrate_fns.specs.Rules as fns
use Rattle.deploy_laws.specs.Apps.{App, installed, app_at, says_at, shapes_named, IsCleanApp}
use Rattle.deploy_laws.specs.Pieces.{IsSoundApp, DecaysApp}
use Rattle.deploy_laws.specs.Places.{Named, root_place, storage_file}
use Rattle.deploy_laws.specs.Stands.{StandsThroughout}
use Rattle.deploy_rows.specs.Rows.{InProgress, BeginsUpdate, offered, one_more}
use Rattle.deploy.specs.declared.errors.Stop.{Stop}
use Rattle.deploy.specs.declared.errors.Stop.TheVariants as stop
use Rattle.deploy.specs.declared.roots.Outcome.{Outcome}
use Rattle.deploy.specs.declared.roots.Root.{Root}
use Rattle.deploy.specs.declared.updating.Begin.{Begin}
use Rattle.deploy.specs.Clauses.{IsNoRootSlot, Leaves}
use Rattle.deploy.specs.Refusals.{AllocatesNothing}
use Rattle.deploy.specs.Remaining.{IsBesideCommit}
use Rattle.deploy.specs.Roots.{root_app, root_says}
use Rattle.deploy.specs.Updates.{IsUpdated}

-- the file is another one than on this image
abbrev pub Differs : ℕ → Image → Image → Type 0
Differs file start image = ¬ (image file ≡ start file)

-- an update beside a previous version is answered by OutOfMemory instead of its refusal
abbrev pub DueAllocates : Type 0
DueAllocates = (busy : Option (List ℕ)) (manifest : List ℕ) (g : ℕ) (active previous : Named) (root : Root)
    (result : Result Begin Stop)
    → ((e : PerError) → offered busy manifest (root_app root []) ≡ Err e → AllocatesNothing e → IsOk result)
    → root_says root ≡ installed g active (Some previous) → ¬ (IsErrOf result stop.OutOfMemory)

-- an update beside a previous version is answered as done
abbrev pub RefusedDone : List Rule → fns.Answers → Type 0
RefusedDone rules answers = (told : Bool) (now : ℕ) (busy : Option (List ℕ))
    (manifest : List ℕ) (app g : ℕ) (old new : Image) (active previous : Named) (root : Root) (o : Outcome)
    → IsUpdated told (BeginsUpdate rules answers now busy manifest) app old new root o
    → root_says root ≡ installed g active (Some previous) → ¬ (o.refused ≡ None)

-- a step makes a storage, and counts it as not made
abbrev pub MadeTwice : Type 0
MadeTwice = (before next : InProgress) → next ≡ one_more before → before.built < length before.contents
    → ¬ (next.built ≡ before.built)

-- ---- what changes on a disk, from a call's start to its end

module _ {D : Type 0} (medium : D → Medium) where
  -- an opening writes again a root that every copy holds alone
  abbrev pub RootStamped : Type 0
  RootStamped = (app generation : ℕ) (text : List ℕ) (old new : D)
      → ((g : ℕ) (t : List ℕ) → IsAlone (medium old).image (root_place app) g t
      → ((medium new).image ≡ (medium old).image) × ((medium new).written ≡ (medium old).written))
      → IsAlone (medium old).image (root_place app) generation text → ¬ ((medium old).written < (medium new).written)

  -- a look mends a copy of the root
  abbrev pub LookMends : Type 0
  LookMends = (app copy : ℕ) (rest : List ℕ) (old new : D) → (medium new).image ≡ (medium old).image
      → (app_at (medium old).image app).lacking ≡ copy ∷ rest → ¬ ((app_at (medium new).image app).lacking ≡ [])

  -- a call that is refused has written
  abbrev pub RefusalWrote : Type 0
  RefusalWrote = (file : ℕ) (root : Root) (o : Outcome) (e : PerError) (old new : D)
      → (o.refused ≢ None → (new ≡ old) × (o.root ≡ root)) → o.refused ≡ Some e
      → ¬ (Differs file (medium old).image (medium new).image)

  -- a commit creates again a storage that is made already: at some moment one of its files has changed
  abbrev pub MadeAgain : Type 0
  MadeAgain = (told : Bool) (app bank built count file : ℕ) (old new : D) (c : Case)
      → Leaves told (IsBesideCommit app bank built count) (medium old) (medium new) → IsTrue told
      → Quiet (medium old) → (medium new).since (medium old).moment c → IsNoRootSlot app file
      → file < storage_file app bank built → ¬ (Differs file (medium old).image c.full)

  -- the root comes before its storages: at some moment it says the next version, and a storage of it is not as it is
  -- made
  abbrev pub RootFirst : Type 0
  RootFirst = (app number : ℕ) (next : App) (old new : D) (c : Case) (damaged : List ℕ) (image : Image)
      (shape : Shape) (state : State)
      → StandsThroughout app next (medium old) (medium new) → Quiet (medium old)
      → IsCleanApp app (medium old).image → (medium new).since (medium old).moment c
      → IsSoundApp app c → DecaysApp app damaged c.left image
      → slice_get (shapes_named app next.says) number ≡ Some shape → slice_get next.states number ≡ Some state
      → ¬ (Kept shape damaged (store_at image shape) state state)
      → ¬ (next.says ≡ (app_at (medium old).image app).says) → ¬ (says_at image app ≡ next.says)
