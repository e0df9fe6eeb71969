-- What a command writes at most: how many bytes, and into which files.
use Rattle.std.specs.Prelude.{◌≡◌, ◌≤◌, ◌<◌, ◌⊎◌, ℕ, ◌+◌, ◌-◌, List, [], drop, take, Option, Some, None, Ok, Err}
use Rattle.std.specs.Prelude.{⊤}
use Rattle.std.specs.List.{AllByRecursion}
use Rattle.per_base.specs.declared.errors.PerError.{PerError}
use Rattle.disk_model.specs.Frame.{Spares}
use Rattle.disk_model.specs.Image.{Image}
use Rattle.disk_model.specs.Place.{IsNoSlot, IsOutside}
use Rattle.element_state.specs.declared.shapes.Shape.{Shape}
use Rattle.guarded_cell.specs.Register.{IsAlone}
use Rattle.command_text.specs.declared.calls.Call.{Call}
use Rattle.command_text.specs.declared.calls.Call.TheVariants as call
use Rattle.command_text.specs.declared.calls.Event.{Event}
use Rattle.command_text.specs.declared.calls.Event.TheVariants as event
use Rattle.deploy_laws.specs.Apps.{Says, nothing, absent, installed, says_at}
use Rattle.deploy_laws.specs.Places.{IsBeside, root_place, shapes_from}
use Rattle.deploy_rows.specs.Costs.{manifests_at, storages_said}
use Rattle.deploy_rows.specs.Rows.{BeginsUpdate, InProgress}
use Rattle.run_model.specs.Calls.{least_open}
use Rattle.run_model.specs.Converters.{Converters}
use Rattle.run_model.specs.Costs.{call_cost, opening_cost, update_cost}
use Rattle.run_model.specs.Found.{FoundStorage}
use Rattle.run_model.specs.Steps.{device_storage, found_named}
use Rattle.run_model.specs.Turns.{DiskBytes}
use Rattle.run_model.specs.Worlds.{Application, Stage, World, app_of, update_in, ApplicationAt, application_in}

-- ---- roots that need nothing

-- every copy of the application's root holds one text, and no other is held
pub record IsRootAlone (image : Image) (app : ℕ) : Type 0 where
  pub generation : ℕ
  pub text : List ℕ
  pub alone : IsAlone image (root_place app) generation text

-- an opening finds nothing to write: the root is held alone, or it is bad
abbrev pub NeedsNothing : Image → (app : ℕ) → Type 0
NeedsNothing image app = IsRootAlone image app ⊎ (says_at image app ≡ nothing)

-- the same of the roots of all eight
abbrev pub AreRootsAlone : Image → Type 0
AreRootsAlone image = (app : ℕ) → app < 8 → IsRootAlone image app

abbrev pub AllNeedNothing : Image → Type 0
AllNeedNothing image = (app : ℕ) → app < 8 → NeedsNothing image app

-- the file is a slot of the application's root
abbrev pub IsRootSlot : (app : ℕ) → ℕ → Type 0
IsRootSlot app file = ¬ (IsNoSlot (root_place app) file)

-- each root that needs nothing keeps its slots, whatever the others need
abbrev pub LeavesRoots : (old new : Image) → Type 0
LeavesRoots old new = (app : ℕ) → app < 8 → NeedsNothing old app → Spares (IsRootSlot app) old new

-- ---- bytes

-- an update writes nothing, or no more than it costs with the contents that it may begin with
abbrev pub CostsUpdate : Converters → ApplicationAt → (kept : List (List ℕ)) → List ℕ → (before after : ℕ) → Type 0
CostsUpdate converters at kept manifest before after = (after ≤ before)
    ⊎ ((p : InProgress) × BeginsUpdate converters.rules converters.answers at.now (least_open at.application) manifest
    at.application.disk (Ok p)
    × (after ≤ before + update_cost kept manifest p))

-- No more is written than a call costs, of an application whose root is open and keeps these manifests. What costs
-- nothing writes nothing.
abbrev pub CostsCall : Converters → ApplicationAt → (kept : List (List ℕ)) → Call → (before after : ℕ) → Type 0
CostsCall converters at kept (call.Update manifest) before after = CostsUpdate converters at kept manifest before
    after
CostsCall converters at kept other before after = after ≤ before + call_cost at.app at.now kept at.application other

-- ---- files

-- the file is in the place of none of these storages: no slot and no area of one
abbrev pub IsInNone : List Shape → ℕ → Type 0
IsInNone shapes file = AllByRecursion (λ (shape : Shape). IsOutside shape.place file) shapes

-- the bank in which the next version is made
abbrev pub next_bank : Says → ℕ
next_bank nothing = 0
next_bank (absent g) = 0
next_bank (installed g active previous) = 1 - active.bank

-- where the storages of an update in progress go that are not made yet, in this bank
abbrev pub unmade_shapes : (app bank : ℕ) → Option InProgress → List Shape
unmade_shapes app bank None = []
unmade_shapes app bank (Some p) = drop p.built (shapes_from app bank 0 p.deployment.storages)

-- the call names no storage, or one that is not found, or the file is none of those of the storage that it names
abbrev pub IsBesideFound : (app : ℕ) → Application → Call → ℕ → Type 0
IsBesideFound app r c file = (device_storage c ≡ None)
    ⊎ (((f : FoundStorage) × (found_named r c ≡ Some (Ok f)) × IsBeside app f.bank f.number file)
    ⊎ ((e : PerError) × (found_named r c ≡ Some (Err e))))

-- the file is in no place of a storage that the call makes or names
abbrev pub IsBesidePlaces : (app : ℕ) → Application → Call → ℕ → Type 0
IsBesidePlaces app r (call.Install manifest) file = IsInNone (shapes_from app 0 0 (storages_said manifest)) file
IsBesidePlaces app r (call.Update manifest) file =
    IsInNone (shapes_from app (next_bank r.disk.says) 0 (storages_said manifest)) file
IsBesidePlaces app r call.UpdateNext file =
    IsInNone (take 1 (unmade_shapes app (next_bank r.disk.says) (update_in r.stage))) file
IsBesidePlaces app r call.UpdateCommit file =
    IsInNone (unmade_shapes app (next_bank r.disk.says) (update_in r.stage)) file
IsBesidePlaces app r other file = IsBesideFound app r other file

-- the file is no slot of the root, and in no place of a storage that the call makes or names
abbrev pub IsBesideCall : (app : ℕ) → Application → Call → ℕ → Type 0
IsBesideCall app r c file = IsNoSlot (root_place app) file × IsBesidePlaces app r c file

-- ---- both

-- What a call on an application wrote, and which files it may have changed, also where its root was opened first: the
-- root may then have been written once for that, and is not where it needs nothing (`already`).
pub record IsCallWithin (converters : Converters) (at : ApplicationAt) (c : Call) (old new : DiskBytes) : Type 0 where
  pub costs : CostsCall converters at (manifests_at old.image at.app) c
      (old.written + opening_cost (manifests_at old.image at.app) at.application.stage) new.written
  pub already : NeedsNothing old.image at.app
      → CostsCall converters at (manifests_at old.image at.app) c old.written new.written
  pub files : Spares (IsBesideCall at.app at.application c) old.image new.image

-- the same of a command
abbrev pub IsCommandWithin : Converters → World → Event → (old new : DiskBytes) → Type 0
IsCommandWithin converters w (event.Now t) old new = ⊤
IsCommandWithin converters w (event.App app c) old new = IsCallWithin converters (application_in w app) c old new

-- ---- a refused command

-- Nothing but the opening of the root, where it is to be opened: no more is written than that costs, and nothing where
-- the root needs nothing; and no file changes but slots of the root.
pub record OpensAtMost (app : ℕ) (stage : Stage) (old new : DiskBytes) : Type 0 where
  pub costs : new.written ≤ old.written + opening_cost (manifests_at old.image app) stage
  pub already : NeedsNothing old.image app → new ≡ old
  pub files : Spares (IsNoSlot (root_place app)) old.image new.image

-- the same of a command's application
abbrev pub OnlyOpens : World → Event → (old new : DiskBytes) → Type 0
OnlyOpens w (event.Now t) old new = ⊤
OnlyOpens w (event.App app c) old new = OpensAtMost app (app_of w app).stage old new
