-- A closed storage that is to be rebuilt, as it is found by its name.
use Rattle.std.specs.Prelude.{◌≡◌, ℕ, List, None, Result, Ok, Err}
use Rattle.per_base.specs.declared.errors.PerError.{PerError}
use Rattle.per_base.specs.Refusals.{NeedsMemory}
use Rattle.disk_model.specs.Image.{Image}
use Rattle.element_state.specs.States.{State}
use Rattle.deploy_laws.specs.Apps.{app_at}
use Rattle.deploy.specs.declared.roots.Root.{Root}
use Rattle.deploy.specs.Roots.{IsRootOn, root_says}
use Rattle.run_model.specs.Calls.{rebuild_step}
use Rattle.run_model.specs.Found.{FoundStorage, storage_in}
use Rattle.per_runtime.specs.storages.Finding.{IsEarly, IsLocated, found_on}
use Rattle.per_runtime.specs.storages.Slots.{resting_with, slot_at}
use Rattle.per_runtime.specs.declared.storages.finding.Located.{Located}
use Rattle.per_runtime.specs.declared.storages.slots.OpenSlots.{OpenSlots}

-- a storage of the active version of this name, which is not open
pub record IsClosed (app : ℕ) (root : Root) (name : List ℕ) (slots : OpenSlots) (l : Located) : Type 0 where
  pub located : IsLocated app (root_says root) l
  pub named : (image : Image) → IsRootOn image app root
      → storage_in (app_at image app) name None ≡ Ok (found_on image l)
  pub free : slot_at slots l.number ≡ None

-- whatever is to be made of it, this is the refusal
pub record IsNoneClosed (app : ℕ) (root : Root) (name : List ℕ) (slots : OpenSlots) (e : PerError) : Type 0 where
  pub early : IsEarly e
  pub row : (image : Image) → IsRootOn image app root → (state_of : FoundStorage → Result State PerError)
      → rebuild_step (resting_with image app slots) name state_of ≡ Err e

-- whatever is to be made of it, it is refused because it is open, which its name says
abbrev pub NamesOpen : (app : ℕ) → Root → (name : List ℕ) → OpenSlots → Type 0
NamesOpen app root name slots = (image : Image) → IsRootOn image app root
    → (state_of : FoundStorage → Result State PerError)
    → NeedsMemory (rebuild_step (resting_with image app slots) name state_of)
