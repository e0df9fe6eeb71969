-- What the calls of a deployment have in common.
use Rattle.std.specs.Prelude.{◌≡◌, ℕ, Bool, IsTrue}
use Rattle.disk_model.specs.Medium.{EachCase, Medium, Quiet}
use Rattle.disk_model.specs.Frame.{IsSettledOn, Spares}
use Rattle.disk_model.specs.Place.{IsNoSlot}
use Rattle.deploy_laws.specs.Apps.{App, app_at, IsCleanApp}
use Rattle.deploy_laws.specs.Places.{IsOutsideBank, root_place}
use Rattle.deploy_laws.specs.Stands.{IsLater, StandsCase}

-- however the call ends, these files do not change, at the end and at any moment
pub record Leaves (told : Bool) (Files : ℕ → Type 0) (old new : Medium) : Type 0 where
  pub at_the_end : IsTrue told → Spares Files old.image new.image
  pub throughout : IsTrue told → Quiet old → EachCase (IsSettledOn Files old.image) old new

-- the file is none of the six slots of the root
abbrev pub IsNoRootSlot : ℕ → ℕ → Type 0
IsNoRootSlot app file = IsNoSlot (root_place app) file

-- the file is none that an install or an update in this bank writes: no slot of the root, and none of the bank
abbrev pub IsBesideNext : (app bank : ℕ) → ℕ → Type 0
IsBesideNext app bank file = IsNoRootSlot app file × IsOutsideBank app bank file

-- at every moment of calls that start with nothing pending and clean places the application stands between what it was
-- and any later state
abbrev pub StandsOnTheWay : ℕ → (old new : Medium) → Type 0
StandsOnTheWay app old new = Quiet old → IsCleanApp app old.image → (next : App) → IsLater (app_at old.image app) next
    → EachCase (StandsCase app (app_at old.image app) next) old new
