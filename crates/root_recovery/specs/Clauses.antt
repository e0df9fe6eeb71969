-- What a recovery promises.
use Rattle.std.specs.Prelude.{◌≡◌, ◌⊎◌, ℕ}
use Rattle.disk_model.specs.Case.{IsSettledAt}
use Rattle.disk_model.specs.Frame.{IsSettledOn, Spares}
use Rattle.disk_model.specs.Image.{Image}
use Rattle.disk_model.specs.Medium.{EachCase, Medium, Quiet}
use Rattle.disk_model.specs.Place.{IsNoSlot}
use Rattle.deploy_laws.specs.Apps.{AreClean, IsCleanApp, app_at, shapes_named}
use Rattle.deploy_laws.specs.Places.{root_place}
use Rattle.deploy_laws.specs.Stands.{StandsCase, StandsThroughout}
use Rattle.root_recovery.specs.Recoveries.{IsHeldByAll, RootRow, after_recovery, recovery_at}

-- the places of the storages that the application has after a recovery are clean
abbrev pub AreCleanAfter : Image → ℕ → Type 0
AreCleanAfter image app = AreClean image (shapes_named app (after_recovery image app).says)

-- A recovery that ended.
pub record IsRecovered (app : ℕ) (row : RootRow) (old new : Image) : Type 0 where
  -- which root was taken, or why none was; and the application afterwards
  pub row_is : row ≡ recovery_at old app
  pub world : app_at new app ≡ after_recovery old app
  -- a root that was taken is held by every copy, and no slot holds anything else
  pub held : IsHeldByAll new app row
  pub clean : IsCleanApp app old → AreCleanAfter old app → IsCleanApp app new

-- Every moment of a recovery, however it ends. Each case `c` of a crash meanwhile may also be one that a crash before
-- the call might have left (`old.now c`).
pub record RecoveryKeeps (app : ℕ) (old new : Medium) : Type 0 where
  -- only slots of the root change, at the end and at any moment
  pub elsewhere : Spares (IsNoSlot (root_place app)) old.image new.image
  pub outside : EachCase (λ c. old.now c ⊎ IsSettledOn (IsNoSlot (root_place app)) old.image c) old new
  -- the application is as unreadable as it was, or recovered
  pub stands : IsCleanApp app old.image → AreCleanAfter old.image app
      → EachCase (λ c. old.now c ⊎ StandsCase app (app_at old.image app) (after_recovery old.image app) c) old new

-- A recovery that took no root: nothing is changed, and a crash meanwhile leaves what reads give, or what one before it
-- might have left.
pub record LeavesAll (old new : Medium) : Type 0 where
  pub image : new.image ≡ old.image
  pub written : new.written ≡ old.written
  pub during : EachCase (λ c. old.now c ⊎ IsSettledAt old.image c) old new

-- ---- the same of the calls after the sync with which a recovery begins, where nothing is pending

-- only slots of the root change, and the application is as it was or recovered, as in `RecoveryKeeps`
pub record RecoveryKeepsSynced (app : ℕ) (old new : Medium) : Type 0 where
  pub elsewhere : Spares (IsNoSlot (root_place app)) old.image new.image
  pub outside : Quiet old → EachCase (IsSettledOn (IsNoSlot (root_place app)) old.image) old new
  pub stands : AreCleanAfter old.image app → StandsThroughout app (after_recovery old.image app) old new
