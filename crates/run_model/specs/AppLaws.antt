-- What is known of applications, and what may come of each command, as the laws of a run take it.
use Rattle.std.specs.Prelude.{◌≡◌, ◌≤◌, ◌+◌, ℕ}
use Rattle.disk_model.specs.Frame.{Spares, IsSettledOn}
use Rattle.disk_model.specs.Medium.{Medium, Quiet, EachCase, Elapses}
use Rattle.disk_model.specs.Place.{IsNoSlot}
use Rattle.deploy_laws.specs.Places.{IsNoFileOf, root_place}
use Rattle.deploy_laws.specs.Apps.{App, app_at, IsCleanApp}
use Rattle.deploy_laws.specs.Stands.{StandsCase, IsLater}
use Rattle.deploy_laws.specs.Laws.{UntouchedAppLaw, StillAppLaw, OtherApplicationsLaw, OthersCaseLaw, StandsCleanLaw}
use Rattle.deploy_laws.specs.Laws.{RootMendLaw}
use Rattle.deploy_rows.specs.Costs.{manifests_at, root_cost}
use Rattle.deploy_rows.specs.Laws.{ManifestsFrameLaw}
use Rattle.deploy_rows.specs.Rows.{reopened}
use Rattle.run_model.specs.Turns.{bytes_now}
use Rattle.run_model.specs.Worlds.{Disks, disk_at}
use Rattle.run_model.specs.Writes.{NeedsNothing}

-- the laws of applications that a run relies on
pub record AppLaws : Type 0 where
  -- one of which no file is touched stands as it was, also on its way to whatever may come of it
  pub untouched : UntouchedAppLaw
  pub still : StillAppLaw
  -- one stays as it was where only another's files change, and where all but those are settled its own are
  pub others : OtherApplicationsLaw
  pub others_case : OthersCaseLaw
  -- what stands with nothing damaged has clean places
  pub clean : StandsCleanLaw
  -- copies that lack the root matter to nothing but whether two are left
  pub mend : RootMendLaw
  -- which manifests a root keeps stays where no file of its application changes
  pub manifests : ManifestsFrameLaw

-- the image denotes what the world says of an application
abbrev pub IsDiskOf : ℕ → Disks → Medium → Type 0
IsDiskOf app ds m = app_at m.image app ≡ disk_at ds app

-- What a call on application a promises of the files of all: each moment stands between what was and what the call
-- leads to, and no file of another application changes, at the end and at any moment.
pub record Calls (a : ℕ) (after : Disks) (old new : Medium) : Type 0 where
  pub any_moment : Quiet old → IsCleanApp a old.image → EachCase (StandsCase a (app_at old.image a) (disk_at after a))
      old new
  pub outside : Quiet old → EachCase (IsSettledOn (IsNoFileOf a) old.image) old new
  pub elsewhere : Spares (IsNoFileOf a) old.image new.image

-- What the opening of a root promises: the application is the one with its root mended, and at every moment it stands
-- between what it was and any later state; the root keeps its manifests, and is written once, or not at all where it
-- needs nothing.
pub record OpensRoot (a : ℕ) (old new : Medium) : Type 0 where
  pub app : app_at new.image a ≡ reopened (app_at old.image a)
  pub any_moment : Quiet old → IsCleanApp a old.image → (after : App) → IsLater (app_at old.image a) after
      → EachCase (StandsCase a (app_at old.image a) after) old new
  pub outside : Quiet old → EachCase (IsSettledOn (IsNoFileOf a) old.image) old new
  pub elsewhere : Spares (IsNoFileOf a) old.image new.image
  -- and of its own none but slots of the root
  pub slots : Spares (IsNoSlot (root_place a)) old.image new.image
  pub manifests : manifests_at new.image a ≡ manifests_at old.image a
  pub written : new.written ≤ old.written + root_cost (manifests_at old.image a)
  pub already : NeedsNothing old.image a → bytes_now new ≡ bytes_now old
  pub clean : IsCleanApp a old.image → IsCleanApp a new.image
  pub quiet : Quiet new
  pub time : Elapses old new
