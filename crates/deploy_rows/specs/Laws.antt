-- What the rows of all calls have in common: the statements of the laws.
use Rattle.std.specs.Prelude.{◌≡◌, ◌<◌, ℕ, List, [], Option, Some, Result, Ok, Err}
use Rattle.per_base.specs.declared.errors.PerError.{PerError}
use Rattle.per_base.specs.declared.errors.PerError.TheVariants as error
use Rattle.disk_model.specs.Frame.{Spares}
use Rattle.disk_model.specs.Image.{Image}
use Rattle.manifest.specs.Reading.{broken_rule}
use Rattle.deploy_laws.specs.Apps.{App, absent, says_at}
use Rattle.deploy_laws.specs.Places.{IsFileOf}
use Rattle.deploy_laws.specs.Stands.{IsLater}
use Rattle.deploy_rows.specs.Costs.{manifests_at}
use Rattle.deploy_rows.specs.Rows.{InProgress, deployment_of, installing, finishing, rolling_back, wiping, updated_app}
use Rattle.deploy_rows.specs.Rows.{reopened, after}

-- ---- what a row leads to comes later

-- `IsLater a b`: the root of b has a greater generation, or says the same of as many storages. a is the application
-- before the call, and b the one after it.

-- where an install of this manifest at the moment now is not refused, what it makes comes later
abbrev pub InstallLaterLaw : Type 0
InstallLaterLaw = (now : ℕ) (text : List ℕ) (a b : App) → installing now text a ≡ Ok b → IsLater a b

-- where a finish, which forgets the previous version, is not refused, what it makes comes later
abbrev pub FinishLaterLaw : Type 0
FinishLaterLaw = (a b : App) → finishing a ≡ Ok b → IsLater a b

-- where a rollback to the previous version is not refused, what it makes comes later; busy is the name of an open
-- storage, if one is open
abbrev pub RollbackLaterLaw : Type 0
RollbackLaterLaw = (busy : Option (List ℕ)) (a b : App) → rolling_back busy a ≡ Ok b → IsLater a b

-- where a wipe, after which nothing is installed, is not refused, what it makes comes later; busy as for a rollback
abbrev pub WipeLaterLaw : Type 0
WipeLaterLaw = (busy : Option (List ℕ)) (a b : App) → wiping busy a ≡ Ok b → IsLater a b

-- the application with this update in progress committed comes later
abbrev pub UpdateLaterLaw : Type 0
UpdateLaterLaw = (p : InProgress) (a : App) → IsLater a (updated_app p a)

-- the application once its root is opened again comes later: every copy then has the root
abbrev pub ReopenedLaterLaw : Type 0
ReopenedLaterLaw = (a : App) → IsLater a (reopened a)

-- ---- manifests

-- a manifest, a text, from which no deployment can be read violates a rule, and is rejected with the number of the
-- first one that it violates
abbrev pub RejectedLaw : Type 0
RejectedLaw = (text : List ℕ) (e : PerError) → deployment_of text ≡ Err e
    → (rule : ℕ) × (broken_rule text ≡ Some rule) × (e ≡ error.ManifestRejected rule)

-- the manifests that a root keeps stay where no file of its application changes
abbrev pub ManifestsFrameLaw : Type 0
ManifestsFrameLaw = (app : ℕ) (old new : Image) → app < 8 → Spares (IsFileOf app) old new
    → manifests_at new app ≡ manifests_at old app

-- a root that says that nothing is installed keeps none
abbrev pub NoManifestsLaw : Type 0
NoManifestsLaw = (image : Image) (app generation : ℕ) → says_at image app ≡ absent generation
    → manifests_at image app ≡ []

-- ---- a row refuses by what the root says alone: what is in memory of a root decides it

-- a row is what a call makes of an application, or why it is refused: where two roots say the same, what the row
-- refuses of one application it refuses alike of the other
abbrev pub RefusesAlike : {A : Type 0} → (App → Result A PerError) → Type 0
RefusesAlike row = (a b : App) (e : PerError) → a.says ≡ b.says → row a ≡ Err e → row b ≡ Err e

-- where two roots say the same, the roots after the call do so too
abbrev pub SaysAlike : (App → Result App PerError) → Type 0
SaysAlike row = (a b : App) → a.says ≡ b.says → (after a (row a)).says ≡ (after b (row b)).says
