-- The world: the moment, eight applications with their open storages, and a doubt.
use Rattle.std.specs.Prelude.{ℕ, zero, suc, ◌+◌, List, [], ◌∷◌, map, replicate, Bool, true, false, Option, Some, None}
use Rattle.std.specs.Prelude.{slice_get, slice_set}
use Rattle.disk_model.specs.Image.{Image}
use Rattle.disk_model.specs.Case.{Case}
use Rattle.deploy_laws.specs.Apps.{App, nothing, app_at}
use Rattle.deploy_rows.specs.Rows.{reopened, empty_app, InProgress}
use Rattle.run_model.specs.Sessions.{Session}

-- the root of an application is to be opened again; or nothing is going on; or an update is in progress
pub data Stage : Type 0 where
  to_open : Stage
  at_rest : Stage
  updating : InProgress → Stage

-- whether the root is to be opened before anything else
abbrev pub is_to_open : Stage → Bool
is_to_open to_open = true
is_to_open at_rest = false
is_to_open (updating p) = false

-- the update in progress, where one is
abbrev pub update_in : Stage → Option InProgress
update_in to_open = None
update_in at_rest = None
update_in (updating p) = Some p

-- of each storage of the active version, by its number, the session where it is open; there is room for sixteen
abbrev pub Sessions : Type 0
Sessions = List (Option Session)

-- no storage is open
abbrev pub none_open : Sessions
none_open = replicate 16 None

-- an application: what is on the disk, its stage, and the sessions of its open storages
pub record Application : Type 0 where
  pub disk : App
  pub stage : Stage
  pub sessions : Sessions

-- what is on the disk, application by application
abbrev pub Disks : Type 0
Disks = List App

-- A command failed at the device, and nobody knows how much of it was done: what was on the disk before it, what it
-- leads to, and a case of the disk after it, whose image is what reads then gave.
pub record Doubt : Type 0 where
  pub before : Disks
  pub after : Disks
  pub case : Case

-- the moment in seconds, the applications, and what a command may have left undecided
pub record World : Type 0 where
  pub now : ℕ
  pub apps : List Application
  -- until the disk is synchronised again
  pub doubt : Option Doubt

-- what is on the disk of each application
abbrev pub disks : World → Disks
disks w = map (λ (a : Application). a.disk) w.apps

-- an application of which the disk says nothing
abbrev pub no_app : App
no_app = record { says = nothing; lacking = []; states = [] }

-- an application, or one of which the disk says nothing
abbrev pub or_none : Option App → App
or_none None = no_app
or_none (Some a) = a

-- what is on the disk of an application
abbrev pub disk_at : Disks → ℕ → App
disk_at ds app = or_none (slice_get ds app)

-- nothing is open, and nothing is going on
abbrev pub resting : App → Application
resting a = record { disk = a; stage = at_rest; sessions = none_open }

-- an application, or one of which the disk says nothing and nothing is open
abbrev pub or_idle : Option Application → Application
or_idle None = resting no_app
or_idle (Some a) = a

-- the application of this number in a world
abbrev pub app_of : World → ℕ → Application
app_of w app = or_idle (slice_get w.apps app)

-- an application at one moment: its number, the moment in seconds, and what it is then
pub record ApplicationAt : Type 0 where
  pub app : ℕ
  pub now : ℕ
  pub application : Application

abbrev pub application_at : (app now : ℕ) → Application → ApplicationAt
application_at app now r = record { app = app; now = now; application = r }

-- the application of this number, at the moment of the world
abbrev pub application_in : World → ℕ → ApplicationAt
application_in w app = application_at app w.now (app_of w app)

-- the world with this application under this number
abbrev pub with_app : World → ℕ → Application → World
with_app w app a = record w { apps = slice_set w.apps app a }

-- the world with no doubt
abbrev pub without_doubt : World → World
without_doubt w = record w { doubt = None }

-- ---- where worlds begin and end

-- that many applications, from this number on, each with what is on its disk and nothing open
abbrev pub all_resting : (ℕ → App) → (app count : ℕ) → List Application
all_resting disk app zero = []
all_resting disk app (suc count) = resting (disk app) ∷ all_resting disk (app + 1) count

-- the world that an image denotes
unfoldable pub world_at : Image → World
world_at image = record { now = 0; apps = all_resting (app_at image) 0 8; doubt = None }

-- what is left of a world at the end of a run
abbrev pub after_run : World → World
after_run w = record { now = 0; apps = map (λ (a : Application). resting a.disk) w.apps; doubt = None }

-- the start opens each root: one that is not bad lacks no copy any more
abbrev pub after_start : World → World
after_start w = record w { apps = map (λ (a : Application). record a { disk = reopened a.disk }) w.apps }

-- eight applications of which nothing is installed
abbrev pub formatted : World
formatted = record { now = 0; apps = replicate 8 (resting (empty_app 1)); doubt = None }
