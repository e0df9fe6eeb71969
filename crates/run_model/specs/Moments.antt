-- What a stop at some moment leaves of an application, in one command and in a whole run.
use Rattle.std.specs.Prelude.{◌≡◌, ◌⊎◌, ℕ, List, [], ◌∷◌, Option, Some, None}
use Rattle.std.specs.List.{AllByRecursion}
use Rattle.disk_model.specs.Case.{Case}
use Rattle.disk_model.specs.Medium.{Medium, Quiet, EachCase}
use Rattle.disk_model.specs.Image.{Image}
use Rattle.deploy_laws.specs.Apps.{app_at, IsCleanApp}
use Rattle.deploy_laws.specs.Pieces.{IsSoundApp}
use Rattle.deploy_laws.specs.Stands.{StandsCase}
use Rattle.run_model.specs.Worlds.{Disks, Doubt, World, disks, disk_at}

-- ---- one moment

-- in this case, where it is sound, the application stands after each damage between what is on the disk before and
-- after
abbrev pub Between : ℕ → (before after : Disks) → Case → Type 0
Between app before after c = StandsCase app (disk_at before app) (disk_at after app) c

-- where there is a doubt, the application stands in this case between its two sides
abbrev pub InDoubt : ℕ → Option Doubt → Case → Type 0
InDoubt app None c = ⊥
InDoubt app (Some d) c = Between app d.before d.after c

-- there is a doubt
abbrev pub IsInDoubt : Option Doubt → Type 0
IsInDoubt None = ⊥
IsInDoubt (Some d) = Unit {0}

-- what reads gave after a command that failed has nothing of the application that passes its hash by chance
abbrev pub IsSoundDoubt : ℕ → Option Doubt → Type 0
IsSoundDoubt app None = Unit {0}
IsSoundDoubt app (Some d) = IsSoundApp app d.case

-- what reads gave after a command that failed stands between the two sides of its doubt
abbrev pub IsDecided : ℕ → Option Doubt → Type 0
IsDecided app None = Unit {0}
IsDecided app (Some d) = Between app d.before d.after d.case

-- ---- before a run

-- P holds of this case of a crash, or it is one that a crash before these calls, at `old`, might have left
abbrev pub OrBefore : Medium → (Case → Type 0) → Case → Type 0
OrBefore old P c = old.now c ⊎ P c

-- ---- one command

-- all is well with an application between two commands: its places are clean, and without a doubt nothing is pending
pub record IsReady (app : ℕ) (w : World) (m : Medium) : Type 0 where
  pub clean : IsCleanApp app m.image
  pub quiet : w.doubt ≡ None → Quiet m

-- a crash at some moment of a command: between what was there before it and after it; where its device failed, between
-- the sides of the doubt
abbrev pub AtMoment : ℕ → (before after : Disks) → (doubt : Option Doubt) → Case → Type 0
AtMoment app before after None c = Between app before after c
AtMoment app before after (Some d) c = Between app d.before d.after c

-- in a doubt it may also be one that might have come before the command
abbrev pub IsMoment : ℕ → (w : World) → (after : Disks) → (doubt : Option Doubt) → Medium → Case → Type 0
IsMoment app w after doubt old c = (IsInDoubt w.doubt × old.now c) ⊎ AtMoment app (disks w) after doubt c

-- A command that was answered, for an application with which all was well before it.
pub record KeepsApplication (app : ℕ) (w w' : World) (old new : Medium) : Type 0 where
  -- each crash since the command began leaves what one at some moment of it may leave (`IsMoment`)
  pub any_moment : EachCase (IsMoment app w (disks w') w'.doubt old) old new
  -- its places are clean, unless what reads gave after a failure passes a hash by chance
  pub clean : IsSoundDoubt app w'.doubt → IsCleanApp app new.image
  -- after it, in a doubt: one that stays has no new crash, and in one that is new each stands between its two sides
  pub calm : IsInDoubt w'.doubt → (c : Case) → new.now c → ((w'.doubt ≡ w.doubt) × old.now c) ⊎ InDoubt app w'.doubt c

-- a command from the world w to w' keeps the application, if its places were clean and, without a doubt, nothing
-- pending
abbrev pub StepKeeps : ℕ → (w w' : World) → (old new : Medium) → Type 0
StepKeeps app w w' old new = IsReady app w old → KeepsApplication app w w' old new

-- A command that was not answered: it is in progress, and leads to one world for every moment and every application.
abbrev pub StopKeeps : ℕ → (w : World) → (after : Disks) → (old new : Medium) → Type 0
StopKeeps app w after old new = IsReady app w old → EachCase (IsMoment app w after None old) old new

-- ---- a run

-- A crash at some moment of a run through these worlds, from w on, with `next` in progress after the last: the
-- application stands between two worlds that follow each other, or in the doubt of one of them.
abbrev pub IsMomentOf : ℕ → (w : World) → List World → (next : Disks) → Case → Type 0
IsMomentOf app w [] next c = Between app (disks w) next c ⊎ InDoubt app w.doubt c
IsMomentOf app w (v ∷ vs) next c = AtMoment app (disks w) (disks v) v.doubt c ⊎ IsMomentOf app v vs next c

-- A crash at some moment of the commands that were answered, through these worlds, from w on: the application stands
-- between two worlds that follow each other, or in the doubt of one of them.
abbrev pub IsPast : ℕ → (w : World) → List World → Case → Type 0
IsPast app w [] c = ⊥
IsPast app w (v ∷ vs) c = AtMoment app (disks w) (disks v) v.doubt c ⊎ IsPast app v vs c

-- the last of the worlds after w, or w where there is none
abbrev pub last_of : World → List World → World
last_of w [] = w
last_of w (v ∷ vs) = last_of v vs

-- the doubt of each of these worlds is sound (`IsSoundDoubt`)
abbrev pub AreSoundDoubts : ℕ → List World → Type 0
AreSoundDoubts app worlds = AllByRecursion (λ (w : World). IsSoundDoubt app w.doubt) worlds

-- the doubt of each of these worlds is decided (`IsDecided`)
abbrev pub AreDecided : ℕ → List World → Type 0
AreDecided app worlds = AllByRecursion (λ (w : World). IsDecided app w.doubt) worlds

-- ---- what applications came from

-- the application is what some image denotes
abbrev pub IsImaged : ℕ → Disks → Type 0
IsImaged app ds = (start : Image) × (disk_at ds app ≡ app_at start app)

-- what was on the disk before the command that left the doubt is what some image denotes
abbrev pub IsSideImaged : ℕ → Option Doubt → Type 0
IsSideImaged app None = Unit {0}
IsSideImaged app (Some d) = IsImaged app d.before

-- what a world has on the disk of the application, and what was there before the command that left its doubt, is what
-- some image denotes
abbrev pub IsWorldImaged : ℕ → World → Type 0
IsWorldImaged app w = IsImaged app (disks w) × IsSideImaged app w.doubt

-- each of these worlds is such (`IsWorldImaged`)
abbrev pub AreImaged : ℕ → List World → Type 0
AreImaged app worlds = AllByRecursion (λ (w : World). IsWorldImaged app w) worlds

-- The run so far, from a start that led from one world to another: each moment might have come before the run, or is
-- one of the start, or one of the commands; and all is well now.
pub record Stayed (app : ℕ) (entry w : World) (worlds : List World) (old new : Medium) : Type 0 where
  pub any_moment : EachCase (OrBefore old (λ c. Between app (disks entry) (disks w) c ⊎ IsPast app w worlds c)) old new
  pub ready : IsReady app (last_of w worlds) new
  pub calm : IsInDoubt (last_of w worlds).doubt → (c : Case) → new.now c → InDoubt app (last_of w worlds).doubt c
  pub decided : AreDecided app worlds
