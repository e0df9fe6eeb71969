-- What is so of each world of a run, between one command and the next.
use Rattle.std.specs.Prelude.{◌≡◌, ◌≤◌, ◌+◌, ℕ, zero, suc, List, [], ◌∷◌, length, map, replicate, Option, Some, None, ⊤}
use Rattle.std.specs.List.{AllByRecursion}
use Rattle.std.proofs.Common.{refl}
use Rattle.per_base.specs.declared.elements.StoreKind.{StoreKind}
use Rattle.per_base.specs.declared.elements.StoreKind.TheVariants as kinds
use Rattle.disk_model.specs.Image.{Image}
use Rattle.deployment_model.specs.Data.{StorageData}
use Rattle.element_state.specs.States.{State, Opens}
use Rattle.deploy_laws.specs.Apps.{Says, installed, App, app_at}
use Rattle.deploy_rows.specs.Rows.{reopened}
use Rattle.run_model.specs.Calls.{active_storages}
use Rattle.run_model.specs.Sessions.{Session, keys, files, seen_in}
use Rattle.run_model.specs.Worlds.{Application, Stage, to_open, at_rest, updating, Sessions, none_open, World, resting}
use Rattle.run_model.specs.Worlds.{all_resting, world_at, after_start}

-- Where a storage is open, its synchronised map is what is seen of the state, which opens and beside which no other
-- text is held.
abbrev pub IsSessionOn : Option Session → StoreKind → State → Type 0
IsSessionOn None kind state = ⊤
IsSessionOn (Some (keys s)) kinds.Keys (Opens v []) = s.synced ≡ seen_in kinds.Keys v
IsSessionOn (Some (files s)) kinds.Files (Opens v []) = s.synced ≡ seen_in kinds.Files v
IsSessionOn (Some s) kind state = ⊥

-- storage by storage; none is open beyond those of the active version
abbrev pub AreSessionsOn : Sessions → List StorageData → List State → Type 0
AreSessionsOn [] storages states = ⊤
AreSessionsOn (s ∷ ss) [] states = (s ≡ None) × AreSessionsOn ss [] states
AreSessionsOn (s ∷ ss) (c ∷ cs) [] = (s ≡ None) × AreSessionsOn ss cs []
AreSessionsOn (s ∷ ss) (c ∷ cs) (state ∷ states) = IsSessionOn s c.kind state × AreSessionsOn ss cs states

-- An update is in progress only where one version is installed, with contents for each storage of the next one; and no
-- storage is open meanwhile, nor while a root is to be opened.
abbrev pub IsStageOn : Stage → Says → Sessions → Type 0
IsStageOn at_rest says ss = ⊤
IsStageOn to_open says ss = ss ≡ none_open
IsStageOn (updating p) (installed g active None) ss = (ss ≡ none_open)
    × (length p.contents ≡ length p.deployment.storages) × (p.built ≤ length p.contents)
IsStageOn (updating p) says ss = ⊥

-- What holds of an application in every world: each open session is one of its storage, and the stage fits.
pub record IsApplication (a : Application) : Type 0 where
  -- there is room for sixteen
  pub room : length a.sessions ≡ 16
  pub sessions : AreSessionsOn a.sessions (active_storages a.disk.says) a.disk.states
  pub stage : IsStageOn a.stage a.disk.says a.sessions

-- What holds of every world: it has eight applications, and this holds of each.
pub record IsWorld (w : World) : Type 0 where
  pub eight : length w.apps ≡ 8
  pub each : AllByRecursion IsApplication w.apps

-- ---- the world in which a run starts

pub none_on : (count : ℕ) (storages : List StorageData) (states : List State)
    → AreSessionsOn (replicate {A = Option Session} count None) storages states
none_on zero storages states = tt
none_on (suc count) [] states = (refl, none_on count [] states)
none_on (suc count) (c ∷ cs) [] = (refl, none_on count cs [])
none_on (suc count) (c ∷ cs) (state ∷ states) = (tt, none_on count cs states)

pub rests_so : (a : App) → IsApplication (resting a)
rests_so a = record { room = refl; sessions = none_on 16 (active_storages a.says) a.states; stage = tt }

all_rest_so : (disk : ℕ → App) (app count : ℕ)
    → AllByRecursion IsApplication (map (λ (a : Application). record a { disk = reopened a.disk })
    (all_resting disk app count))
all_rest_so disk app zero = tt
all_rest_so disk app (suc count) = (rests_so (reopened (disk app)), all_rest_so disk (app + 1) count)

pub starts_so : (image : Image) → IsWorld (after_start (world_at image))
unfolding world_at
starts_so image = record { eight = refl; each = all_rest_so (app_at image) 0 8 }
