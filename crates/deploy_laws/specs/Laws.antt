-- What an image says of an application, and what a stop at each moment of a call, and then damage, leave of it: the
-- statements of the laws. `g` is a generation, `start` the image at which a call began, `c` a case of a crash, and
-- `after` what the application was on its way to. `image` is any image, hostile ones included, or in the laws of stops
-- what reads give after a crash and damage.
-- A text is held alone where each copy of the root holds it and no copy another one (`IsAlone`). Files that are spared
-- do not change (`Spares`), and with a case that settles them nothing in them is pending (`IsSettledOn`).
use Rattle.std.specs.Prelude.{◌≡◌, ℕ, ◌+◌, ◌<◌, ◌≤◌, List, [], map, Contains, Option, Some, slice_get, slice_set}
use Rattle.disk_model.specs.Image.{Image}
use Rattle.disk_model.specs.Case.{Case}
use Rattle.disk_model.specs.Damage.{DecaysFor}
use Rattle.disk_model.specs.Frame.{IsSettledOn, Spares}
use Rattle.disk_model.specs.Place.{IsNoSlot, IsOutside}
use Rattle.guarded_cell.specs.declared.looking.Seen.{Seen}
use Rattle.guarded_cell.specs.Held.{standing}
use Rattle.guarded_cell.specs.Register.{IsAlone}
use Rattle.guarded_cell.specs.Stops.{PutStops, FormatStops}
use Rattle.deployment_model.specs.Data.{StorageData}
use Rattle.element_state.specs.declared.shapes.Shape.{Shape}
use Rattle.element_state.specs.Clean.{IsPiece, IsSound, IsClean}
use Rattle.element_state.specs.Kept.{IsKeptMending}
use Rattle.element_state.specs.States.{State, store_at}
use Rattle.element_laws.specs.Phases.{IsOfPlace}
use Rattle.root_text.specs.RootText.{Root, root_of}
use Rattle.root_text.specs.RootText as text
use Rattle.deploy_laws.specs.Places.{Named, root_place, first_file, storage_file, storage_shape, shapes_in, IsFileOf}
use Rattle.deploy_laws.specs.Places.{IsNoFileOf, IsNoRootFile, IsBeside, IsOutsideBank, agreeing_of_root}
use Rattle.deploy_laws.specs.Apps.{Says, nothing, absent, installed, App, says_by, says_at, app_at, app_saying}
use Rattle.deploy_laws.specs.Apps.{shapes_named, AreVersions, IsFree, AreClean, AreOn, IsCleanApp}
use Rattle.deploy_laws.specs.Pieces.{IsSoundApp, DecaysApp}
use Rattle.deploy_laws.specs.Stands.{Stands, StandsCase, IsLater, HasEnoughRoot}

-- ---- what a root says

-- on every image, hostile ones included, each version that a root names is in its bank and obeys the rules of
-- deployments
abbrev pub VersionsLaw : Type 0
VersionsLaw = (image : Image) (app : ℕ) → AreVersions (says_at image app)

-- a text that is held alone stays so while none of the root's files changes
abbrev pub AloneFrameLaw : Type 0
AloneFrameLaw = (app g : ℕ) (text : List ℕ) (old new : Image) → Spares (IsOfPlace (root_place app)) old new
    → IsAlone old (root_place app) g text → IsAlone new (root_place app) g text

-- what a root says depends on the files of its place alone
abbrev pub SaysFrameLaw : Type 0
SaysFrameLaw = (app : ℕ) (old new : Image) → Spares (IsOfPlace (root_place app)) old new
    → says_at new app ≡ says_at old app

-- the storage at a place of a version's list has that place as its number
abbrev pub NumberLaw : Type 0
NumberLaw = (app number : ℕ) (v : Named) (s : StorageData) → slice_get v.deployment.storages number ≡ Some s
    → slice_get (shapes_in app v) number ≡ Some (storage_shape app v.bank number s)

-- where a root's text is held alone, the application is what it says
abbrev pub AloneLaw : Type 0
AloneLaw = (app g : ℕ) (text : List ℕ) (image : Image) → IsAlone image (root_place app) g text
    → app_at image app ≡ app_saying image app (says_by g (root_of text))

-- where a root's text is held alone, the application's places are clean if those that the text names are
abbrev pub AloneCleanLaw : Type 0
AloneCleanLaw = (app g : ℕ) (text : List ℕ) (root : Root) (image : Image)
    → IsAlone image (root_place app) g text → root_of text ≡ Some root
    → AreClean image (shapes_named app (says_by g (Some root))) → IsCleanApp app image

-- ---- files

-- the root's place has no file beyond the first 12 of its application
abbrev pub RootFilesLaw : Type 0
RootFilesLaw = (app file : ℕ) → app < 8 → IsOfPlace (root_place app) file
    → (first_file app ≤ file) × (file < first_file app + 12)

-- the place of a storage has no file beyond its 32; a bank has at most 16 storages
abbrev pub StorageFilesLaw : Type 0
StorageFilesLaw = (app bank number file : ℕ) (s : StorageData) → app < 8 → bank ≤ 1 → number < 16
    → IsOfPlace (storage_shape app bank number s).place file
    → (storage_file app bank number ≤ file) × (file < storage_file app bank number + 32)

-- a file that is not among the root's is no slot of it
abbrev pub RootSlotsLaw : Type 0
RootSlotsLaw = (app file : ℕ) → app < 8 → IsNoRootFile app file → IsNoSlot (root_place app) file

-- a file beside those of a storage is outside its place
abbrev pub BesideLaw : Type 0
BesideLaw = (app bank number file : ℕ) (s : StorageData) → app < 8 → bank ≤ 1 → number < 16
    → IsBeside app bank number file
    → IsOutside (storage_shape app bank number s).place file

-- where files of the root alone change, each storage that a root may name is as it was
abbrev pub RootAloneLaw : Type 0
RootAloneLaw = (app : ℕ) (says : Says) (old new : Image) → app < 8 → AreVersions says
    → Spares (IsNoRootFile app) old new
    → (map (store_at new) (shapes_named app says) ≡ map (store_at old) (shapes_named app says))
    × (AreClean old (shapes_named app says) → AreClean new (shapes_named app says))

-- what an application is depends on its own files alone
abbrev pub AppFrameLaw : Type 0
AppFrameLaw = (app : ℕ) (old new : Image) → app < 8 → Spares (IsFileOf app) old new
    → (app_at new app ≡ app_at old app) × (IsCleanApp app old → IsCleanApp app new)

-- where files of one storage alone change, that storage's state alone does
abbrev pub StoredLaw : Type 0
StoredLaw = (app g number : ℕ) (old new : Image) (active : Named) (previous : Option Named) (s : StorageData) → app < 8
    → says_at old app ≡ installed g active previous → slice_get active.deployment.storages number ≡ Some s
    → Spares (λ file. IsFileOf app file × IsBeside app active.bank number file) old new
    → (app_at new app ≡ record (app_at old app) {
      states =
          slice_set (app_at old app).states number (store_at new (storage_shape app active.bank number s));
    })
    × (IsCleanApp app old → IsClean (storage_shape app active.bank number s) new → IsCleanApp app new)

-- the files of one application are none of another's
abbrev pub ApartLaw : Type 0
ApartLaw = (one other file : ℕ) → ¬ (one ≡ other) → IsFileOf other file → IsNoFileOf one file

-- what spares all files but those of one application leaves another one as it was
abbrev pub OtherApplicationsLaw : Type 0
OtherApplicationsLaw = (one other : ℕ) (old new : Image) → other < 8 → ¬ (one ≡ other) → Spares (IsNoFileOf one) old new
    → (app_at new other ≡ app_at old other) × (IsCleanApp other old → IsCleanApp other new)

-- a case that settles all files but those of one application settles those of another one
abbrev pub OthersCaseLaw : Type 0
OthersCaseLaw = (one other : ℕ) (start : Image) (c : Case) → ¬ (one ≡ other) → IsSettledOn (IsNoFileOf one) start c
    → IsSettledOn (IsFileOf other) start c

-- ---- chance and damage

-- what is assumed of an application holds of each storage that its root names after a stop and damage
abbrev pub CoveredLaw : Type 0
CoveredLaw = (app : ℕ) (c : Case) (damaged : List ℕ) (image : Image) (shape : Shape) → IsSoundApp app c
    → DecaysApp app damaged c.left image
    → Contains (shapes_named app (says_at image app)) shape
    → IsSound shape.place c × DecaysFor (IsPiece shape.place) damaged c.left image

-- what two copies hold is spared where nothing is damaged
abbrev pub RootStandsLaw : Type 0
RootStandsLaw = (app : ℕ) (start : Image) → ¬ ((app_at start app).says ≡ nothing)
    → HasEnoughRoot app [] (app_at start app).lacking

-- what stands with nothing damaged has clean places
abbrev pub StandsCleanLaw : Type 0
StandsCleanLaw = (app : ℕ) (start image : Image) (after : App) → Stands app image [] (app_at start app) after
    → IsCleanApp app image

-- copies of the root that lack it matter to nothing but whether two are left
abbrev pub RootMendLaw : Type 0
RootMendLaw = (app : ℕ) (image : Image) (damaged : List ℕ) (before after : App)
    → Stands app image damaged (record before { lacking = [] }) after
    → Stands app image damaged before after

-- ---- at rest

-- an application of which no file is touched stands as it was
abbrev pub UntouchedAppLaw : Type 0
UntouchedAppLaw = (app : ℕ) (start : Image) (c : Case) → app < 8 → IsCleanApp app start
    → IsSettledOn (IsFileOf app) start c
    → StandsCase app (app_at start app) (app_at start app) c

-- an application of which no file is touched stands as it was also on its way to whatever may come of it: damage brings
-- up no root of a greater generation
abbrev pub StillAppLaw : Type 0
StillAppLaw = (app : ℕ) (start : Image) (after : App) (c : Case) → app < 8 → IsCleanApp app start
    → IsSettledOn (IsFileOf app) start c
    → IsLater (app_at start app) after → StandsCase app (app_at start app) after c

-- ---- on the way

-- a stop while the text of the root that stands is brought to every copy leaves the application on its way to whatever
-- may come of it
abbrev pub OpeningLaw : Type 0
OpeningLaw = (app : ℕ) (seen : Seen) (start : Image) (after : App) (c : Case) → app < 8 → IsCleanApp app start
    → standing start (root_place app) agreeing_of_root ≡ Some seen
    → PutStops (root_place app) seen.generation seen.text start c
    → IsLater (app_at start app) after → StandsCase app (app_at start app) after c

-- a stop while a bad root is formatted leaves it bad, or the application without a version
abbrev pub FormattingLaw : Type 0
FormattingLaw = (app : ℕ) (next : List ℕ) (start : Image) (c : Case) → IsCleanApp app start
    → says_at start app ≡ nothing → root_of next ≡ Some text.absent
    → FormatStops (root_place app) 1 next start c
    → StandsCase app (app_at start app) (record { says = absent 1; lacking = []; states = [] }) c

-- a stop while storages are made in a bank in which no version is leaves the application on its way to whatever may
-- come of it
abbrev pub CreatingLaw : Type 0
CreatingLaw = (app bank : ℕ) (start : Image) (after : App) (c : Case) → app < 8 → bank ≤ 1 → IsCleanApp app start
    → IsFree bank (says_at start app)
    → IsSettledOn (IsOutsideBank app bank) start c → IsLater (app_at start app) after
    → StandsCase app (app_at start app) after c

-- a stop while the root is written, over a text that is held alone, leaves the application as before or as after
abbrev pub WritingLaw : Type 0
WritingLaw = (app g : ℕ) (text next : List ℕ) (root : Root) (start : Image) (after : App) (c : Case) → app < 8
    → IsCleanApp app start
    → IsAlone start (root_place app) g text → root_of next ≡ Some root
    → after.says ≡ says_by (g + 1) (Some root)
    → AreOn start (shapes_named app after.says) after.states → PutStops (root_place app) (g + 1) next start c
    → StandsCase app (app_at start app) after c

-- a stop while a storage of the active version is on its way to another state, and nothing else of the application is
-- touched, leaves the application on the same way
abbrev pub StoringLaw : Type 0
StoringLaw = (app g number : ℕ) (start : Image) (active : Named) (previous : Option Named) (s : StorageData)
    (after : State) (c : Case)
    → app < 8 → IsCleanApp app start → says_at start app ≡ installed g active previous
    → slice_get active.deployment.storages number ≡ Some s
    → IsSettledOn (λ file. IsFileOf app file × IsBeside app active.bank number file) start c
    → IsKeptMending (storage_shape app active.bank number s) start after c
    → StandsCase app (app_at start app) (record (app_at start app) {
      states =
          slice_set (app_at start app).states number after;
    }) c
