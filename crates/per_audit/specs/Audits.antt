-- What an audit lists and finds.
use Rattle.std.specs.Prelude.{ℕ, List, [], ◌∷◌, ◌++◌, map, Bool, true, false, cond, Option, Some, None}
use Rattle.std.specs.List.{flat_map, range_with_len}
use Rattle.per_base.specs.declared.elements.Entry.{Entry}
use Rattle.per_base.specs.declared.elements.Scope.{Scope}
use Rattle.per_base.specs.declared.elements.Scope.TheVariants as scope
use Rattle.per_base.specs.declared.errors.Unit.{Unit}
use Rattle.per_base.specs.declared.errors.Unit.TheVariants.{Root, Whole, Part}
use Rattle.disk_model.specs.Image.{Image}
use Rattle.value_code.specs.Reading.{is_content}
use Rattle.deployment_model.specs.Data.{StorageData}
use Rattle.element_state.specs.declared.shapes.View.{View}
use Rattle.element_state.specs.Reports.{is_readable_by}
use Rattle.element_state.specs.States.{State, Opens, Corrupt}
use Rattle.deploy_laws.specs.Apps.{App, Says, nothing, absent, installed, app_at, root_sole}
use Rattle.deploy_laws.specs.Places.{Named}
use Rattle.per_audit.specs.declared.findings.Finding.{Finding}
use Rattle.per_audit.specs.declared.findings.FindingKind.{FindingKind}
use Rattle.per_audit.specs.declared.findings.FindingKind.TheVariants.{Damaged, Lost, Unsettled}
use Rattle.per_audit.specs.declared.findings.Listed.{Listed}

-- ---- findings of one unit

-- the finding of this kind on a unit of an application, in this bank if it is in one, with the copies that lack it
abbrev pub finding : (app : ℕ) → (bank : Option ℕ) → FindingKind → Unit → (copies : List ℕ) → Finding
finding app bank kind unit copies = record { app = app; bank = bank; unit = unit; kind = kind; copies = copies }

-- a unit, a root, a storage or an element, is damaged where copies lack it
abbrev pub damaged_by : (app : ℕ) → (bank : Option ℕ) → Unit → (lacking : List ℕ) → List Finding
damaged_by app bank unit [] = []
damaged_by app bank unit (copy ∷ copies) = finding app bank Damaged unit (copy ∷ copies) ∷ []

-- a unit is unsettled where a text is held besides the one that counts
abbrev pub unless_sole : (sole : Bool) → (app : ℕ) → (bank : Option ℕ) → Unit → List Finding
unless_sole true app bank unit = []
unless_sole false app bank unit = finding app bank Unsettled unit [] ∷ []

-- ---- a root

-- a root that says nothing is lost in its three copies
abbrev pub of_root : (app : ℕ) → (sole : Bool) → Says → (lacking : List ℕ) → List Finding
of_root app sole nothing lacking = finding app None Lost Root (1 ∷ 2 ∷ 3 ∷ []) ∷ []
of_root app sole (absent g) lacking = damaged_by app None Root lacking ++ unless_sole sole app None Root
of_root app sole (installed g active previous) lacking =
    damaged_by app None Root lacking ++ unless_sole sole app None Root

-- ---- a storage, in its bank

-- with storage scope a copy that lacks an element lacks the storage, which is named once
abbrev pub lacking_named : Scope → List ℕ → List ℕ
lacking_named scope.Element lacking = lacking
lacking_named scope.Storage lacking = []

-- an element is lost where an opening would report that it failed
abbrev pub of_element : (app bank : ℕ) → StorageData → Entry → List Finding
of_element app bank s e = cond (is_readable_by (is_content s.kind) e.content)
    (damaged_by app (Some bank) (Part s.name e.name) (lacking_named s.scope e.lacking))
    (finding app (Some bank) Lost (Part s.name e.name) e.lacking ∷ [])

-- there is no other text that could be the storage's
abbrev pub is_none_left : List View → Bool
is_none_left [] = true
is_none_left (v ∷ others) = false

-- a corrupt storage is lost in all its copies, and nothing is said of its elements
abbrev pub of_storage : (app bank : ℕ) → StorageData → State → List Finding
of_storage app bank s (Corrupt salvage others) =
    finding app (Some bank) Lost (Whole s.name) (range_with_len 1 s.n)
    ∷ unless_sole (is_none_left others) app (Some bank) (Whole s.name)
of_storage app bank s (Opens v others) = damaged_by app (Some bank) (Whole s.name) v.lacking
    ++ unless_sole (is_none_left others) app (Some bank) (Whole s.name)
    ++ flat_map (of_element app bank s) v.entries

-- every element of a storage that opens is listed
abbrev pub listed_element : (app bank : ℕ) → StorageData → Entry → Listed
listed_element app bank s e = record { app = app; bank = bank; storage = s.name; element = e.name; changed = e.changed }

-- what is listed of a storage: its elements where it opens, and nothing where it is corrupt
abbrev pub listed_of : (app bank : ℕ) → StorageData → State → List Listed
listed_of app bank s (Corrupt salvage others) = []
listed_of app bank s (Opens v others) = map (listed_element app bank s) v.entries

-- ---- an application

-- the storages of a version, each with the version's bank
abbrev pub storages_of : Named → List (ℕ × StorageData)
storages_of v = map (λ s. (v.bank, s)) v.deployment.storages

-- those of a version, if there is one
abbrev pub storages_if : Option Named → List (ℕ × StorageData)
storages_if None = []
storages_if (Some v) = storages_of v

-- the storages that a root names, each with its bank: those of the active version, and then those of the previous one
abbrev pub storages_named : Says → List (ℕ × StorageData)
storages_named nothing = []
storages_named (absent g) = []
storages_named (installed g active previous) = storages_of active ++ storages_if previous

-- storage by storage, each with its state
abbrev pub each_storage : {A : Type 0} → (ℕ → StorageData → State → List A) → List (ℕ × StorageData) → List State
    → List A
each_storage f [] states = []
each_storage f (s ∷ storages) [] = []
each_storage f (s ∷ storages) (state ∷ states) = f s.0 s.1 state ++ each_storage f storages states

-- what is found of an application: of its root, and then of each storage that the root names
unfoldable pub findings_of : (app : ℕ) → (sole : Bool) → App → List Finding
findings_of app sole a = of_root app sole a.says a.lacking
    ++ each_storage (of_storage app) (storages_named a.says) a.states

-- the elements of an application, storage by storage
unfoldable pub elements_of : (app : ℕ) → App → List Listed
elements_of app a = each_storage (listed_of app) (storages_named a.says) a.states

-- ---- a disk

-- what is found of the eight applications of a disk, in their order
unfoldable pub findings_at : Image → List Finding
findings_at image = flat_map (λ app. findings_of app (root_sole image app) (app_at image app)) (range_with_len 0 8)

-- the elements of the eight applications of a disk, in their order
unfoldable pub elements_at : Image → List Listed
elements_at image = flat_map (λ app. elements_of app (app_at image app)) (range_with_len 0 8)

-- an audit found nothing
abbrev pub is_sound : List Finding → Bool
is_sound [] = true
is_sound (f ∷ findings) = false
