-- What an audit adds for a root and for a storage, by how it is seen.
use Rattle.std.specs.Prelude.{◌≡◌, ℕ, List, [], ◌∷◌, ◌++◌, map, Bool, true, false, Option, Some, None}
use Rattle.std.specs.List.{flat_map, range_with_len}
use Rattle.per_base.specs.declared.errors.Unit.TheVariants.{Root, Whole}
use Rattle.disk_model.specs.Image.{Image}
use Rattle.deployment_model.specs.Data.{StorageData}
use Rattle.element_state.specs.declared.shapes.View.{View}
use Rattle.element_state.specs.declared.surveying.Found.{Found}
use Rattle.element_state.specs.States.{State, store_at}
use Rattle.deploy_laws.specs.Places.{Named, shapes_from}
use Rattle.deploy.specs.Views.{RootSeen, bad, no_version, versions}
use Rattle.per_audit.specs.declared.findings.Finding.{Finding}
use Rattle.per_audit.specs.declared.findings.FindingKind.TheVariants.{Lost}
use Rattle.per_audit.specs.declared.findings.Listed.{Listed}
use Rattle.per_audit.specs.declared.noting.Notes.{Notes}
use Rattle.per_audit.specs.Audits.{damaged_by, each_storage, finding, listed_element, listed_of, of_element, of_storage}
use Rattle.per_audit.specs.Audits.{unless_sole}

-- these elements and these findings were added to the notes
pub record AddsNotes (elements : List Listed) (findings : List Finding) (old new : Notes) : Type 0 where
  pub elements_are : new.elements.items ≡ old.elements.items ++ elements
  pub findings_are : new.findings.items ≡ old.findings.items ++ findings

-- ---- a storage, by the text that is found of it

-- what is found of a corrupt storage: it is lost, and unsettled where another text is held
abbrev pub of_corrupt : (app bank : ℕ) → StorageData → (sole : Bool) → List Finding
of_corrupt app bank s sole =
    finding app (Some bank) Lost (Whole s.name) (range_with_len 1 s.n)
    ∷ unless_sole sole app (Some bank) (Whole s.name)

-- what is found of a storage that opens at this view: of itself, and then of its elements
abbrev pub of_view : (app bank : ℕ) → StorageData → View → List Finding
of_view app bank s v = damaged_by app (Some bank) (Whole s.name) v.lacking
    ++ unless_sole v.sole app (Some bank) (Whole s.name)
    ++ flat_map (of_element app bank s) v.entries

-- what is found of a storage by this view, at which it opens, or is corrupt
abbrev pub findings_by : (app bank : ℕ) → StorageData → (opens : Bool) → View → List Finding
findings_by app bank s true v = of_view app bank s v
findings_by app bank s false v = of_corrupt app bank s v.sole

-- what is found of a storage by what was read of it; where nothing was, it is corrupt
abbrev pub findings_found : (app bank : ℕ) → StorageData → Option Found → List Finding
findings_found app bank s None = of_corrupt app bank s true
findings_found app bank s (Some found) = findings_by app bank s found.opens found.view

-- what is listed of a storage by this view, at which it opens, or is corrupt
abbrev pub elements_by : (app bank : ℕ) → StorageData → (opens : Bool) → View → List Listed
elements_by app bank s true v = map (listed_element app bank s) v.entries
elements_by app bank s false v = []

-- what is listed of a storage by what was read of it
abbrev pub elements_found : (app bank : ℕ) → StorageData → Option Found → List Listed
elements_found app bank s None = []
elements_found app bank s (Some found) = elements_by app bank s found.opens found.view

-- ---- the storages of a version, from this number on

-- what `f` gives for these storages in this bank, the first of which has this number, and for their states
abbrev pub over_storages : {A : Type 0} → (ℕ → StorageData → State → List A) → Image → (app bank number : ℕ)
    → List StorageData
    → List A
over_storages f image app bank number storages =
    each_storage f (map (λ s. (bank, s)) storages) (map (store_at image) (shapes_from app bank number storages))

-- ---- an application, by how its root is seen

-- what `f` gives for the storages of a version
abbrev pub of_version : {A : Type 0} → (ℕ → StorageData → State → List A) → Image → (app : ℕ) → Named → List A
of_version f image app v = over_storages f image app v.bank 0 v.deployment.storages

-- and of a previous version, if there is one
abbrev pub of_previous : {A : Type 0} → (ℕ → StorageData → State → List A) → Image → (app : ℕ) → Option Named → List A
of_previous f image app None = []
of_previous f image app (Some v) = of_version f image app v

-- the elements of an application whose root is seen as this
abbrev pub elements_seen : Image → (app : ℕ) → RootSeen → List Listed
elements_seen image app bad = []
elements_seen image app (no_version lacking sole) = []
elements_seen image app (versions active previous lacking sole) =
    of_version (listed_of app) image app active ++ of_previous (listed_of app) image app previous

-- what is found of an application whose root is seen as this
abbrev pub findings_seen : Image → (app : ℕ) → RootSeen → List Finding
findings_seen image app bad = finding app None Lost Root (1 ∷ 2 ∷ 3 ∷ []) ∷ []
findings_seen image app (no_version lacking sole) =
    damaged_by app None Root lacking ++ unless_sole sole app None Root
findings_seen image app (versions active previous lacking sole) =
    (damaged_by app None Root lacking ++ unless_sole sole app None Root)
    ++ of_version (of_storage app) image app active ++ of_previous (of_storage app) image app previous
