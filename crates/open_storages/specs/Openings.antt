-- What the opening of a storage gives.
use Rattle.std.specs.Prelude.{◌≡◌, List, ⊤}
use Rattle.per_base.specs.declared.reports.Report.{Report}
use Rattle.value_code.specs.Reading.{is_content}
use Rattle.deployment_model.specs.Data.{StorageData}
use Rattle.element_state.specs.declared.shapes.Shape.{Shape}
use Rattle.element_state.specs.declared.shapes.View.{View}
use Rattle.element_state.specs.Reports.{failed_report, reports}
use Rattle.element_state.specs.States.{State, Opens, Corrupt, mended_view}
use Rattle.element_store.specs.Stores.{store_shape, view_in}
use Rattle.run_model.specs.Sessions.{session_of}
use Rattle.open_storages.specs.declared.opens.Open.{Open}
use Rattle.open_storages.specs.declared.opening.Opening.{Opening}
use Rattle.open_storages.specs.declared.opening.Opening.TheVariants as given
use Rattle.open_storages.specs.Opens.{config_in, session_in, store_in}

-- what was seen is in the session and in the reports, and what could be mended is mended
pub record ShowsView (shape : Shape) (config : StorageData) (seen : View) (o : Open)
    (reported : List Report) : Type 0 where
  pub session : session_in o ≡ session_of config.kind seen
  pub all : reported ≡ reports (is_content config.kind) shape seen
  pub view : view_in (store_in o) ≡ mended_view shape seen

-- a storage that opens is opened, and one that is corrupt is reported
abbrev pub IsOpeningOf : State → Shape → StorageData → Opening → Type 0
IsOpeningOf (Opens v others) shape config (given.Opened o reported) = ShowsView shape config v o reported.items
IsOpeningOf (Opens v others) shape config (given.Corrupt report) = ⊥
IsOpeningOf (Corrupt salvage others) shape config (given.Opened o reported) = ⊥
IsOpeningOf (Corrupt salvage others) shape config (given.Corrupt report) = report ≡ failed_report shape

-- P holds of the storage where it was opened
abbrev pub OnOpened : Opening → (Open → Type 0) → Type 0
OnOpened (given.Opened o reported) P = P o
OnOpened (given.Corrupt report) P = ⊤

-- P holds where the storage was found corrupt
abbrev pub OnCorrupt : Opening → Type 0 → Type 0
OnCorrupt (given.Opened o reported) P = ⊤
OnCorrupt (given.Corrupt report) P = P

-- an open storage is the one that was configured, at its place
pub record IsWhereConfigured (shape : Shape) (config : StorageData) (o : Open) : Type 0 where
  pub configured : config_in o ≡ config
  pub placed : store_shape (store_in o) ≡ shape
