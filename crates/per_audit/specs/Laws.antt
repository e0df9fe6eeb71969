-- What it means that an audit finds nothing.
use Rattle.std.specs.Prelude.{◌≡◌, ◌<◌, ℕ, [], true}
use Rattle.std.specs.List.{AllByRecursion}
use Rattle.disk_model.specs.Image.{Image}
use Rattle.value_code.specs.Reading.{is_content}
use Rattle.element_maps.specs.Storages.{IsOpened, Opened}
use Rattle.element_state.specs.declared.shapes.Shape.{Shape}
use Rattle.element_state.specs.declared.shapes.View.{View}
use Rattle.element_state.specs.Reports.{reports}
use Rattle.element_state.specs.States.{Opens, store_at}
use Rattle.deploy_laws.specs.Apps.{nothing, app_at, root_sole, says_at, shapes_named}
use Rattle.per_audit.specs.Audits.{findings_at}

-- a storage opens, no copy lacks it, no other text is held that could be its own, and its opening has nothing to report
pub record IsIntactStorage (image : Image) (shape : Shape) : Type 0 where
  pub view : View
  pub opens : store_at image shape ≡ Opens view []
  pub whole : view.lacking ≡ []
  pub reports : reports (is_content shape.kind) shape view ≡ []

-- a root says something, no copy lacks it, no other text is held in its place, and each storage that it names is intact
pub record IsIntactApp (image : Image) (app : ℕ) : Type 0 where
  pub says : ¬ (says_at image app ≡ nothing)
  pub whole : (app_at image app).lacking ≡ []
  pub sole : root_sole image app ≡ true
  pub storages : AllByRecursion (IsIntactStorage image) (shapes_named app (says_at image app))

-- where nothing is found every application is intact
abbrev pub SoundIsIntactLaw : Type 0
SoundIsIntactLaw = (image : Image) → findings_at image ≡ [] → (app : ℕ) → app < 8 → IsIntactApp image app

-- where every application is intact nothing is found
abbrev pub IntactIsSoundLaw : Type 0
IntactIsSoundLaw = (image : Image) → ((app : ℕ) → app < 8 → IsIntactApp image app) → findings_at image ≡ []

-- an opening of a storage that is intact reports nothing
abbrev pub SilentOpeningLaw : Type 0
SilentOpeningLaw = (image : Image) (shape : Shape) (given : Opened) → IsIntactStorage image shape
    → IsOpened true image shape (is_content shape.kind) given
    → given.reports ≡ []
