-- The opening of a storage of files, in the words of a session.
use Rattle.std.proofs.Common.{◌≡◌, Bool, true, sym, ◌∙◌, ap, subst}
use Rattle.std.specs.Prelude.{[], Some, IsTrue}
use Rattle.per_base.specs.declared.elements.StoreKind.{StoreKind}
use Rattle.per_base.specs.declared.elements.StoreKind.TheVariants as kinds
use Rattle.per_base.specs.Maps.{Map}
use Rattle.disk_model.specs.Image.{Image}
use Rattle.value_code.specs.Reading.{is_content}
use Rattle.deployment_model.specs.Data.{StorageData}
use Rattle.element_state.specs.declared.shapes.Shape.{Shape}
use Rattle.element_state.specs.declared.shapes.View.{View}
use Rattle.element_state.specs.Chosen.{opened_of}
use Rattle.element_state.specs.Reports.{reports}
use Rattle.element_state.specs.States.{State, Opens, Corrupt, store_at}
use Rattle.element_state.specs.Views.{map_of}
use Rattle.element_maps.specs.Laws.{UntestedLaw}
use Rattle.element_maps.specs.Storages.{IsOpened}
use Rattle.file_handles.specs.Sessions.{Session}
use Rattle.file_storage.specs.declared.opening.OpenedFiles.{OpenedFiles}
use Rattle.file_storage.specs.FileSessions.{stored_in}
use Rattle.file_storage.specs.Opened.{opened_as}
use Rattle.run_model.specs.Sessions.{files, session_of}
use Rattle.open_storages.specs.declared.opens.Open.TheVariants.{Files}
use Rattle.open_storages.specs.declared.opening.Opening.TheVariants as opening
use Rattle.open_storages.specs.Openings.{IsOpeningOf, ShowsView}
use Rattle.open_storages.specs.Opens.{session_in}

module _ (told : Bool) (tells : IsTrue told) (image : Image) (shape : Shape) (config : StorageData) (o : OpenedFiles)
    (untested : UntestedLaw) (of_files : config.kind ≡ kinds.Files)
    (is : IsOpened told image shape (λ bytes. true) (opened_as o))
    (fresh : o.files.session ≡ record { files = stored_in o.files.store; handles = [] }) where
  stored_is : stored_in o.files.store ≡ map_of is.before
  stored_is = is.synced ∙ untested is.before

  session_is : session_in (Files o.files) ≡ session_of kinds.Files is.before
  session_is = ap (λ (w : Session). files (record { synced = stored_in o.files.store; working = w })) fresh
      ∙ ap (λ (m : Map). files (record { synced = m; working = record { files = m; handles = [] } })) stored_is

  shows : ShowsView shape config is.before (Files o.files) o.reports.items
  shows = record {
    session = subst (λ (k : StoreKind). session_in (Files o.files) ≡ session_of k is.before) (sym of_files) session_is;
    all = subst (λ (k : StoreKind). o.reports.items ≡ reports (is_content k) shape is.before) (sym of_files) is.reports;
    view = is.view;
  }

  by : (state : State) → opened_of state ≡ Some is.before
      → IsOpeningOf state shape config (opening.Opened (Files o.files) o.reports)
  by (Opens v others) seen = let same : v ≡ is.before =
      cc in subst (λ (w : View). ShowsView shape config w (Files o.files) o.reports.items) (sym same) shows
  by (Corrupt salvage others) seen = absurd (cc)

  pub opened_files : IsOpeningOf (store_at image shape) shape config (opening.Opened (Files o.files) o.reports)
  opened_files = by (store_at image shape) (is.seen tells)
