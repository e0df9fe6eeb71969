-- What an opening of files gives.
use Rattle.element_store.specs.Stores.{store_shape, view_in}
use Rattle.element_maps.specs.Storages.{Opened}
use Rattle.file_storage.specs.declared.opening.OpenedFiles.{OpenedFiles}
use Rattle.file_storage.specs.FileSessions.{stored_in}

-- what an opening gives: how the storage is configured (`shape`), the view that it shows, its synchronised files, and
-- what is reported
abbrev pub opened_as : OpenedFiles → Opened
opened_as o = record {
  shape = store_shape o.files.store;
  view = view_in o.files.store;
  synced =
      stored_in o.files.store;
  reports = o.reports.items;
}
