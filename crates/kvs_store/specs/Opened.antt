-- What an opening of keys gives.
use Rattle.element_store.specs.Stores.{store_shape, view_in}
use Rattle.element_maps.specs.Storages.{Opened}
use Rattle.kvs_store.specs.declared.opening.OpenedKvs.{OpenedKvs}

-- what an opening gives: how the storage is configured (`shape`), the view that it shows, its synchronised keys, and
-- what is reported
abbrev pub opened_as : OpenedKvs → Opened
opened_as o = record {
  shape = store_shape o.kvs.store;
  view = view_in o.kvs.store;
  synced = o.kvs.session.synced;
  reports =
      o.reports.items;
}
