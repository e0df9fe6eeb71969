-- An opening: what a session asks of the storage that was opened, and what the opening gives.
use Rattle.std.proofs.Common.{◌≡◌, ◌≤◌, List, length, Bool, true, sym, ◌∙◌, ap, subst, arith}
use Rattle.std.specs.Prelude.{Some, IsTrue}
use Rattle.std.specs.List.{All}
use Rattle.std.specs.List.Sorted.{IsStrictlySortedBy}
use Rattle.per_base.specs.declared.elements.Entry.{Entry}
use Rattle.per_base.specs.declared.elements.StoreKind.TheVariants.{Keys}
use Rattle.per_base.specs.declared.reports.Report.{Report}
use Rattle.per_base.specs.Maps.{Map, size_of}
use Rattle.per_base.specs.Names.{name_cmp}
use Rattle.disk_model.specs.Image.{Image}
use Rattle.deployment_model.specs.Conditions.{IsStorage}
use Rattle.deployment_model.specs.Data.{StorageData}
use Rattle.element_state.specs.declared.shapes.Shape.{Shape}
use Rattle.element_state.specs.declared.shapes.View.{View}
use Rattle.element_state.specs.Chosen.{opened_of}
use Rattle.element_state.specs.Conditions.{IsShape}
use Rattle.element_state.specs.Read.{IsView}
use Rattle.element_state.specs.Reports.{reports}
use Rattle.element_state.specs.States.{store_at, mended_view}
use Rattle.element_maps.specs.Storages.{IsConfigured, IsOpened}
use Rattle.element_store.specs.declared.store.Store.{Store}
use Rattle.element_store.specs.Stores as stores
use Rattle.key_maps.specs.KeyElements.{IsKeyEntry, entry_names, is_encoding, judged_map}
use Rattle.kvs_core.specs.Sessions.{Session}
use Rattle.kvs_store.specs.Judged.{shown_view}
use Rattle.kvs_store.specs.Storages.{IsOpen}
use Rattle.kvs_store.proofs.JudgedKeys.{judged_synchronised, mended_judged, shown_reports}
use Rattle.kvs_store.proofs.Stored.{key_entries, keys_fit}

module _ (shape : Shape) (config : StorageData) (store : Store) (entries : List Entry)
    (lies : IsConfigured Keys config shape) (is : IsView shape (stores.view_in store))
    (shown : entries ≡ stores.entries_of store) where
  pub entries_are_keys : All IsKeyEntry entries
  entries_are_keys = subst (λ (es : List Entry). All IsKeyEntry es) (sym shown)
      (key_entries shape (stores.view_in store) lies.kind is)

  pub entries_ascend : IsStrictlySortedBy name_cmp (entry_names entries)
  entries_ascend = subst (λ (es : List Entry). IsStrictlySortedBy name_cmp (entry_names es)) (sym shown) is.names_ascend

  pub entries_are_few : length entries ≤ 1024
  entries_are_few = subst (λ (es : List Entry). length es ≤ 1024) (sym shown) is.few

  pub entries_have_room : size_of (judged_map entries) ≤ config.maximum
  entries_have_room = subst (λ (es : List Entry). size_of (judged_map es) ≤ config.maximum) (sym shown)
      (keys_fit shape (stores.view_in store) lies.kind is config.maximum lies.allowed)

-- what is read from these entries
abbrev pub read_session : StorageData → List Entry → Session
read_session config entries = record { config = config; synced = judged_map entries; visible = judged_map entries }

pub opened_is_open : (shape : Shape) (config : StorageData) (store : Store) (entries : List Entry) (session : Session)
    → IsConfigured Keys config shape → stores.store_shape store ≡ shape
    → entries ≡ stores.entries_of store → session ≡ read_session config entries → IsOpen store session
opened_is_open shape config store entries session lies placed shown is = record {
  configured = subst (λ (s : Shape). IsConfigured Keys session.config s) (sym placed)
      (subst (λ (s : Session). IsConfigured Keys s.config shape) (sym is) lies);
  synced = ap (λ (s : Session). s.synced) is ∙ (ap judged_map shown ∙ judged_synchronised (stores.view_in store));
}

pub opened_is : (told : Bool) (image : Image) (shape : Shape) (entries : List Entry) (before : View) (copy : Shape)
    (seen : View) (store : Store) (synced visible : Map) (all : List Report)
    → (IsTrue told → opened_of (store_at image shape) ≡ Some before) → stores.view_in store ≡ mended_view shape before
    → stores.store_shape store ≡ shape → IsView shape before
    → entries ≡ stores.entries_of store → synced ≡ judged_map entries → visible ≡ judged_map entries → copy ≡ shape
    → seen ≡ shown_view visible before
    → all ≡ reports (λ bytes. true) copy seen
    → IsOpened told image shape is_encoding (record {
      shape = stores.store_shape store;
      view =
          stores.view_in store;
      synced = synced;
      reports = all;
    })
opened_is told image shape entries before copy seen store synced visible all found view placed is shown read shows same
    judged reported =
    let keys : judged_map entries ≡ judged_map before.entries =
    ap judged_map shown ∙ (ap (λ (v : View). judged_map v.entries) view ∙ mended_judged shape before) in
    record {
      before = before;
      seen = found;
      place = placed;
      view = view;
      synced = read ∙ (keys ∙ judged_synchronised before);
      reports = reported ∙ (ap (λ (s : Shape). reports (λ bytes. true) s seen) same
          ∙ (ap (λ (v : View). reports (λ bytes. true) shape v)
          (judged ∙ ap (λ (m : Map). shown_view m before) (shows ∙ keys))
          ∙ shown_reports shape before is.names_ascend));
    }

pub shape_is : (shape : Shape) (config : StorageData) → IsStorage config → IsConfigured Keys config shape
    → IsShape shape
shape_is shape config is lies = record {
  some = omega (arith, is.some_agree, lies.m);
  enough = omega (arith, is.enough_copies, lies.m, lies.copies);
  small = omega (arith, is.maximum, lies.allowed);
}
