-- The files of a storage that was read, as a map.
use Rattle.std.proofs.Common.{◌≡◌, ℕ, suc, ◌+◌, ◌≤◌, cond, List, [], ◌∷◌, ◌++◌, length, Bool, true, false, refl, sym}
use Rattle.std.proofs.Common.{◌∙◌, ap, subst, append_assoc, arith}
use Rattle.std.specs.Prelude.{Some, IsTrue, map}
use Rattle.std.specs.BTreeMap.{is_at}
use Rattle.std.specs.List.{AllByRecursion}
use Rattle.std.specs.List.Sorted.{IsStrictlySortedBy}
use Rattle.std.specs.Ordering.{ordering_reverse}
use Rattle.std.specs.declared.cmp.Ordering.TheVariants.{Less, Greater}
use Rattle.std.proofs.lemmas.List.Sums.{sum_by-cons}
use Rattle.std.proofs.lemmas.Cmp.{nat_list_cmp_total}
use Rattle.per_base.specs.declared.elements.Content.{Content}
use Rattle.per_base.specs.declared.elements.Content.TheVariants.{Good, Bad}
use Rattle.per_base.specs.declared.elements.Element.{Element}
use Rattle.per_base.specs.declared.elements.Entry.{Entry}
use Rattle.per_base.specs.declared.elements.StoreKind.{StoreKind}
use Rattle.per_base.specs.declared.elements.StoreKind.TheVariants as kinds
use Rattle.per_base.specs.declared.reports.Report.{Report}
use Rattle.per_base.specs.Maps as maps
use Rattle.per_base.specs.Maps.{Map, element_at, names_of, with_element}
use Rattle.per_base.specs.Names.{name_cmp}
use Rattle.disk_model.specs.Image.{Image}
use Rattle.file_handles.specs.Sessions.{IsFileAt}
use Rattle.file_handles.specs.Tables.{AreFiles}
use Rattle.index_text.specs.Rules.{has_info, max_len}
use Rattle.element_state.specs.declared.shapes.Shape.{Shape}
use Rattle.element_state.specs.Chosen.{opened_of}
use Rattle.element_state.specs.Conditions as conditions
use Rattle.deployment_model.specs.Conditions.{IsStorage}
use Rattle.deployment_model.specs.Data.{StorageData}
use Rattle.element_state.specs.declared.shapes.View.{View}
use Rattle.element_state.specs.Conditions.{IsShape}
use Rattle.element_state.specs.Read.{IsEntryOf, IsView}
use Rattle.element_state.specs.Reports.{reports}
use Rattle.element_state.specs.States.{mended_by, mended_entry, mended_view, store_at}
use Rattle.element_state.specs.Views.{element_of, map_of}
use Rattle.element_store.specs.declared.store.Store.{Store}
use Rattle.element_store.specs.Stores.{entries_of, store_shape, view_in}
use Rattle.element_maps.specs.Laws.{UntestedLaw}
use Rattle.element_maps.specs.Storages.{IsConfigured, IsOpened}
use Rattle.file_storage.specs.FileSessions.{stored_in}
use Rattle.element_maps.specs.lemmas.InOrder.{ComesBeforeAll}
use Rattle.file_storage.specs.StoredFiles.{IsStoredFile}

-- ---- entries are files

pub stored_file : (shape : Shape) (e : Entry) → shape.kind ≡ kinds.Files → IsEntryOf shape e → IsStoredFile e
stored_file shape e kind is = record {
  informed = subst (λ (k : StoreKind). IsTrue (has_info k e.info)) kind is.info;
  measured = is.content;
  small = subst (λ (k : StoreKind). e.len ≤ max_len k) kind is.len;
}

pub stored_files : (shape : Shape) (es : List Entry) → shape.kind ≡ kinds.Files → AllByRecursion (IsEntryOf shape) es
    → AllByRecursion IsStoredFile es
stored_files shape [] kind all = tt
stored_files shape (e ∷ es) kind all = (stored_file shape e kind all.0, stored_files shape es kind all.1)

-- ---- the map of entries

pub keys_are : (es : List Entry) → names_of (map element_of es) ≡ map (λ (e : Entry). e.name) es
keys_are [] = refl
keys_are (e ∷ es) = ap (λ names. e.name ∷ names) (keys_are es)

pub length_is : (es : List Entry) → length (map element_of es) ≡ length es
length_is [] = refl
length_is (e ∷ es) = ap suc (length_is es)

pub size_is : (es : List Entry) → maps.size_of (map element_of es) ≡ conditions.size_of es
size_is [] = refl
size_is (e ∷ es) = omega (
  arith,
  sum_by-cons (λ (p : List ℕ × Element). length p.0 + p.1.len) (element_of e)
      (map element_of es),
  sum_by-cons (λ (x : Entry). length x.name + x.len) e es,
  size_is es,
)

pub files_are : (es : List Entry) → AllByRecursion IsStoredFile es → AreFiles (map element_of es)
files_are [] all name = tt
files_are (e ∷ es) all name = by (is_at (name_cmp name) e.name) (files_are es all.1 name)
  where
    by : (b : Bool) → IsFileAt (element_at (map element_of es) name)
        → IsFileAt (cond b (Some (element_of e).1) (element_at (map element_of es) name))
    by true later = all.0
    by false later = later

-- an entry that is mended denotes the same file
same_element_of : (e : Entry) (content : Content) → element_of (mended_by content e) ≡ element_of e
same_element_of e (Good value) = refl
same_element_of e (Bad salvage) = refl

pub mended_map : (es : List Entry) → map element_of (map mended_entry es) ≡ map element_of es
mended_map [] = refl
mended_map (e ∷ es) = ap (λ p. p ∷ map element_of (map mended_entry es)) (same_element_of e e.content)
    ∙ ap (λ m. element_of e ∷ m) (mended_map es)

-- ---- a file with the last name of all

above_at : (name : List ℕ) (m : Map) (e : List ℕ × Element) (more : Map)
    → ComesBeforeAll name (names_of (m ++ e ∷ more))
    → name_cmp name e.0 ≡ Less
above_at name [] e more above = above.0
above_at name (x ∷ m) e more above = above_at name m e more above.1

pub insert_last : (m : Map) (name : List ℕ) (file : Element) (more : Map)
    → IsStrictlySortedBy name_cmp (names_of (m ++ (name, file) ∷ more))
    → with_element m name file ≡ m ++ (name, file) ∷ []
unfolding IsStrictlySortedBy
insert_last [] name file more sorted = refl
insert_last (e ∷ m) name file more sorted =
    let less : name_cmp e.0 name ≡ Less = above_at e.0 m (name, file) more sorted.0 in
    let greater : name_cmp name e.0 ≡ Greater = nat_list_cmp_total.antisymm name e.0 ∙ ap ordering_reverse less in
    rw greater (ap (λ rest. e ∷ rest) (insert_last m name file more sorted.1))

-- one more file of those that are left
pub filled : (m later : Map) (e : Entry) (more all : List Entry)
    → IsStrictlySortedBy name_cmp (map (λ (x : Entry). x.name) all)
    → m ++ map element_of (e ∷ more) ≡ map element_of all
    → later ≡ with_element m e.name (element_of e).1 → later ++ map element_of more ≡ map element_of all
filled m later e more all sorted parts is =
    let ordered : IsStrictlySortedBy name_cmp (names_of (m ++ (e.name, (element_of e).1) ∷ map element_of more)) =
    subst (λ names. IsStrictlySortedBy name_cmp names) (sym (ap names_of parts ∙ keys_are all)) sorted in
    ap (λ files. files ++ map element_of more) (is ∙ insert_last m e.name (element_of e).1 (map element_of more)
    ordered)
    ∙ append_assoc m ((e.name, (element_of e).1) ∷ []) (map element_of more) ∙ parts

-- ---- what was opened

pub is_shape : (config : StorageData) (shape : Shape) → IsStorage config → IsConfigured kinds.Files config shape
    → IsShape shape
is_shape config shape valid configured = record {
  some = subst (λ n. 1 ≤ n) (sym configured.m) valid.some_agree;
  enough = subst (λ n. n ≤ shape.place.copies) (sym configured.m)
      (subst (λ n. config.m ≤ n) (sym configured.copies) valid.enough_copies);
  small = subst (λ n. n ≤ 4194304) (sym configured.allowed) valid.maximum;
}

-- the storage then shows the files of its entries before
pub opened_map : (shape : Shape) (store : Store) (before : View) → view_in store ≡ mended_view shape before
    → stored_in store ≡ map element_of before.entries
unfolding mended_view
opened_map shape store before view = ap map_of view ∙ mended_map before.entries

-- what an opening gives
pub opened_is : UntestedLaw → (told : Bool) (image : Image) (shape : Shape) (store : Store) (before : View)
    (all : List Report)
    → (IsTrue told → opened_of (store_at image shape) ≡ Some before) → view_in store ≡ mended_view shape before
    → store_shape store ≡ shape → all ≡ reports (λ bytes. true) shape before
    → IsOpened told image shape (λ bytes. true) (record {
      shape = store_shape store;
      view = view_in store;
      synced =
          stored_in store;
      reports = all;
    })
opened_is untested told image shape store before all found view placed reported = record {
  before = before;
  seen = found;
  place = placed;
  view = view;
  synced = opened_map shape store before view ∙ sym (untested before);
  reports = reported;
}

pub opened_size : (shape : Shape) (store : Store) (before : View) → view_in store ≡ mended_view shape before
    → conditions.size_of (entries_of store) ≡ maps.size_of (map element_of before.entries)
opened_size shape store before view = sym (size_is (entries_of store))
    ∙ ap maps.size_of (opened_map shape store before view)

pub opened_room : (config : StorageData) (shape : Shape) (before : View) → IsConfigured kinds.Files config shape
    → IsView shape before → maps.size_of (map element_of before.entries) ≤ config.maximum
opened_room config shape before configured view =
    subst (λ n. n ≤ config.maximum) (sym (size_is before.entries))
    (subst (λ n. conditions.size_of before.entries ≤ n) configured.allowed view.small)
