-- The changes of a close: first without bytes, then with those of the working files.
use Rattle.std.proofs.Common.{◌≡◌, ℕ, List, [], ◌∷◌, Bool, true, false, cond, refl, sym, ◌∙◌, ap, subst}
use Rattle.std.specs.Prelude.{Option, Some, None, IsSome, map, unwrap_or, ⊤}
use Rattle.std.specs.List.{AllByRecursion}
use Rattle.std.specs.List.Sorted.{IsStrictlySortedBy}
use Rattle.std.specs.Str.{bytes_eq}
use Rattle.per_base.specs.declared.elements.Change.{Change}
use Rattle.per_base.specs.declared.elements.Change.TheVariants.{Put, Remove, Touch}
use Rattle.per_base.specs.declared.elements.Content.{Content}
use Rattle.per_base.specs.declared.elements.Content.TheVariants.{Good, Bad}
use Rattle.per_base.specs.declared.elements.Element.{Element}
use Rattle.per_base.specs.declared.elements.FileInfo.{FileInfo}
use Rattle.per_base.specs.declared.elements.StoreKind.TheVariants as kinds
use Rattle.per_base.specs.declared.errors.PerError.{PerError}
use Rattle.per_base.specs.Changes.{changed_name, change_at}
use Rattle.per_base.specs.Contents.{is_readable, readable_bytes}
use Rattle.per_base.specs.Maps.{Map, element_at, names_of}
use Rattle.per_base.specs.Names.{NamesAscend, name_cmp}
use Rattle.per_base.specs.Refusals.{or_next}
use Rattle.file_core.specs.Files.{good_bytes}
use Rattle.file_handles.specs.Lending.{PutsReadable, bytes_there, filled}
use Rattle.file_handles.specs.Opening.{busy}
use Rattle.file_handles.specs.Sessions.{Handles, lowest}
use Rattle.file_handles.specs.Tables.{IsTable}
use Rattle.deployment_model.specs.Data.{StorageData}
use Rattle.element_state.specs.Changes.{same_element}
use Rattle.element_state.specs.Read.{IsView}
use Rattle.element_maps.specs.Differences.{arrival, difference, put, replacement, same_bytes, touch}
use Rattle.element_maps.specs.Laws.{UntestedLaw}
use Rattle.element_maps.specs.Sessions.{IsSync}
use Rattle.element_maps.specs.Storages.{IsConfigured}
use Rattle.element_maps.specs.lemmas.InOrder.{ComesBeforeAll, first, rest}
use Rattle.element_maps.specs.lemmas.Names.{eq_back, eq_itself, less_apart, same_names}
use Rattle.element_maps.specs.lemmas.Same.{same_itself}
use Rattle.element_store.specs.declared.store.Store.{Store}
use Rattle.element_store.specs.Stores.{entries_of, store_shape, view_in}
use Rattle.file_storage.specs.FileSessions.{AreAsStored, storage_of, stored_in}
use Rattle.file_storage.specs.Walks.{bare, walked}
use Rattle.file_storage.proofs.Making.{change_is, walk_makes}
use Rattle.file_storage.proofs.Stored.{keys_are}
use Rattle.file_storage.proofs.Synced.{is_sync}

-- where the change puts a file, it is one of these, readable and with these bytes
abbrev pub IsPutOf : Map → Change → Type 0
IsPutOf files (Put f) = (file : Element) × (element_at files f.name ≡ Some file) × (file.content ≡ Good f.bytes)
IsPutOf files (Remove name) = ⊤
IsPutOf files (Touch name info) = ⊤

-- ---- one change

filled_one : (files : Map) (change : Change) → IsPutOf files change → filled files (bare change) ≡ change
filled_one files (Put f) is =
    let none : List ℕ = [] in
    ap (λ (bytes : List ℕ). Put (record f { bytes = bytes }))
    (ap (λ found. unwrap_or (bytes_there found) none) is.1
    ∙ ap (λ content. unwrap_or (good_bytes content) none) is.2)
filled_one files (Remove name) is = refl
filled_one files (Touch name info) is = refl

readable_one : (files : Map) (change : Change) → IsPutOf files change → PutsReadable files (bare change)
readable_one files (Put f) is = subst (λ found. IsSome (bytes_there found)) (sym is.1)
    (subst (λ content. IsSome (good_bytes content)) (sym is.2) refl)
readable_one files (Remove name) is = tt
readable_one files (Touch name info) is = tt

bare_name : (change : Change) → changed_name (bare change) ≡ changed_name change
bare_name (Put f) = refl
bare_name (Remove name) = refl
bare_name (Touch name info) = refl

-- ---- all of them

filled_all : (files : Map) (changes : List Change) → AllByRecursion (IsPutOf files) changes
    → map (filled files) (map bare changes) ≡ changes
filled_all files [] all = refl
filled_all files (c ∷ cs) all = ap (λ one. one ∷ map (filled files) (map bare cs)) (filled_one files c all.0)
    ∙ ap (λ l. c ∷ l) (filled_all files cs all.1)

readable_all : (files : Map) (changes : List Change) → AllByRecursion (IsPutOf files) changes
    → AllByRecursion (PutsReadable files) (map bare changes)
readable_all files [] all = tt
readable_all files (c ∷ cs) all = (readable_one files c all.0, readable_all files cs all.1)

bare_names : (changes : List Change) → map changed_name (map bare changes) ≡ map changed_name changes
bare_names [] = refl
bare_names (c ∷ cs) = ap (λ name. name ∷ map changed_name (map bare cs)) (bare_name c)
    ∙ ap (λ l. changed_name c ∷ l) (bare_names cs)

-- ---- each of the changes is found under its name

none_above : (name : List ℕ) (changes : List Change) → ComesBeforeAll name (map changed_name changes)
    → change_at name changes ≡ None
none_above name [] above = refl
none_above name (c ∷ cs) above =
    change_is name c cs false (eq_back (changed_name c) name ∙ less_apart name (changed_name c) above.0)
    ∙ none_above name cs above.1

module _ (P : Change → Type 0) where
  members : (changes : List Change) → NamesAscend changed_name changes
      → ((name : List ℕ) (change : Change) → change_at name changes ≡ Some change → P change)
      → AllByRecursion P changes
  members [] ascend all = tt
  members (c ∷ cs) ascend all = (
    all (changed_name c) c (change_is (changed_name c) c cs true (eq_itself (changed_name c))),
    members cs (rest changed_name c cs ascend) (λ name d at. all name d (later name d at)),
  )
    where
      later : (name : List ℕ) (d : Change) → change_at name cs ≡ Some d → change_at name (c ∷ cs) ≡ Some d
      later name d at = by (bytes_eq (changed_name c) name) refl
        where
          by : (b : Bool) → bytes_eq (changed_name c) name ≡ b → change_at name (c ∷ cs) ≡ Some d
          by true t =
              let none : change_at name cs ≡ None = none_above name cs
              (subst (λ n. ComesBeforeAll n (map changed_name cs)) (same_names (changed_name c) name t)
              (first changed_name c cs ascend)) in absurd (cc)
          by false f = change_is name c cs false f ∙ at

-- ---- what differs and is put can be read

good_is : (content : Content) → is_readable content ≡ true → content ≡ Good (readable_bytes content)
good_is (Good bytes) is = refl
good_is (Bad salvage) is = absurd (cc)

module _ (files stored : Map) (unreadable : AreAsStored stored files) where
  readable_where : (name : List ℕ) (file : Element) → element_at files name ≡ Some file
      → (element_at stored name ≡ Some file → ⊥) → is_readable file.content ≡ true
  readable_where name file at other = by (is_readable file.content) refl
    where
      by : (b : Bool) → is_readable file.content ≡ b → b ≡ true
      by true p = refl
      by false p = absurd (other (unreadable name file at p))

  put_of : (name : List ℕ) (file : Element) → element_at files name ≡ Some file
      → (element_at stored name ≡ Some file → ⊥) → IsPutOf files (put name file)
  put_of name file at other = (file, at, good_is file.content (readable_where name file at other))

  arrives : (name : List ℕ) (file : Element) → element_at files name ≡ Some file → (old : Option Element)
      → element_at stored name ≡ old → (change : Change) → arrival name old file ≡ Some change → IsPutOf files change
  arrives name file at None is change e =
      let same : put name file ≡ change = cc in
      subst (IsPutOf files) same (put_of name file at (λ found. absurd (cc)))
  arrives name file at (Some o) is change e = by (same_element o file) refl e
    where
      by : (b : Bool) → same_element o file ≡ b → cond b None (Some (replacement name o file)) ≡ Some change
          → IsPutOf files change
      by true t e = absurd (cc)
      by false f e =
          let same : replacement name o file ≡ change = cc in
          subst (IsPutOf files) same (replaced (same_bytes o file) file.info)
        where
          other : element_at stored name ≡ Some file → ⊥
          other found =
              let one : o ≡ file = cc in
              let alike : same_element o file ≡ true = ap (λ x. same_element x file) one ∙ same_itself file in cc

          replaced : (b : Bool) (info : Option FileInfo) → IsPutOf files
              (cond b (touch name file info) (put name file))
          replaced true None = put_of name file at other
          replaced true (Some info) = tt
          replaced false info = put_of name file at other

  differs : (name : List ℕ) (new : Option Element) → element_at files name ≡ new → (old : Option Element)
      → element_at stored name ≡ old → (change : Change) → difference name old new ≡ Some change
      → IsPutOf files change
  differs name None at None is change e = absurd (cc)
  differs name None at (Some o) is change e =
      let gone : Change = Remove name in
      let same : gone ≡ change = cc in subst (IsPutOf files) same tt
  differs name (Some file) at old is change e = arrives name file at old is change e

  each_put : IsStrictlySortedBy name_cmp (names_of files) → IsStrictlySortedBy name_cmp (names_of stored)
      → AllByRecursion (IsPutOf files) (walked files stored)
  each_put of_files of_stored =
      let made = walk_makes files stored of_files of_stored in
      members (IsPutOf files) (walked files stored) made.names_ascend
      (λ name change at. differs name (element_at files name) refl (element_at stored name) refl change
      (sym (made.exact name) ∙ at))

-- what a lending asks of changes without bytes, and what it makes of them
pub record IsLendable (files : Map) (changes full : List Change) : Type 0 where
  pub ascend : NamesAscend changed_name changes
  pub readable : AllByRecursion (PutsReadable files) changes
  pub fills : map (filled files) changes ≡ full

pub lendable : (config : StorageData) (store : Store) (files : Map) (handles : Handles) (changes : List Change)
    → IsTable (storage_of config) files handles → AreAsStored (stored_in store) files
    → IsView (store_shape store) (view_in store) → changes ≡ map bare (walked files (stored_in store))
    → IsLendable files changes (walked files (stored_in store))
lendable config store files handles changes table unreadable view is =
    let of_stored = subst (λ names. IsStrictlySortedBy name_cmp names) (sym (keys_are (entries_of store)))
    view.names_ascend in
    let all = each_put files (stored_in store) unreadable table.names of_stored in
    let made = walk_makes files (stored_in store) table.names of_stored in
    record {
      ascend = subst (λ names. IsStrictlySortedBy name_cmp names)
          (sym (ap (map changed_name) is ∙ bare_names (walked files (stored_in store)))) made.names_ascend;
      readable = subst (AllByRecursion (PutsReadable files)) (sym is)
          (readable_all files (walked files (stored_in store)) all);
      fills = ap (map (filled files)) is ∙ filled_all files (walked files (stored_in store)) all;
    }

-- so the changes with the bytes that were lent are those of a sync
pub last_sync : UntestedLaw → (config : StorageData) (store : Store) (files : Map) (handles : Handles)
    (changes new : List Change) → IsTable (storage_of config) files handles
    → IsConfigured kinds.Files config (store_shape store) → AreAsStored (stored_in store) files
    → IsView (store_shape store) (view_in store) → changes ≡ map bare (walked files (stored_in store))
    → new ≡ map (filled files) changes
    → IsSync (store_shape store) (λ bytes. true) (view_in store) (stored_in store) files new
last_sync untested config store files handles changes new table configured unreadable view is made =
    is_sync untested config store files handles new table configured unreadable view
    (made ∙ (lendable config store files handles changes table unreadable view is).fills)

-- no handle is open where that is what refuses nothing
pub none_open : (handles : Handles) (next : Option PerError) → or_next (busy (lowest handles)) next ≡ None
    → handles ≡ []
none_open [] next none = refl
none_open (h ∷ hs) next none = absurd (cc)
