-- What a sync owes to a commit, and what a commit makes of a session.
use Rattle.std.proofs.Common.{◌≡◌, ℕ, ◌+◌, ◌<◌, ◌≤◌, List, [], length, Bool, true, false, refl, sym, ◌∙◌, ap}
use Rattle.std.proofs.Common.{subst, arith}
use Rattle.std.specs.Prelude.{Option, Some, None, IsTrue, not, ◌&&◌, nat_le}
use Rattle.std.specs.List.Sorted.{IsStrictlySortedBy}
use Rattle.std.proofs.Math.Nat.{mul-le-mul_left}
use Rattle.std.proofs.lemmas.Bool.Decides.{nat_tests}
use Rattle.per_base.specs.declared.elements.Content.{Content}
use Rattle.per_base.specs.declared.elements.Content.TheVariants.{Good, Bad}
use Rattle.per_base.specs.declared.elements.Element.{Element}
use Rattle.per_base.specs.declared.elements.StoreKind.{StoreKind}
use Rattle.per_base.specs.declared.elements.StoreKind.TheVariants as kinds
use Rattle.per_base.specs.declared.errors.PerError.{PerError}
use Rattle.per_base.specs.Maps as maps
use Rattle.per_base.specs.Maps.{Map, element_at, names_of}
use Rattle.per_base.specs.Names.{name_cmp}
use Rattle.per_base.specs.declared.elements.Change.{Change}
use Rattle.per_base.specs.Contents.{HasLength, is_readable}
use Rattle.disk_model.specs.Frame.{IsSettledOn, Spares}
use Rattle.disk_model.specs.Medium.{EachCase, Elapses, Medium, Quiet, IsLawful}
use Rattle.disk_model.specs.Place.{IsOutside}
use Rattle.disk_model.specs.Laws.{elapses_none}
use Rattle.file_core.specs.Files.{IsFile}
use Rattle.file_handles.specs.Opening as opening
use Rattle.file_handles.specs.Sessions.{Handles, IsFileAt}
use Rattle.file_handles.specs.Tables.{IsTable}
use Rattle.file_handles.specs.declared.storage.Storage.{Storage}
use Rattle.index_text.specs.Rules.{has_info, max_len}
use Rattle.index_text.specs.Spelling.{index_text}
use Rattle.deployment_model.specs.Data.{StorageData}
use Rattle.element_state.specs.declared.shapes.Shape.{Shape}
use Rattle.element_state.specs.declared.shapes.View.{View}
use Rattle.element_state.specs.Changes.{committed, committed_by}
use Rattle.element_state.specs.Clean.{IsClean}
use Rattle.element_state.specs.Kept.{KeptThroughout, KeptWhileMending}
use Rattle.element_state.specs.Conditions.{IsShape}
use Rattle.element_state.specs.Read.{IsView}
use Rattle.element_state.specs.States.{Opens, State, greatest_generation, is_worn}
use Rattle.element_state.specs.Views.{map_of}
use Rattle.element_state.specs.Written.{IsWithin, commit_cost, map_cost}
use Rattle.element_laws.specs.Phases.{UntouchedLaw}
use Rattle.element_maps.specs.Differences.{MakeInto}
use Rattle.element_maps.specs.Laws.{CommittedLaw, CostLaw, DecidesLaw, HeldLaw, UnchangedNamesLaw, UntestedLaw}
use Rattle.element_maps.specs.Sessions.{IsHeldElement, IsSync, PassesTest}
use Rattle.element_maps.specs.Storages.{IsConfigured, IsStoring}
use Rattle.element_store.specs.declared.store.Store.{Store}
use Rattle.element_store.specs.Changing.{KeepsOthers}
use Rattle.element_store.specs.Committing.{index_in, index_length}
use Rattle.element_store.specs.Stores.{IsUsed, entries_of, store_shape, view_in}
use Rattle.element_laws.specs.lemmas.Untouched.{kept_mending, none_around, none_kept}
use Rattle.file_storage.specs.FileSessions.{AreAsStored, FilesInUse, IsOpen, storage_of, stored_in}
use Rattle.file_storage.specs.Syncs.{IsSynced, WritesAtMost, is_synced, synced_view, worn}
use Rattle.file_storage.specs.Walks.{walked}
use Rattle.file_storage.proofs.Making.{walk_makes}
use Rattle.file_storage.proofs.Stored.{keys_are}

-- ---- where nothing differs

pub same_view : (s : FilesInUse) → is_synced s ≡ true → synced_view s ≡ view_in s.store
same_view s is = rw is refl

pub differ_view : (s : FilesInUse) → is_synced s ≡ false
    → synced_view s ≡ committed (store_shape s.store) (view_in s.store) (stored_in s.store) s.session.files
differ_view s is = rw is refl

pub none_storing : UntouchedLaw → (told : Bool) (shape : Shape) (after : State) (m : Medium) → IsShape shape
    → IsLawful told m → IsStoring told shape after m m
none_storing untouched told shape after m is law = record {
  elsewhere = λ tells file spared. refl;
  outside = λ tells quiet. none_around told shape.place m law quiet;
  any_moment = λ tells. kept_mending shape after m m (none_kept untouched told shape after m is law);
  time = elapses_none law;
}

-- an opening, whatever the next state is to be
pub opened_storing : (told : Bool) (shape : Shape) (old new : Medium)
    → (IsTrue told → Spares (IsOutside shape.place) old.image new.image)
    → (IsTrue told → Quiet old → EachCase (IsSettledOn (IsOutside shape.place) old.image) old
    new)
    → (IsTrue told → (after : State) → KeptWhileMending shape after old new) → Elapses old new → (after : State)
    → IsStoring told shape after old new
opened_storing told shape old new elsewhere outside any_moment time after = record {
  elsewhere = elsewhere;
  outside = outside;
  any_moment = λ tells. any_moment tells after;
  time = time;
}

within_none : (copies contents index written : ℕ) → IsWithin copies contents index written written
within_none copies contents index written = omega arith

pub none_written : (s : FilesInUse) (m : Medium) → WritesAtMost s m m
none_written s m = within_none (store_shape s.store).place.copies
    (map_cost (store_shape s.store).kind (stored_in s.store) s.session.files)
    (index_length (store_shape s.store).kind (synced_view s).entries) m.written

pub none_synced : DecidesLaw → (told : Bool) (s : FilesInUse) (m : Medium) → IsUsed told m.image s.store
    → is_synced s ≡ true → IsSynced told s s m m
none_synced decides told s m used is = record {
  stored = (decides (stored_in s.store) s.session.files).0 is;
  view = sym (same_view s is);
  beside = refl;
  shape = refl;
  used = used;
  durable = record {
    durable = λ differ. absurd (cc);
    quiet = λ quiet. quiet;
    clean = λ tells clean. clean;
    written = within_none (store_shape s.store).place.copies
        (map_cost (store_shape s.store).kind (stored_in s.store) s.session.files) (length (index_text (index_in s.store)))
        m.written;
    passes = refl;
  };
  carried = λ name same. refl;
  format = λ differ. absurd (cc);
  text = λ differ. absurd (cc);
}

-- ---- what a commit needs

held : (kind : StoreKind) (stored : Option Element) (file : Element) (content : Content) → kind ≡ kinds.Files
    → file.content ≡ content → IsFile file → (is_readable content ≡ false → stored ≡ Some file)
    → IsHeldElement kind stored file content
held kind stored file (Good bytes) of_files is whole unreadable = record {
  info = subst (λ k. IsTrue (has_info k file.info)) (sym of_files) whole.informed;
  length = subst (λ c. HasLength c file.len) is whole.measured;
  small = subst (λ k. file.len ≤ max_len k) (sym of_files) whole.small;
}
held kind stored file (Bad salvage) of_files is whole unreadable = unreadable refl

pub is_sync : UntestedLaw → (config : StorageData) (store : Store) (files : Map) (handles : Handles)
    (changes : List Change) → IsTable (storage_of config) files handles
    → IsConfigured kinds.Files config (store_shape store) → AreAsStored (stored_in store) files
    → IsView (store_shape store) (view_in store) → changes ≡ walked files (stored_in store)
    → IsSync (store_shape store) (λ bytes. true) (view_in store) (stored_in store) files changes
is_sync untested config store files handles changes table configured unreadable view made = record {
  read = view;
  held = sym (untested (view_in store));
  next = record {
    names_ascend = table.names;
    few = table.few_files;
    small = subst (λ n. maps.size_of files ≤ n) (sym configured.allowed) table.room;
    each = λ name file at. held (store_shape store).kind (element_at (stored_in store) name) file file.content
        configured.kind refl
        (subst (λ found. IsFileAt found) at (table.whole name)) (unreadable name file at);
  };
  made = subst (λ cs. MakeInto cs (stored_in store) files) (sym made)
      (walk_makes files (stored_in store) table.names (subst (λ names. IsStrictlySortedBy name_cmp names)
      (sym (keys_are (entries_of store))) view.names_ascend));
}

not_worn_is : (test : Bool) (error : PerError) → opening.when test error ≡ None → test ≡ false
not_worn_is false error e = refl
not_worn_is true error e = absurd (cc)

left_over : (same last : Bool) → (not same && last) ≡ false → same ≡ false → last ≡ false
left_over false last e is = e
left_over true last e is = absurd (cc)

below : (g : ℕ) → nat_le greatest_generation g ≡ false → g < greatest_generation
below g e = grind (arith, nat_tests, e)

pub generation_left : (s : FilesInUse) → worn s ≡ None → is_synced s ≡ false
    → (view_in s.store).generation < greatest_generation
generation_left s none differ = below (view_in s.store).generation
    (left_over (is_synced s) (is_worn (view_in s.store)) (not_worn_is _ _ none) differ)

-- ---- what a commit makes

passes : (files : Map) → PassesTest (λ bytes. true) files
passes files name file bytes at is = refl

pub within_more : (copies contents more index before after : ℕ) → contents ≤ more
    → IsWithin copies contents index before after → IsWithin copies more index before after
within_more copies contents more index before after le is =
    let each : contents + index + 88 ≤ more + index + 88 = omega (arith, le) in
    omega (arith, is, mul-le-mul_left copies each)

pub stored_then : CommittedLaw → HeldLaw → UntestedLaw → (store later : Store) (files : Map) (changes : List Change)
    → IsSync (store_shape store) (λ bytes. true) (view_in store) (stored_in store) files changes
    → view_in later ≡ committed_by (store_shape store) (view_in store) changes → stored_in later ≡ files
stored_then made held untested store later files changes sync view =
    ap map_of (view ∙ made (store_shape store) (λ bytes. true) (view_in store) (stored_in store) files changes sync)
    ∙ sym (untested (committed (store_shape store) (view_in store) (stored_in store) files))
    ∙ held (store_shape store) (λ bytes. true) (view_in store) (stored_in store) files changes sync (passes files)

-- the session over the storage after a commit
pub open_later : (config : StorageData) (store later : Store) (storage : Storage) (files : Map)
    → IsOpen config store storage files → store_shape later ≡ store_shape store → stored_in later ≡ files
    → IsOpen config later storage files
open_later config store later storage files is shape stored = record {
  valid = is.valid;
  configured = subst (λ (sh : Shape). IsConfigured kinds.Files config sh) (sym shape) is.configured;
  same_storage = is.same_storage;
  unreadable = λ name file at bad. subst (λ (m : Map). element_at m name ≡ Some file) (sym stored) at;
}

view_then : CommittedLaw → (s : FilesInUse) (changes : List Change)
    → IsSync (store_shape s.store) (λ bytes. true) (view_in s.store) (stored_in s.store) s.session.files changes
    → is_synced s ≡ false
    → committed_by (store_shape s.store) (view_in s.store) changes ≡ synced_view s
view_then made s changes sync differ =
    made (store_shape s.store) (λ bytes. true) (view_in s.store) (stored_in s.store) s.session.files changes sync
    ∙ sym (differ_view s differ)

module _ (s : FilesInUse) (changes : List Change) (sync : IsSync (store_shape s.store) (λ bytes. true) (view_in s.store)
    (stored_in s.store) s.session.files changes)
    (differ : is_synced s ≡ false) (made : CommittedLaw) where
  abbrev pub cost_then : ℕ
  cost_then = commit_cost (store_shape s.store).kind (entries_of s.store) changes

  abbrev pub cost_between : ℕ
  cost_between = map_cost (store_shape s.store).kind (stored_in s.store) s.session.files

  costs : CostLaw → cost_then ≤ cost_between
  costs cost = cost (store_shape s.store) (λ bytes. true) (view_in s.store) (stored_in s.store) s.session.files changes
      sync

  pub commit_at_most : CostLaw → (old new : Medium)
      → IsWithin (store_shape s.store).place.copies cost_then
      (index_length (store_shape s.store).kind (committed_by (store_shape s.store) (view_in s.store) changes).entries)
      old.written new.written
      → WritesAtMost s old new
  commit_at_most cost old new within = subst (λ (v : View).
      IsWithin (store_shape s.store).place.copies cost_between (index_length (store_shape s.store).kind v.entries)
      old.written new.written)
      (view_then made s changes sync differ)
      (within_more (store_shape s.store).place.copies cost_then cost_between
      (index_length (store_shape s.store).kind (committed_by (store_shape s.store) (view_in s.store) changes).entries)
      old.written new.written (costs cost) within)

  pub commit_synced : HeldLaw → UntestedLaw → CostLaw → UnchangedNamesLaw
      → (told : Bool) (later : Store) (old new : Medium)
      → view_in later ≡ committed_by (store_shape s.store) (view_in s.store) changes
      → store_shape later ≡ store_shape s.store → IsUsed told new.image later
      → (IsTrue told → IsClean (store_shape s.store) old.image → IsClean (store_shape s.store) new.image) → Quiet new
      → IsWithin (store_shape s.store).place.copies cost_then (length (index_text (index_in later))) old.written
      new.written
      → KeepsOthers changes (index_in s.store).entries (index_in later).entries → (index_in later).format ≡ 2
      → length (index_text (index_in later)) ≡ index_length (store_shape s.store).kind (entries_of later)
      → new.faults ≡ old.faults
      → IsSynced told s (record s { store = later }) old new
  commit_synced held untested cost others told later old new view shape used clean quiet written carried format text
      passes = record {
        stored = stored_then made held untested s.store later s.session.files changes sync view;
        view = view ∙ view_then made s changes sync differ;
        beside = refl;
        shape = shape;
        used = used;
        durable = record {
          durable = λ differs. quiet;
          quiet = λ before. quiet;
          clean = clean;
          written = within_more (store_shape s.store).place.copies cost_then cost_between
              (length (index_text (index_in later))) old.written new.written (costs cost) written;
          passes = passes;
        };
        carried = λ name same. carried name (others (stored_in s.store) s.session.files changes sync.made name same);
        format = λ differs. format;
        text = λ differs. text;
      }

  pub commit_storing : (told : Bool) (old new : Medium)
      → (IsTrue told → Spares (IsOutside (store_shape s.store).place) old.image
      new.image)
      → (IsTrue told → Quiet old → EachCase (IsSettledOn (IsOutside (store_shape s.store).place) old.image) old new)
      → (IsTrue told → KeptThroughout (store_shape s.store) (Opens
      (committed_by (store_shape s.store) (view_in s.store) changes) []) old new)
      → Elapses old new → IsStoring told (store_shape s.store) (Opens (synced_view s) []) old new
  commit_storing told old new elsewhere outside any_moment time = record {
    elsewhere = elsewhere;
    outside = outside;
    any_moment = λ tells. kept_mending (store_shape s.store) (Opens (synced_view s) []) old new
        (subst (λ (v : View). KeptThroughout (store_shape s.store) (Opens v []) old new)
        (view_then made s changes sync differ) (any_moment tells));
    time = time;
  }
