-- A sync: what is handed down may be committed, and what the commit makes.
use Rattle.std.proofs.Common.{◌≡◌, ℕ, ◌+◌, ◌*◌, ◌≤◌, List, [], length, Bool, true, false, refl, sym, ◌∙◌, ap}
use Rattle.std.proofs.Common.{subst, arith}
use Rattle.std.specs.Prelude.{Option, Some, IsTrue, not, ◌↔◌}
use Rattle.std.proofs.Math.Nat.{mul-le-mul_left}
use Rattle.per_base.specs.declared.elements.Content.{Content}
use Rattle.per_base.specs.declared.elements.Content.TheVariants.{Good, Bad}
use Rattle.per_base.specs.declared.elements.Element.{Element}
use Rattle.per_base.specs.declared.elements.StoreKind.{StoreKind}
use Rattle.per_base.specs.declared.elements.StoreKind.TheVariants.{Keys}
use Rattle.per_base.specs.Maps.{Map, element_at}
use Rattle.per_base.specs.declared.elements.Change.{Change}
use Rattle.per_base.specs.Contents.{is_readable}
use Rattle.disk_model.specs.Frame.{IsSettledOn, Spares}
use Rattle.disk_model.specs.Medium.{EachCase, Elapses, Medium, Quiet, IsLawful}
use Rattle.disk_model.specs.Place.{IsOutside}
use Rattle.disk_model.specs.Laws.{elapses_none}
use Rattle.index_text.specs.Spelling.{index_text}
use Rattle.element_state.specs.declared.shapes.Shape.{Shape}
use Rattle.element_state.specs.declared.shapes.View.{View}
use Rattle.element_state.specs.Changes.{committed, committed_by}
use Rattle.element_state.specs.Clean.{IsClean}
use Rattle.element_state.specs.Conditions.{IsShape}
use Rattle.element_state.specs.Kept.{KeptThroughout, KeptWhileMending}
use Rattle.element_state.specs.Read.{IsView}
use Rattle.element_state.specs.States.{State, Opens}
use Rattle.element_state.specs.Written.{IsWithin, commit_cost, map_cost}
use Rattle.element_laws.specs.Phases.{UntouchedLaw}
use Rattle.element_maps.specs.Differences.{MakeInto}
use Rattle.element_maps.specs.Laws.{CommittedLaw, CostLaw, HeldLaw, UnchangedNamesLaw}
use Rattle.element_maps.specs.Sessions.{IsHeldElement, IsNext, IsSync, IsWritable, PassesTest}
use Rattle.element_maps.specs.Storages.{IsConfigured, IsDurable, IsStoring}
use Rattle.element_store.specs.declared.store.Store.{Store}
use Rattle.element_store.specs.Changing.{KeepsOthers}
use Rattle.element_store.specs.Committing.{index_in, index_length}
use Rattle.element_store.specs.Stores.{IsUsed, entries_of, store_shape, view_in}
use Rattle.element_laws.specs.lemmas.Untouched.{kept_mending, none_around, none_kept}
use Rattle.key_maps.specs.KeyElements.{Encodes, IsKey, is_encoding}
use Rattle.key_maps.specs.TwoMaps.{AreTwoMaps}
use Rattle.kvs_core.specs.Sessions.{HasRoom}
use Rattle.kvs_store.specs.Storages.{IsOpen, KvsSession, keys_in, kvs_session}
use Rattle.kvs_store.specs.Synced.{IsSynced, WritesAtMost, is_synced, marked_synced, synced_view}

-- ---- where nothing is called

pub none_storing : UntouchedLaw → (told : Bool) (shape : Shape) (after : State) (m : Medium) → IsShape shape
    → IsLawful told m → IsStoring told shape after m m
none_storing untouched told shape after m is law = record {
  elsewhere = λ tells file spared. refl;
  outside = λ tells quiet. none_around told shape.place m law quiet;
  any_moment = λ tells. kept_mending shape after m m (none_kept untouched told shape after m is law);
  time = elapses_none law;
}

-- an opening, whatever the next state is to be
pub opened_storing : (told : Bool) (shape : Shape) (old new : Medium)
    → (IsTrue told → Spares (IsOutside shape.place) old.image new.image)
    → (IsTrue told → Quiet old → EachCase (IsSettledOn (IsOutside shape.place) old.image) old
    new)
    → (IsTrue told → (after : State) → KeptWhileMending shape after old new) → Elapses old new → (after : State)
    → IsStoring told shape after old new
opened_storing told shape old new elsewhere outside any_moment time after = record {
  elsewhere = elsewhere;
  outside = outside;
  any_moment = λ tells. any_moment tells after;
  time = time;
}

pub same_view : (kvs : KvsSession) → is_synced kvs ≡ true → synced_view kvs ≡ view_in kvs.store
same_view kvs is = rw is refl

pub within_none : (copies contents index written : ℕ) → IsWithin copies contents index written written
within_none copies contents index written = omega arith

pub none_written : (kvs : KvsSession) (m : Medium) → WritesAtMost kvs m m
none_written kvs m = within_none (store_shape kvs.store).place.copies
    (map_cost (store_shape kvs.store).kind kvs.session.synced kvs.session.visible)
    (index_length (store_shape kvs.store).kind (synced_view kvs).entries) m.written

-- both maps are then as they were
pub none_marked : (kvs : KvsSession) → kvs.session.synced ≡ kvs.session.visible
    → kvs ≡ record kvs { store = kvs.store; session = marked_synced kvs.session }
none_marked kvs same = ap (λ (m : Map). let later : KvsSession =
    record kvs { session = record kvs.session { synced = m } } in later) same

pub none_durable : (told : Bool) (kvs : KvsSession) (index : ℕ) (m : Medium) → is_synced kvs ≡ true
    → IsDurable told (store_shape kvs.store) kvs.session.synced kvs.session.visible index m m
none_durable told kvs index m same = record {
  durable = λ differ. absurd (cc);
  quiet = λ quiet. quiet;
  clean = λ tells clean. clean;
  written = within_none (store_shape kvs.store).place.copies
      (map_cost (store_shape kvs.store).kind kvs.session.synced kvs.session.visible) index m.written;
  passes = refl;
}

-- a test that is false just where both are equal, beside one that is true just there
pub decided : (differs same : Bool) (P : Type 0) → (differs ≡ false) ↔ P → (same ≡ true) ↔ P → not differs ≡ same
decided true true P one two = let no : true ≡ false = one.1 (two.0 refl) in absurd (cc)
decided true false P one two = refl
decided false true P one two = refl
decided false false P one two = let no : false ≡ true = two.1 (one.0 refl) in absurd (cc)

-- ---- what is handed down

-- a key is as a storage of keys asks
writable : (kind : StoreKind) → kind ≡ Keys → (key : Element) (bytes : List ℕ) → key.content ≡ Good bytes → IsKey key
    → IsWritable kind key bytes
writable kind keys key bytes good is =
    subst (λ (k : StoreKind). IsWritable k key bytes) (sym keys)
    (record { info = rw is.plain refl; length = (encodes good).1; small = is.small })
  where
    encodes : key.content ≡ Good bytes → Encodes (Good bytes) key.len
    encodes p = subst (λ (c : Content). Encodes c key.len) p is.measured

held_as : (kind : StoreKind) → kind ≡ Keys → (synced : Option Element) (key : Element) (content : Content)
    → key.content ≡ content → IsKey key
    → (is_readable content ≡ false → synced ≡ Some key) → IsHeldElement kind synced key content
held_as kind keys synced key (Good bytes) p is unreadable = writable kind keys key bytes p is
held_as kind keys synced key (Bad salvage) p is unreadable = unreadable refl

module _ (kvs : KvsSession) (is : IsOpen kvs.store (kvs_session kvs))
    (read : IsView (store_shape kvs.store) (view_in kvs.store)) (maps : AreTwoMaps kvs.session)
    (room : HasRoom kvs.config kvs.session) (changes : List Change)
    (made : MakeInto changes kvs.session.synced kvs.session.visible) where
  next_map : IsNext (store_shape kvs.store) kvs.session.synced kvs.session.visible
  next_map = record {
    names_ascend = maps.visible.ordered;
    few = maps.visible.few;
    small = omega (arith, room.visible, is.configured.allowed);
    each = λ name key at. held_as (store_shape kvs.store).kind is.configured.kind (element_at kvs.session.synced name) key
        key.content refl
        (maps.visible.keys name key at) (maps.unreadable name key at);
  }

  pub is_sync : IsSync (store_shape kvs.store) is_encoding (view_in kvs.store) kvs.session.synced kvs.session.visible
      changes
  is_sync = record { read = read; held = is.synced; next = next_map; made = made }

  visible_passes : PassesTest is_encoding kvs.session.visible
  visible_passes name key bytes at good = (subst (λ (c : Content). Encodes c key.len) good
      (maps.visible.keys name key at).measured).0

  next_keys : HeldLaw → keys_in (committed (store_shape kvs.store) (view_in kvs.store) kvs.session.synced
      kvs.session.visible) ≡ kvs.session.visible
  next_keys held = held (store_shape kvs.store) is_encoding (view_in kvs.store) kvs.session.synced kvs.session.visible
      changes is_sync visible_passes

  -- the storage after the commit keeps what always holds
  pub open_later : CommittedLaw → HeldLaw → (later : Store) → store_shape later ≡ store_shape kvs.store
      → view_in later ≡ committed_by (store_shape kvs.store) (view_in kvs.store) changes
      → IsOpen later (record (kvs_session kvs) { synced = kvs.session.visible })
  open_later law held later shape view = record {
    configured = subst (λ (s : Shape). IsConfigured Keys kvs.config s) (sym shape) is.configured;
    synced = sym (ap keys_in (view ∙ law (store_shape kvs.store) is_encoding (view_in kvs.store) kvs.session.synced
        kvs.session.visible changes is_sync) ∙ next_keys held);
  }

-- ---- what a commit makes

differ_view : (kvs : KvsSession) → is_synced kvs ≡ false
    → synced_view kvs ≡ committed (store_shape kvs.store) (view_in kvs.store) kvs.session.synced kvs.session.visible
differ_view kvs differ = rw differ refl

within_more : (copies contents more index before after : ℕ) → contents ≤ more
    → IsWithin copies contents index before after → IsWithin copies more index before after
within_more copies contents more index before after less within =
    let grows : copies * (contents + index + 88) ≤ copies * (more + index + 88) =
    mul-le-mul_left copies (omega arith) in
    omega (arith, within, grows)

module _ (kvs : KvsSession) (changes : List Change) (sync : IsSync (store_shape kvs.store) is_encoding (view_in kvs.store)
    kvs.session.synced kvs.session.visible changes)
    (differ : is_synced kvs ≡ false) (law : CommittedLaw) where
  view_then : committed_by (store_shape kvs.store) (view_in kvs.store) changes ≡ synced_view kvs
  view_then = law (store_shape kvs.store) is_encoding (view_in kvs.store) kvs.session.synced kvs.session.visible changes
      sync ∙ sym (differ_view kvs differ)

  abbrev pub cost_then : ℕ
  cost_then = commit_cost (store_shape kvs.store).kind (entries_of kvs.store) changes

  abbrev pub cost_between : ℕ
  cost_between = map_cost (store_shape kvs.store).kind kvs.session.synced kvs.session.visible

  costs : CostLaw → cost_then ≤ cost_between
  costs cost = cost (store_shape kvs.store) is_encoding (view_in kvs.store) kvs.session.synced kvs.session.visible changes
      sync

  pub commit_at_most : CostLaw → (old new : Medium)
      → IsWithin (store_shape kvs.store).place.copies cost_then
      (index_length (store_shape kvs.store).kind (committed_by (store_shape kvs.store) (view_in kvs.store)
      changes).entries) old.written new.written
      → WritesAtMost kvs old new
  commit_at_most cost old new within = subst (λ (v : View).
      IsWithin (store_shape kvs.store).place.copies cost_between (index_length (store_shape kvs.store).kind v.entries)
      old.written new.written) view_then
      (within_more (store_shape kvs.store).place.copies cost_then cost_between
      (index_length (store_shape kvs.store).kind (committed_by (store_shape kvs.store) (view_in kvs.store)
      changes).entries)
      old.written new.written (costs cost) within)

  pub commit_synced : CostLaw → UnchangedNamesLaw → (told : Bool) (later : Store) (old new : Medium)
      → view_in later ≡ committed_by (store_shape kvs.store) (view_in kvs.store) changes
      → store_shape later ≡ store_shape kvs.store → IsUsed told new.image later
      → (IsTrue told → IsClean (store_shape kvs.store) old.image → IsClean (store_shape kvs.store) new.image) → Quiet new
      → IsWithin (store_shape kvs.store).place.copies cost_then (length (index_text (index_in later))) old.written
      new.written
      → KeepsOthers changes (index_in kvs.store).entries (index_in later).entries → (index_in later).format ≡ 2
      → length (index_text (index_in later)) ≡ index_length (store_shape kvs.store).kind (entries_of later)
      → new.faults ≡ old.faults
      → IsSynced told kvs (record kvs { store = later; session = marked_synced kvs.session }) old new
  commit_synced cost others told later old new view shape used clean quiet written carried format text passes = record {
    session = refl;
    shape = shape;
    view = view ∙ view_then;
    used = used;
    durable = record {
      durable = λ differs. quiet;
      quiet = λ before. quiet;
      clean = clean;
      written = within_more (store_shape kvs.store).place.copies cost_then cost_between
          (length (index_text (index_in later))) old.written new.written (costs cost) written;
      passes = passes;
    };
    carried = λ name same. carried name (others kvs.session.synced kvs.session.visible changes sync.made name same);
    format = λ differs. format;
    text = λ differs. text;
  }

  pub commit_storing : (told : Bool) (old new : Medium)
      → (IsTrue told → Spares (IsOutside (store_shape kvs.store).place) old.image
      new.image)
      → (IsTrue told → Quiet old → EachCase (IsSettledOn (IsOutside (store_shape kvs.store).place) old.image) old new)
      → (IsTrue told → KeptThroughout (store_shape kvs.store)
      (Opens (committed_by (store_shape kvs.store) (view_in kvs.store) changes) []) old new)
      → Elapses old new → IsStoring told (store_shape kvs.store) (Opens (synced_view kvs) []) old new
  commit_storing told old new elsewhere outside any_moment time = record {
    elsewhere = elsewhere;
    outside = outside;
    any_moment = λ tells. kept_mending (store_shape kvs.store) (Opens (synced_view kvs) []) old new
        (subst (λ (v : View). KeptThroughout (store_shape kvs.store) (Opens v []) old new) view_then (any_moment tells));
    time = time;
  }
