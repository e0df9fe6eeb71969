-- The second half of a commit.
use Rattle.std.proofs.Common.{◌≡◌, ℕ, ◌+◌, ◌*◌, ◌≤◌, List, Bool, Vec, Global, IsTrue, refl, sym, ap, ◌∙◌, subst, arith}
use Rattle.std.proofs.Common.{inl, inr, ⊎_elim}
use Rattle.std.specs.List.{All, AllByRecursion, AllZip}
use Rattle.per_base.specs.declared.elements.StoreKind.{StoreKind}
use Rattle.per_base.specs.declared.elements.StoreKind.TheVariants.{Keys, Files}
use Rattle.per_base.specs.declared.elements.Entry.{Entry}
use Rattle.per_base.specs.declared.elements.Change.{Change}
use Rattle.per_base.specs.declared.elements.Change.TheVariants.{Put, Remove, Touch}
use Rattle.per_base.specs.Names.{NamesAscend}
use Rattle.guarded_cell.specs.declared.cell.Cell.{Cell}
use Rattle.guarded_cell.specs.Cells.{place_of, IsCellOf}
use Rattle.index_text.specs.declared.entries.Index.{Index}
use Rattle.index_text.specs.declared.entries.IndexEntry.{IndexEntry}
use Rattle.index_text.specs.Sizes.{area_blocks}
use Rattle.index_text.specs.Spelling.{index_text}
use Rattle.element_state.specs.declared.shapes.View.{View}
use Rattle.element_state.specs.Changes.{after_changes, committed_by, entry_name}
use Rattle.element_state.specs.Chosen.{IsReadBy}
use Rattle.element_state.specs.Conditions.{IsChange, IsInUse}
use Rattle.element_state.specs.States.{whole_view}
use Rattle.element_state.specs.Written.{commit_cost, IsWithin}
use Rattle.element_store.specs.declared.store.Store.{Store}
use Rattle.element_store.specs.declared.hashing.KeptStates.{KeptStates}
use Rattle.element_store.specs.Hashing.{AreOfElement}
use Rattle.element_store.specs.Changing.{IsSmallChange, IsGrownBy}
use Rattle.element_store.specs.Committing.{index_length}
use Rattle.element_store.specs.Taking.{AreOfEither}
use Rattle.element_store.specs.Spelled.{IsTextOf}
use Rattle.element_store.specs.Stores.{IsStore, IsUsed, AreTaken, view_in, store_generation}
use Rattle.element_store.proofs.PlanSteps.{each_map}
use Rattle.element_store.proofs.Changed.{views_ascend}
use Rattle.element_store.proofs.Standing.{standing_of}
use Rattle.hash_guard.specs.SealedText.{VerifiesAs}
use Rattle.disk_model.specs.Image.{Image}
use Rattle.disk_model.specs.Frame.{Spares}
use Rattle.disk_model.specs.Place.{slot, IsNoArea}
use Rattle.disk_model.specs.lemmas.Places.{slot_no_area}
use Rattle.disk_model.specs.declared.place.Place.{Place}
use Rattle.guarded_cell.specs.Register.{IsAlone, IsBlank, own, other}

-- a text that is held alone is so after writes to areas
pub alone_still : (place : Place) (generation : ℕ) (text : List ℕ) (old mid : Image)
    → Spares (IsNoArea place) old mid → IsAlone old place generation text
    → IsAlone mid place generation text
alone_still place generation text old mid same alone = record {
  held = λ copy lt. subst (λ (bytes : List ℕ). VerifiesAs bytes generation text)
      (sym (same (slot place copy (own generation)) (slot_no_area place copy (own generation) (omega arith))))
      (alone.held copy lt);
  blank = λ copy lt. subst IsBlank (sym (same (slot place copy (other generation))
      (slot_no_area place copy (other generation) (omega arith)))) (alone.blank copy lt);
}

small_change : (kind : StoreKind) (views : List Entry) (change : Change) → IsChange kind views change
    → IsSmallChange change
small_change Keys views (Put f) may = (let a = may.small in omega (arith, a))
small_change Files views (Put f) may = may.small
small_change kind views (Remove name) may = tt
small_change kind views (Touch name info) may = tt

pub small_changes : (kind : StoreKind) (views : List Entry) (changes : List Change)
    → AllByRecursion (IsChange kind views) changes → AllByRecursion IsSmallChange changes
small_changes kind views changes may = each_map (IsChange kind views) IsSmallChange changes
    (λ change is. small_change kind views change is) may

pub store_ascends : (store : Store) → IsStore store → NamesAscend entry_name store.entries.items
store_ascends store is = let st = standing_of store store.used is is.taken in
    views_ascend store.index.entries store.entries.items st.ascend st.read

-- the set of a commit on its way has blocks of the standing index and of the next one
pub of_either : (store : Store) → IsStore store → (next : Index) (used : List Bool) (these those : List IndexEntry)
    → these ≡ store.index.entries → those ≡ next.entries
    → IsGrownBy next.entries store.used used → AreOfEither these those used
of_either store is next used these those one two grown =
    subst (λ (es : List IndexEntry). AreOfEither es those used) (sym one)
    (subst (λ (es : List IndexEntry). AreOfEither store.index.entries es used) (sym two)
    (λ b has. ⊎_elim (λ was. inl (sym (is.taken.exact b) ∙ was)) (λ new. inr new) (grown b has)))

-- contents that are written stay within what a commit may write
pub contents_within : (store : Store) (changes slice : List Change) (before after : ℕ) → slice ≡ changes
    → after ≤ before + store.shape.place.copies * commit_cost store.shape.kind store.entries.items slice
    → IsWithin store.shape.place.copies (commit_cost store.shape.kind store.entries.items changes)
    (index_length store.shape.kind (committed_by store.shape (view_in store) changes).entries) before after
contents_within store changes slice before after same cost =
    let here = subst (λ (cs : List Change). after ≤ before
    + store.shape.place.copies * commit_cost store.shape.kind store.entries.items cs) same cost in
    within store.shape.place.copies (commit_cost store.shape.kind store.entries.items changes)
    (index_length store.shape.kind (committed_by store.shape (view_in store) changes).entries) here
  where
    within : (n c l : ℕ) → after ≤ before + n * c → after ≤ before + n * (c + l + 88)
    within n c l few = let split : n * (c + l + 88) ≡ n * c + n * (l + 88) = omega arith in omega (arith, few, split)

-- the storage that a commit hands up
module _ (told : Bool) (store s : Store) (changes : List Change) (alloc : Global) (cell : Cell) (index : Index)
    (entries : Vec Entry Global) (used : List Bool) (kept : Vec KeptStates Global)
    (is : s ≡ record {
      alloc = alloc;
      shape = store.shape;
      cell = cell;
      index = index;
      entries = entries;
      used = used;
      kept = kept;
    })
    (old : IsStore store) (of : IsCellOf (place_of store.cell) (store_generation store + 1) cell)
    (made : entries.items ≡ after_changes (cell.generation) store.entries.items changes) where
  after_is : entries.items ≡ after_changes (store_generation store + 1) store.entries.items changes
  after_is = made ∙ ap (λ (g : ℕ). after_changes g store.entries.items changes) of.counts

  committed_view : committed_by store.shape (view_in store) changes
      ≡ whole_view store.shape (store_generation store + 1) (after_changes
      (store_generation store + 1) store.entries.items
      changes)
  unfolding committed_by
  committed_view = refl

  pub finished_view : view_in s ≡ committed_by store.shape (view_in store) changes
  finished_view = ap view_in is ∙ ap (λ (g : ℕ). whole_view store.shape g entries.items) of.counts
      ∙ ap (λ (es : List Entry). whole_view store.shape (store_generation store + 1) es) after_is ∙ sym committed_view

  pub finished_used : (image : Image) → IsTextOf store.shape (index_text index) index
      → AllZip (IsReadBy store.shape.place.copies) index.entries
      (after_changes (store_generation store + 1) store.entries.items changes)
      → AreTaken (area_blocks store.shape.allowed) index.entries used
      → All (AreOfElement (after_changes (store_generation store + 1) store.entries.items changes)) kept.items
      → (IsTrue told → IsInUse store.shape image index (committed_by store.shape (view_in store) changes))
      → IsUsed told image s
  finished_used image text read taken states in_use = record {
    memory = subst IsStore (sym is) (record {
      place = of.lies ∙ old.place;
      shape = old.shape;
      positive = (let counts = of.counts in omega (arith, counts));
      index = text;
      entries = subst (λ (es : List Entry). AllZip (IsReadBy store.shape.place.copies) index.entries es) (sym after_is)
          read;
      taken = taken;
      kept = subst (λ (es : List Entry). All (AreOfElement es) kept.items) (sym after_is) states;
    });
    disk = λ tells. subst (λ (v : View). IsInUse s.shape image s.index v) (sym finished_view)
        (subst (λ (t : Store). IsInUse t.shape image t.index (committed_by store.shape (view_in store) changes))
        (sym is) (in_use tells));
  }
