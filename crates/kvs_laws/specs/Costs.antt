-- What of an index changes with the value of one key, and how many runs of 256 bytes that reaches.
use Rattle.std.specs.Prelude.{◌≡◌, ◌⊎◌, ◌≤◌, ℕ, ◌+◌, ◌-◌, ◌*◌, List, [], ◌∷◌, ◌++◌, length, Some}
use Rattle.std.specs.Int.{div_ceil}
use Rattle.std.specs.List.{AllZip}
use Rattle.per_base.specs.declared.elements.StoreKind.TheVariants.{Keys}
use Rattle.per_base.specs.declared.elements.Change.TheVariants.{Put}
use Rattle.per_base.specs.declared.elements.Entry.{Entry}
use Rattle.per_base.specs.declared.elements.Fresh.{Fresh}
use Rattle.per_base.specs.Contents.{blocks_for}
use Rattle.disk_model.specs.Image.{Image}
use Rattle.disk_model.specs.declared.place.Place.{Place}
use Rattle.hash_guard.specs.SealedText.{sealed}
use Rattle.guarded_cell.specs.Register.{own}
use Rattle.guarded_cell.specs.Differing.{IsOver, texts_cost}
use Rattle.index_text.specs.declared.entries.Index.{Index}
use Rattle.index_text.specs.declared.entries.IndexEntry.{IndexEntry}
use Rattle.index_text.specs.Rules.{IsIndex}
use Rattle.index_text.specs.Sizes.{changed_length}
use Rattle.index_text.specs.Spelling.{index_text}
use Rattle.element_state.specs.Changes.{committed_by, entry_by_name}
use Rattle.element_store.specs.declared.store.Store.{Store}
use Rattle.element_store.specs.Changing.{KeepsOthers}
use Rattle.element_store.specs.Committing.{index_in}
use Rattle.element_store.specs.Stores.{IsStore, entries_of, store_shape, view_in}

-- ---- bytes

-- two lists of bytes, of one length, are equal outside of one span of at most this many bytes
pub record DifferWithin (len : ℕ) (old new : List ℕ) : Type 0 where
  pub before : List ℕ
  pub old_span : List ℕ
  pub new_span : List ℕ
  pub behind : List ℕ
  pub old_is : old ≡ before ++ (old_span ++ behind)
  pub new_is : new ≡ before ++ (new_span ++ behind)
  pub as_long : length old_span ≡ length new_span
  pub within : length new_span ≤ len

-- how many runs a span of this many bytes reaches at most, wherever it begins
abbrev pub runs_reached : ℕ → ℕ
runs_reached len = 1 + div_ceil (len - 1) 256

-- ---- indexes

-- the bytes of an entry that its value decides, in a text of this format: the generation of its last change, its length
-- (4), its hash (32), and 4 for each of its blocks
abbrev pub value_length : (format blocks : ℕ) → ℕ
value_length format blocks = 36 + changed_length format + 4 * blocks

-- the entry of the key of this name in two indexes: its value may differ, and takes this many blocks in both
pub record IsOfValue (name : List ℕ) (blocks : ℕ) (old new : IndexEntry) : Type 0 where
  pub old_name : old.name ≡ name
  pub new_name : new.name ≡ name
  pub info : new.info ≡ old.info
  pub old_blocks : length old.blocks ≡ blocks
  pub new_blocks : length new.blocks ≡ blocks

-- two indexes differ at most in the value of the key of this name, which takes this many blocks in both: any other
-- entry is the same in both, and at the same place
pub record ChangesValue (name : List ℕ) (blocks : ℕ) (old new : Index) : Type 0 where
  pub format : new.format ≡ old.format
  pub kind : new.kind ≡ old.kind
  pub entries : AllZip (λ d e. (e ≡ d) ⊎ IsOfValue name blocks d e) old.entries new.entries

-- ---- commits

-- The indexes a, b and c follow one another: a was put into every copy under generation g and b under the next, from
-- the image `start` by way of `mid` to `now`, and c is to be put next.
pub record Follow (place : Place) (g : ℕ) (a b c : Index) (start mid now : Image) : Type 0 where
  pub index_a : IsIndex a
  pub index_b : IsIndex b
  pub index_c : IsIndex c
  pub first : IsOver place g (sealed g (index_text a)) start mid
  pub second : IsOver place (g + 1) (sealed (g + 1) (index_text b)) mid now

-- how many bytes of the index c are then written at most, in all copies
abbrev pub next_cost : (place : Place) (g : ℕ) (c : Index) (now : Image) → ℕ
next_cost place g c now = texts_cost place (own (g + 2)) (sealed (g + 2) (index_text c)) now place.copies

-- ---- a commit that puts one value

-- What the clauses of a commit say of a storage of keys before and after it, where its one change puts a value of a key
-- that is there, and this value takes as many blocks as the one before.
pub record PutsValue (f : Fresh) (old new : Store) : Type 0 where
  pub kind : (store_shape old).kind ≡ Keys
  pub old_store : IsStore old
  pub new_store : IsStore new
  pub shape : store_shape new ≡ store_shape old
  pub view : view_in new ≡ committed_by (store_shape old) (view_in old) (Put f ∷ [])
  pub carried : KeepsOthers (Put f ∷ []) (index_in old).entries (index_in new).entries
  pub old_format : (index_in old).format ≡ 2
  pub new_format : (index_in new).format ≡ 2
  pub was : Entry
  pub there : entry_by_name f.name (entries_of old) ≡ Some was
  pub as_many : blocks_for was.len ≡ blocks_for (length f.bytes)
