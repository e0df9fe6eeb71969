-- A storage in use: what it keeps in memory, and what it shows.
use Rattle.std.specs.Prelude.{◌≡◌, ◌≤◌, ◌+◌, ℕ, List, length, Bool, IsTrue}
use Rattle.std.specs.List.{All, AllZip}
use Rattle.per_base.specs.declared.elements.Entry.{Entry}
use Rattle.disk_model.specs.Image.{Image}
use Rattle.disk_model.specs.Orders.{named_in}
use Rattle.block_files.specs.BlockSets.{contains, free_of}
use Rattle.guarded_cell.specs.Cells.{place_of, generation_of}
use Rattle.index_text.specs.declared.entries.IndexEntry.{IndexEntry}
use Rattle.index_text.specs.Rules.{blocks_of}
use Rattle.index_text.specs.Sizes.{area_blocks}
use Rattle.index_text.specs.Spelling.{index_text}
use Rattle.element_state.specs.declared.shapes.Shape.{Shape}
use Rattle.element_state.specs.declared.shapes.View.{View}
use Rattle.element_state.specs.States.{whole_view}
use Rattle.element_state.specs.Chosen.{IsReadBy}
use Rattle.element_state.specs.Conditions.{IsShape, IsInUse}
use Rattle.element_store.specs.Hashing.{AreOfElement}
use Rattle.element_store.specs.Spelled.{IsTextOf}
use Rattle.element_store.specs.declared.store.Store.{Store}

-- how a storage in use is configured
abbrev pub store_shape : Store → Shape
store_shape store = store.shape

-- the elements of a storage in use, ascending by name
abbrev pub entries_of : Store → List Entry
entries_of store = store.entries.items

-- the generation of the index of a storage in use
abbrev pub store_generation : Store → ℕ
store_generation store = generation_of store.cell

-- the view that a storage in use shows: its elements under the generation of its index, with its text in every copy
abbrev pub view_in : Store → View
view_in store = whole_view store.shape (generation_of store.cell) store.entries.items

-- a set of that many blocks, with true for each that is taken, has exactly those of these entries: all others are free
pub record AreTaken (blocks : ℕ) (entries : List IndexEntry) (set : List Bool) : Type 0 where
  pub capacity : length set ≡ blocks
  pub exact : (b : ℕ) → contains set b ≡ named_in (blocks_of entries) b
  pub free : blocks ≤ free_of set + length (blocks_of entries)

-- what it keeps in memory, whether or not the disk is modelled: a register at its place, and an index that fits, with
-- its elements, its blocks, and states of the hasher after parts of contents
pub record IsStore (store : Store) : Type 0 where
  pub place : place_of store.cell ≡ store.shape.place
  pub shape : IsShape store.shape
  pub positive : 1 ≤ generation_of store.cell
  pub index : IsTextOf store.shape (index_text store.index) store.index
  pub entries : AllZip (IsReadBy store.shape.place.copies) store.index.entries store.entries.items
  pub taken : AreTaken (area_blocks store.shape.allowed) store.index.entries store.used
  pub kept : All (AreOfElement store.entries.items) store.kept.items

-- the storage is in use on a disk with this image: what it keeps in memory is in order, and, where the disk's bytes are
-- modelled, is what the copies hold
pub record IsUsed (told : Bool) (image : Image) (store : Store) : Type 0 where
  pub memory : IsStore store
  pub disk : IsTrue told → IsInUse store.shape image store.index (view_in store)
