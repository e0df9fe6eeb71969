-- The pieces of a place, texts in slots and contents in blocks; a place on which nothing contradicts anything, and a
-- case of a crash in which nothing passes its hash by chance.
use Rattle.std.specs.Prelude.{◌≡◌, ◌⊎◌, ℕ, ◌<◌, List, map, Option, Some, Contains}
use Rattle.disk_model.specs.declared.place.Place.{Place}
use Rattle.disk_model.specs.Image.{Image}
use Rattle.disk_model.specs.Case.{Case}
use Rattle.disk_model.specs.Damage.{IsSoundFor}
use Rattle.disk_model.specs.Place.{area}
use Rattle.guarded_cell.specs.Register.{Holds, IsOneEach}
use Rattle.guarded_cell.specs.Stops.{SlotText, IsSlotPiece}
use Rattle.block_files.specs.Aside.{Where}
use Rattle.block_files.specs.Contents.{counting}
use Rattle.index_text.specs.declared.entries.Index.{Index}
use Rattle.index_text.specs.declared.entries.IndexEntry.{IndexEntry}
use Rattle.index_text.specs.Reading.{index_of}
use Rattle.element_state.specs.declared.shapes.Shape.{Shape}
use Rattle.element_state.specs.Fit.{fit_index}

-- where the content of an entry is: its blocks, with its length and hash
abbrev pub where_of : IndexEntry → Where
where_of e = record { blocks = e.blocks; len = e.len; hash = e.hash }

-- an entry of an index that some copy holds has its content there
pub record IsNamed (place : Place) (image : Image) (at : Where) : Type 0 where
  pub copy : ℕ
  pub generation : ℕ
  pub text : List ℕ
  pub index : Index
  pub inside : copy < place.copies
  pub held : Holds image place copy generation text
  pub spelled : index_of text ≡ Some index
  pub named : Contains (map where_of index.entries) at

-- what a copy, counted from 0, gives there: its bytes, if they have the hash
abbrev pub counting_at : Image → Place → ℕ → Where → Option (List ℕ)
counting_at image place copy at = counting (image (area place copy)) at.blocks at.len at.hash

-- a content in the blocks of a copy
pub record BlockText : Type 0 where
  pub copy : ℕ
  pub at : Where
  pub bytes : List ℕ

-- a piece of an image, in blocks: the copy counts there, with these bytes, under an entry of an index that is held
pub record IsBlockPiece (place : Place) (image : Image) (piece : BlockText) : Type 0 where
  pub inside : piece.copy < place.copies
  pub named : IsNamed place image piece.at
  pub counts : counting_at image place piece.copy piece.at ≡ Some piece.bytes

-- a text in a slot, or a content in blocks
pub data Piece : Type 0 where
  in_slot : SlotText → Piece
  in_blocks : BlockText → Piece

-- the pieces of a place
abbrev pub IsPiece : Place → Image → Piece → Type 0
IsPiece place image (in_slot piece) = IsSlotPiece place image piece
IsPiece place image (in_blocks piece) = IsBlockPiece place image piece

-- a clean place: no two texts of one generation are held, each text that is held fits, and copies that count under one
-- entry hold the same bytes
pub record IsClean (shape : Shape) (image : Image) : Type 0 where
  pub one_each : IsOneEach image shape.place
  pub fit : (copy generation : ℕ) (text : List ℕ) → copy < shape.place.copies
      → Holds image shape.place copy generation text
      → (index : Index) × (fit_index shape text ≡ Some index)
  pub alike : (at : Where) (a b : ℕ) (s t : List ℕ) → IsNamed shape.place image at → a < shape.place.copies
      → b < shape.place.copies
      → counting_at image shape.place a at ≡ Some s → counting_at image shape.place b at ≡ Some t → s ≡ t

-- ---- assumptions on hash collisions

-- some copy gives these bytes under the entry, after the last sync or with the writes since then done whole
pub record SomeCopyCounts (place : Place) (c : Case) (at : Where) (bytes : List ℕ) : Type 0 where
  pub copy : ℕ
  pub inside : copy < place.copies
  pub counts : (counting_at c.base place copy at ≡ Some bytes) ⊎ (counting_at c.full place copy at ≡ Some bytes)

-- No two contents have the same hash: all that counts for a content which an index names that was held after the last
-- sync is the same bytes.
abbrev pub HasNoTwins : Place → Case → Type 0
HasNoTwins place c = (at : Where) (s t : List ℕ) → IsNamed place c.base at → SomeCopyCounts place c at s
    → SomeCopyCounts place c at t → s ≡ t

-- A sound case, for a place: no torn piece passes its hash by chance, and no two contents have the same hash. It is a
-- matter of hashes alone.
pub record IsSound (place : Place) (c : Case) : Type 0 where
  pub pieces : IsSoundFor (IsPiece place) c
  pub no_twins : HasNoTwins place c
