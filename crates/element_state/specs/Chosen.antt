-- The text at which a storage opens, or else the first that fits, and what reading gives of it.
use Rattle.std.specs.Prelude.{◌≡◌, ◌<◌, ◌+◌, ◌&&◌, ℕ, List, [], ◌∷◌, length, Bool, true, false, Option, Some, None}
use Rattle.std.specs.Prelude.{find}
use Rattle.std.specs.List.{list_all}
use Rattle.per_base.specs.declared.elements.Entry.{Entry}
use Rattle.per_base.specs.Contents.{HasLength, blocks_for}
use Rattle.disk_model.specs.declared.place.Place.{Place}
use Rattle.disk_model.specs.Image.{Image}
use Rattle.disk_model.specs.Orders.{named_in}
use Rattle.guarded_cell.specs.Seens.{IsSealable}
use Rattle.block_files.specs.BlockSets.{Ascend}
use Rattle.block_files.specs.Contents.{AreCopies}
use Rattle.index_text.specs.declared.entries.Index.{Index}
use Rattle.index_text.specs.declared.entries.IndexEntry.{IndexEntry}
use Rattle.index_text.specs.Rules.{IsIndex, EntriesInRange}
use Rattle.index_text.specs.Sizes.{Fits}
use Rattle.index_text.specs.Spelling.{index_text}
use Rattle.element_state.specs.declared.shapes.Shape.{Shape}
use Rattle.element_state.specs.declared.shapes.View.{View}
use Rattle.element_state.specs.Fit.{FitText, fit_index, fit_texts}
use Rattle.element_state.specs.Views.{counts, qualifies}
use Rattle.element_state.specs.States.{State, Opens, Corrupt}

-- the first text, where there is one
abbrev pub first_fit : List FitText → Option (Bool × FitText)
first_fit [] = None
first_fit (text ∷ texts) = Some (false, text)

-- the text that qualifies, with true, or else the first of all, with false
abbrev pub or_first : List FitText → Option FitText → Option (Bool × FitText)
or_first texts None = first_fit texts
or_first texts (Some text) = Some (true, text)

-- the text at which the storage opens, with true, or else the first that fits, with false
unfoldable pub chosen : Image → Shape → Option (Bool × FitText)
chosen image shape = or_first (fit_texts shape image) (find (qualifies image shape) (fit_texts shape image))

-- the view at which a state opens
abbrev pub opened_of : State → Option View
opened_of (Opens v others) = Some v
opened_of (Corrupt salvage others) = None

-- ---- what holds of all that is read, whether or not the disk is modelled

-- an element that was read by an entry of an index, from this many copies: a content as long as the entry says, and the
-- copies that lack it, counted from 1 and ascending
pub record IsReadBy (copies : ℕ) (e : IndexEntry) (f : Entry) : Type 0 where
  pub name : f.name ≡ e.name
  pub info : f.info ≡ e.info
  pub changed : f.changed ≡ e.changed
  pub len : f.len ≡ e.len
  pub value : HasLength f.content e.len
  pub lacking : AreCopies copies f.lacking
  pub ascend : Ascend f.lacking

-- the index that a text spells, which fits
pub record IsFitIndex (shape : Shape) (text : List ℕ) (index : Index) : Type 0 where
  pub spelled : text ≡ index_text index
  pub rules : IsIndex index
  pub in_range : EntriesInRange index
  pub fits : Fits shape.kind shape.allowed index
  pub fit : fit_index shape text ≡ Some index

-- a text that fits, and that can be sealed again
pub record IsFit (shape : Shape) (text : FitText) : Type 0 where
  pub sealable : IsSealable text.0
  pub index : IsFitIndex shape text.0.text text.1

-- an entry has a block for each 256 bytes of its content
abbrev pub HasBlocks : IndexEntry → Type 0
HasBlocks e = length e.blocks ≡ blocks_for e.len

-- ---- what holds where the disk's bytes are modelled

-- the content of an entry counts in each copy that does not lack the element
abbrev pub Vouches : Image → Place → IndexEntry → Entry → Type 0
Vouches image place e f = (copy : ℕ) → copy < place.copies → named_in f.lacking (copy + 1) ≡ false
    → counts image place e copy ≡ true

-- a copy is one of a list, and every content counts in it
abbrev pub is_whole_of : Image → Place → (holders : List ℕ) → List IndexEntry → (copy : ℕ) → Bool
is_whole_of image place holders entries copy = named_in holders (copy + 1)
    && list_all (λ e. counts image place e copy) entries
