-- What a survey of a storage answers.
use Rattle.std.specs.Prelude.{◌≡◌, ◌<◌, ◌+◌, ℕ, List, length, slice_index_or, Bool, true, false, not, Option, Some}
use Rattle.std.specs.Prelude.{None, find}
use Rattle.std.specs.Prelude.{Vec}
use Rattle.std.specs.List.{AllZip}
use Rattle.std.specs.declared.alloc.Global.{Global}
use Rattle.sha2.specs.declared.Sha256.{Sha256}
use Rattle.per_base.specs.declared.elements.Content.TheVariants.{Good}
use Rattle.per_base.specs.declared.elements.Entry.{Entry}
use Rattle.disk_model.specs.Image.{Image}
use Rattle.disk_model.specs.Orders.{named_in}
use Rattle.guarded_cell.specs.declared.looking.Seen.{Seen}
use Rattle.guarded_cell.specs.Held.{copies_that}
use Rattle.block_files.specs.States.{AreStatesOf}
use Rattle.element_state.specs.declared.reading.ReadEntries.{ReadEntries}
use Rattle.element_state.specs.declared.shapes.Shape.{Shape}
use Rattle.element_state.specs.declared.shapes.View.{View}
use Rattle.element_state.specs.declared.surveying.Found.{Found}
use Rattle.element_state.specs.Fit.{FitText}
use Rattle.element_state.specs.Views.{holds_text, qualifies, entries_seen, store_lacking, view_of}
use Rattle.element_state.specs.States.{State, Opens, Corrupt, store_at}
use Rattle.element_state.specs.Chosen.{IsFit, IsReadBy}
use Rattle.element_state.specs.Read.{IsView}

-- a text that fits, and a view by its entries
pub record IsFoundView (shape : Shape) (found : Found) : Type 0 where
  pub text : IsFit shape (found.seen, found.index)
  pub generation : found.view.generation ≡ found.seen.generation
  pub entries : AllZip (IsReadBy shape.place.copies) found.index.entries found.view.entries
  pub read : IsView shape found.view

-- states of the hasher on the way through the content of an element, where it can be read
abbrev pub AreOfEntry : Entry → Vec Sha256 Global → Type 0
AreOfEntry entry states = (bytes : List ℕ) → entry.content ≡ Good bytes → AreStatesOf bytes states.items

-- states of each element of its view
abbrev pub HasStates : Found → Type 0
HasStates found = AllZip AreOfEntry found.view.entries found.states.items

-- whether the storage opens at the text, and the text
abbrev pub found_text : Found → Bool × FitText
found_text found = (found.opens, (found.seen, found.index))

-- the state opens at the view, or has it as salvage
abbrev pub OpensOrSalvages : (opens : Bool) → View → State → Type 0
OpensOrSalvages true v state = (others : List View) × (state ≡ Opens v others)
OpensOrSalvages false v state = (others : List View) × (state ≡ Corrupt (Some v) others)

-- just these copies hold the text
abbrev pub IsHeldOn : Image → Shape → FitText → Type 0
IsHeldOn image shape text = text.0.copies ≡ copies_that (holds_text image shape.place text) shape.place.copies

-- the view is that of the text, which just its copies hold
pub record IsViewedOn (image : Image) (shape : Shape) (found : Found) : Type 0 where
  pub view : found.view ≡ view_of image shape (found.seen, found.index)
  pub copies : IsHeldOn image shape (found.seen, found.index)
  pub state : OpensOrSalvages found.opens found.view (store_at image shape)

-- the view of what was found, where the storage opens at it
abbrev pub opened_if : Bool → View → Option View
opened_if true v = Some v
opened_if false v = None

-- the view at which the storage opens by what was found
abbrev pub opened_view : Option Found → Option View
opened_view None = None
opened_view (Some found) = opened_if found.opens found.view

-- ---- one text, and one after the other

-- a text that qualifies is answered with its elements, and one that does not is not
abbrev pub IsTried : Image → Shape → FitText → Option ReadEntries → Type 0
IsTried image shape text None = qualifies image shape text ≡ false
IsTried image shape text (Some read) = (qualifies image shape text ≡ true)
    × (read.entries ≡ entries_seen image shape text)

-- the first text that qualifies, by its place in the list, with its elements
abbrev pub IsFirstQualified : Image → Shape → List FitText → Option (ℕ × ReadEntries) → Type 0
IsFirstQualified image shape texts None = find (qualifies image shape) texts ≡ None
IsFirstQualified image shape texts (Some at) = (d : FitText) → (find (qualifies image shape) texts
    ≡ Some (slice_index_or texts at.0 d))
    × (at.1.entries ≡ entries_seen image shape (slice_index_or texts at.0 d))

-- it is one of the texts, and the elements were read by its entries
abbrev pub IsReadText : (copies : ℕ) → List FitText → ℕ × ReadEntries → Type 0
IsReadText copies texts at = (at.0 < length texts) × ((d : FitText)
    → AllZip (IsReadBy copies) (slice_index_or texts at.0 d).1.entries at.1.entries)

-- the view of a text by the copies that hold it and by its elements
abbrev pub view_by : Shape → Seen → (sole : Bool) → List Entry → View
view_by shape seen sole entries = record {
  generation = seen.generation;
  lacking = store_lacking shape.scope (λ copy. not (named_in seen.copies (copy + 1))) entries shape.place.copies;
  sole = sole;
  entries = entries;
}
