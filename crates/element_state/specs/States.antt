-- The state of a storage on an image, and the states that an opening, a creation and a rebuild make.
use Rattle.std.specs.Prelude.{ℕ, ◌+◌, ◌-◌, ◌^◌, List, [], ◌∷◌, length, map, Bool, true, cond, nat_le, Option, Some}
use Rattle.std.specs.Prelude.{None}
use Rattle.per_base.specs.declared.elements.Scope.{Scope}
use Rattle.per_base.specs.declared.elements.Scope.TheVariants as scope
use Rattle.per_base.specs.declared.elements.Content.{Content}
use Rattle.per_base.specs.declared.elements.Content.TheVariants.{Good, Bad}
use Rattle.per_base.specs.declared.elements.Entry.{Entry}
use Rattle.per_base.specs.declared.elements.Element.{Element}
use Rattle.per_base.specs.declared.elements.Fresh.{Fresh}
use Rattle.per_base.specs.Maps.{Map}
use Rattle.disk_model.specs.Image.{Image}
use Rattle.guarded_cell.specs.Held.{copies_that}
use Rattle.element_state.specs.declared.shapes.Shape.{Shape}
use Rattle.element_state.specs.declared.shapes.View.{View}
use Rattle.element_state.specs.Fit.{FitText, fit_texts}
use Rattle.element_state.specs.Views.{qualifies, view_of, lacks_one, judged_view}

-- A storage opens at a view; or it is corrupt, and the view of the first text that fits is its salvage. The others are
-- the views of the other texts that fit.
pub data State : Type 0 where
  Opens : (view : View) (others : List View) → State
  Corrupt : (salvage : Option View) (others : List View) → State

-- ---- the state on an image

-- an item that did not pass goes to the others, where one was found
abbrev pub beside : {A : Type 0} → A → Option (A × List A) → Option (A × List A)
beside x None = None
beside x (Some found) = Some (found.0, x ∷ found.1)

-- the first item that passes, and the other items
abbrev pub first_picked : {A : Type 0} → (A → Bool) → List A → Option (A × List A)
first_picked test [] = None
first_picked test (x ∷ xs) = cond (test x) (Some (x, xs)) (beside x (first_picked test xs))

-- corrupt, with the first of the views as salvage
abbrev pub corrupt_state : List View → State
corrupt_state [] = Corrupt None []
corrupt_state (v ∷ views) = Corrupt (Some v) views

-- the state by the view of each text, by the texts that fit, and by the first that qualifies with the others, where
-- one does
abbrev pub state_of : (FitText → View) → List FitText → Option (FitText × List FitText) → State
state_of view texts None = corrupt_state (map view texts)
state_of view texts (Some found) = Opens (view found.0) (map view found.1)

-- the state of a storage on an image: it opens at the first text that fits and qualifies, and is corrupt where none
-- does
unfoldable pub store_at : Image → Shape → State
store_at image shape = state_of (view_of image shape) (fit_texts shape image)
    (first_picked (qualifies image shape) (fit_texts shape image))

-- ---- what a state holds

-- the view that it opens at, or has as salvage
abbrev pub salvage_of : State → Option View
salvage_of (Opens v others) = Some v
salvage_of (Corrupt salvage others) = salvage

-- the views of the other texts that fit
abbrev pub others_of : State → List View
others_of (Opens v others) = others
others_of (Corrupt salvage others) = others

-- a view, where there is one, with a test of contents
abbrev pub judged_option : (List ℕ → Bool) → Option View → Option View
judged_option test None = None
judged_option test (Some v) = Some (judged_view test v)

-- a state as it is with a test of contents: what fails it cannot be read
abbrev pub judged : (List ℕ → Bool) → State → State
judged test (Opens v others) = Opens (judged_view test v) (map (judged_view test) others)
judged test (Corrupt salvage others) = Corrupt (judged_option test salvage) (map (judged_view test) others)

-- ---- states that calls make

-- the copies that lack a storage whose text every copy holds
abbrev pub lacking_by : Scope → List Entry → (copies : ℕ) → List ℕ
lacking_by scope.Element entries copies = []
lacking_by scope.Storage entries copies = copies_that (λ copy. lacks_one entries (copy + 1)) copies

-- a view whose text every copy holds, with no other text
abbrev pub whole_view : Shape → (generation : ℕ) → List Entry → View
whole_view shape generation entries = record {
  generation = generation;
  lacking = lacking_by shape.scope entries shape.place.copies;
  sole = true;
  entries = entries;
}

-- an element by its content: no copy lacks one that is good any more, and a bad one stays as it is
abbrev pub mended_by : Content → Entry → Entry
mended_by (Good value) e = record e { lacking = [] }
mended_by (Bad salvage) e = e

-- an element after an opening: where enough copies agree on it, no copy lacks it any more
abbrev pub mended_entry : Entry → Entry
mended_entry e = mended_by e.content e

-- the view after an opening that found this one: every copy holds its text and each good element
unfoldable pub mended_view : Shape → View → View
mended_view shape v = whole_view shape v.generation (map mended_entry v.entries)

-- an element, of a name and what a session holds under it, that this generation wrote: no copy lacks it
abbrev pub fresh_entry : (generation : ℕ) → List ℕ × Element → Entry
fresh_entry generation e = record {
  name = e.0;
  info = e.1.info;
  changed = generation;
  len = e.1.len;
  content =
      e.1.content;
  lacking = [];
}

-- a content to be written, as an element under its name
abbrev pub fresh_element : Fresh → List ℕ × Element
fresh_element f = (f.name, record { info = f.info; len = length f.bytes; content = Good f.bytes })

-- contents to be written, as a map of elements by their names
abbrev pub fresh_map : List Fresh → Map
fresh_map contents = map fresh_element contents

-- the view of a storage that was made of these contents under this generation
abbrev pub fresh_view : (generation : ℕ) → Map → View
fresh_view generation m = record {
  generation = generation;
  lacking = [];
  sole = true;
  entries =
      map (fresh_entry generation) m;
}

-- the state of a storage that opens at that view, and holds no other text that fits
unfoldable pub fresh_state : (generation : ℕ) → Map → State
fresh_state generation m = Opens (fresh_view generation m) []

-- the generation of a rebuilt storage: the next after that of the view that it opens at or has as salvage,
-- and 1 where it has none
abbrev pub next_generation : Option View → ℕ
next_generation None = 1
next_generation (Some v) = v.generation + 1

-- generations are numbers of 64 bits
abbrev pub greatest_generation : ℕ
greatest_generation = 2 ^ 64 - 1

-- no generation is left after this view
abbrev pub is_worn : View → Bool
is_worn v = nat_le greatest_generation v.generation
