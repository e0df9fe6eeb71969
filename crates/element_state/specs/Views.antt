-- What a text that fits denotes: which copies support it, its elements, and the copies that lack them. Copies are
-- counted from 0, in lists from 1.
use Rattle.std.specs.Prelude.{ℕ, ◌+◌, List, length, map, Bool, ◌&&◌, ◌||◌, not, cond, nat_le, Option, Some, None}
use Rattle.std.specs.Prelude.{is_some}
use Rattle.std.specs.List.{list_all, list_any}
use Rattle.per_base.specs.declared.elements.Scope.{Scope}
use Rattle.per_base.specs.declared.elements.Scope.TheVariants as scope
use Rattle.per_base.specs.declared.elements.Content.{Content}
use Rattle.per_base.specs.declared.elements.Content.TheVariants.{Good, Bad}
use Rattle.per_base.specs.declared.elements.Entry.{Entry}
use Rattle.per_base.specs.declared.elements.Element.{Element}
use Rattle.per_base.specs.Maps.{Map}
use Rattle.disk_model.specs.declared.place.Place.{Place}
use Rattle.disk_model.specs.Image.{Image}
use Rattle.disk_model.specs.Place.{area}
use Rattle.disk_model.specs.Orders.{named_in}
use Rattle.m_of_n.specs.Vote.{voted}
use Rattle.guarded_cell.specs.Held.{holds, copies_that}
use Rattle.block_files.specs.Contents.{counting, contents, first_content, lacking}
use Rattle.index_text.specs.declared.entries.IndexEntry.{IndexEntry}
use Rattle.element_state.specs.declared.shapes.Shape.{Shape}
use Rattle.element_state.specs.declared.shapes.View.{View}
use Rattle.element_state.specs.Fit.{FitText, fit_texts, is_sole}

-- ---- the copies that support a text

-- the copy holds the text
abbrev pub holds_text : Image → Place → FitText → ℕ → Bool
holds_text image place text copy = holds image place copy (text.0.generation, text.0.text)

-- the content of an entry counts in the copy: the bytes of its blocks there have its hash
abbrev pub counts : Image → Place → IndexEntry → ℕ → Bool
counts image place e copy = is_some (counting (image (area place copy)) e.blocks e.len e.hash)

-- the copy holds the text, and the contents of all its entries count there
abbrev pub holds_all : Image → Place → FitText → ℕ → Bool
holds_all image place text copy = holds_text image place text copy
    && list_all (λ e. counts image place e copy) text.1.entries

-- the copies that support a text: with element scope those that hold it, with storage scope those that hold all of it
abbrev pub supporters : Scope → Image → Place → FitText → List ℕ
supporters scope.Element image place text = text.0.copies
supporters scope.Storage image place text = copies_that (holds_all image place text) place.copies

-- enough copies support the text
abbrev pub qualifies : Image → Shape → FitText → Bool
qualifies image shape text = nat_le shape.m (length (supporters shape.scope image shape.place text))

-- ---- the view of a text

-- a content: good with the value, where there is one, and else bad with the salvage, if any
abbrev pub content_of : (value salvage : Option (List ℕ)) → Content
content_of (Some value) salvage = Good value
content_of None salvage = Bad salvage

-- what each copy, in order, gives of the content of an entry: its bytes, where it counts there
abbrev pub given : Image → Place → IndexEntry → List (Option (List ℕ))
given image place e = contents place e.blocks e.len e.hash image

-- the element of an entry, by what an image has at a place: the value on which m copies agree, or else the salvage, and
-- the copies that lack it: they do not give this value, or not from bytes all within their file; where there is no
-- value, they give nothing
unfoldable pub entry_view : Image → Place → ℕ → IndexEntry → Entry
entry_view image place m e = record {
  name = e.name;
  info = e.info;
  changed = e.changed;
  len = e.len;
  content = content_of (voted m (given image place e)) (first_content (given image place e));
  lacking = lacking (voted m (given image place e)) place e.blocks e.len e.hash image;
}

-- a copy, counted from 1, lacks one of these elements
abbrev pub lacks_one : List Entry → ℕ → Bool
lacks_one entries number = list_any (λ (e : Entry). named_in e.lacking number) entries

-- a copy, counted from 1, lacks a storage: it lacks the text, or with storage scope one of the elements
abbrev pub lacks_number : Scope → (lacks_text : Bool) → List Entry → (number : ℕ) → Bool
lacks_number scope.Element lacks_text entries number = lacks_text
lacks_number scope.Storage lacks_text entries number = lacks_text || lacks_one entries number

-- the copies, counted from 1, that lack a storage with these elements; `lacks_text` is asked of copies counted from 0
abbrev pub store_lacking : Scope → (lacks_text : ℕ → Bool) → List Entry → (copies : ℕ) → List ℕ
store_lacking scope lacks_text entries copies = copies_that
    (λ copy. lacks_number scope (lacks_text copy) entries (copy + 1)) copies

-- the elements of a text, in the order of its index
abbrev pub entries_seen : Image → Shape → FitText → List Entry
entries_seen image shape text = map (entry_view image shape.place shape.m) text.1.entries

-- the view of a text that fits: what the storage is where it opens at this text
unfoldable pub view_of : Image → Shape → FitText → View
view_of image shape text = record {
  generation = text.0.generation;
  lacking = store_lacking shape.scope (λ copy. not (holds_text image shape.place text copy))
      (entries_seen image shape text) shape.place.copies;
  sole = is_sole (fit_texts shape image);
  entries = entries_seen image shape text;
}

-- ---- a view as a map, and with a test of contents, as whether the bytes of a key encode a value

-- what a session holds of an element: its name, and under it info, length and content
abbrev pub element_of : Entry → List ℕ × Element
element_of e = (e.name, record { info = e.info; len = e.len; content = e.content })

-- the elements of a view as a session holds them, in the order of the view
abbrev pub map_of : View → Map
map_of v = map element_of v.entries

-- a content that fails the test is unreadable and has no salvage
abbrev pub judged_content : (List ℕ → Bool) → Content → Content
judged_content test (Good value) = cond (test value) (Good value) (Bad None)
judged_content test (Bad None) = Bad None
judged_content test (Bad (Some salvage)) = cond (test salvage) (Bad (Some salvage)) (Bad None)

-- an element with a test of contents
abbrev pub judged_entry : (List ℕ → Bool) → Entry → Entry
judged_entry test e = record e { content = judged_content test e.content }

-- a view with a test of contents: each of its elements is judged by it
abbrev pub judged_view : (List ℕ → Bool) → View → View
judged_view test v = record v { entries = map (judged_entry test) v.entries }
