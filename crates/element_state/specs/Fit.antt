-- Which of the texts that the copies hold are indexes that fit a storage.
use Rattle.std.specs.Prelude.{ℕ, List, length, Bool, cond, nat_le, Option, Some, None, filter_map}
use Rattle.guarded_cell.specs.declared.looking.Seen.{Seen}
use Rattle.index_text.specs.declared.entries.Index.{Index}
use Rattle.index_text.specs.Reading.{index_of}
use Rattle.index_text.specs.Sizes.{fits}
use Rattle.disk_model.specs.Image.{Image}
use Rattle.guarded_cell.specs.Held.{held}
use Rattle.element_state.specs.declared.shapes.Shape.{Shape}

-- a text as it was seen, with its generation and the copies that hold it; and the index that it spells
abbrev pub FitText : Type 0
FitText = Seen × Index

-- an index, where there is one that fits the shape
abbrev pub if_fits : Shape → Option Index → Option Index
if_fits shape None = None
if_fits shape (Some index) = cond (fits shape.kind shape.allowed index) (Some index) None

-- the index that a text spells, where it fits the shape
unfoldable pub fit_index : Shape → List ℕ → Option Index
fit_index shape text = if_fits shape (index_of text)

-- a text with its index, where it has one
abbrev pub with_index : Seen → Option Index → Option FitText
with_index seen None = None
with_index seen (Some index) = Some (seen, index)

-- those of some texts that fit, in their order
abbrev pub fit_among : Shape → List Seen → List FitText
fit_among shape seens = filter_map (λ seen. with_index seen (fit_index shape seen.text)) seens

-- the held texts that fit: greatest generation first, then by first copy
unfoldable pub fit_texts : Shape → Image → List FitText
fit_texts shape image = fit_among shape (held image shape.place)

-- no text that fits stands beside the first
abbrev pub is_sole : List FitText → Bool
is_sole texts = nat_le (length texts) 1
