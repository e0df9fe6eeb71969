-- Elements that are mended in place: what is whole afterwards, and what stands as it was.
use Rattle.std.specs.Prelude.{◌≡◌, ℕ, ◌+◌, ◌*◌, List, [], ◌∷◌, length, map, sum_by, Option, Some, None}
use Rattle.per_base.specs.declared.elements.Entry.{Entry}
use Rattle.per_base.specs.declared.elements.Content.TheVariants.{Good}
use Rattle.per_base.specs.Contents.{readable_bytes}
use Rattle.per_base.specs.declared.reports.Report.{Report}
use Rattle.per_base.specs.declared.reports.ReportKind.{ReportKind}
use Rattle.disk_model.specs.Image.{Image}
use Rattle.disk_model.specs.Case.{Case}
use Rattle.disk_model.specs.Medium.{Medium}
use Rattle.disk_model.specs.declared.place.Place.{Place}
use Rattle.block_files.specs.Areas.{NamedFull}
use Rattle.index_text.specs.declared.entries.Index.{Index}
use Rattle.index_text.specs.declared.entries.IndexEntry.{IndexEntry}
use Rattle.element_state.specs.declared.shapes.Shape.{Shape}
use Rattle.element_state.specs.declared.shapes.View.{View}
use Rattle.element_state.specs.Views.{entry_view}
use Rattle.element_state.specs.Reports.{report_of}
use Rattle.element_state.specs.Written.{whole_cost}
use Rattle.element_laws.specs.Phases.{IsMending, IsSparing, KeepsBlocksWhole}

-- no file changed, and nothing was written
pub record IsAsBefore (old new : Medium) : Type 0 where
  pub image : new.image ≡ old.image
  pub written : new.written ≡ old.written

-- the copies that lacked a good element have its value
abbrev pub IsWholeIn : Image → Place → IndexEntry → Entry → Type 0
IsWholeIn image place e f = (value : List ℕ) → f.content ≡ Good value → NamedFull place f.lacking e.blocks value image

-- the elements are those that the index shows on this image
abbrev pub AreShown : Shape → Index → List Entry → (start : Image) → Type 0
AreShown shape index views start = views ≡ map (entry_view start shape.place shape.m) index.entries

-- a case while these elements are mended, from wherever they were read
abbrev pub MendsCase : Shape → Index → List Entry → (now : Image) → Case → Type 0
MendsCase shape index views now c = (start : Image) → AreShown shape index views start
    → IsMending shape start now index c

-- an image on which they were mended, and all else stands as it was
abbrev pub SparesOthers : Shape → Index → List Entry → (now image : Image) → Type 0
SparesOthers shape index views now image = (start : Image) → AreShown shape index views start
    → IsSparing KeepsBlocksWhole shape start now index image

-- the report of an element, where there is one
abbrev pub reported : Shape → Entry → Option ReportKind → List Report
reported shape e None = []
reported shape e (Some kind) = report_of kind shape (Some e.name) e.lacking ∷ []

-- ---- bytes

-- what the writing of an element costs into the copies that lack it: in each its whole blocks of 256 bytes, and nothing
-- where it cannot be read
abbrev pub lacking_cost : Entry → ℕ
lacking_cost e = length e.lacking * whole_cost (readable_bytes e.content)

-- what an opening at this view writes at most, where there is one: each readable element into the copies that lack it,
-- and in each copy the longest index, of 524,244 bytes, with its head of 44 bytes, and 44 bytes that blank another text
abbrev pub mending_cost : (copies : ℕ) → Option View → ℕ
mending_cost copies None = 0
mending_cost copies (Some v) = sum_by lacking_cost v.entries + copies * 524332
