-- What the calls on a storage ask of their callers.
use Rattle.std.specs.Prelude.{◌≡◌, ◌≤◌, ◌<◌, ◌+◌, ℕ, List, [], length, map, true, Option, Some, None, IsTrue, ⊤, sum_by}
use Rattle.std.specs.List.{AllByRecursion, IsDistinct}
use Rattle.std.specs.Str.{bytes_eq}
use Rattle.per_base.specs.declared.elements.StoreKind.{StoreKind}
use Rattle.per_base.specs.declared.elements.StoreKind.TheVariants.{Files}
use Rattle.per_base.specs.declared.elements.Content.{Content}
use Rattle.per_base.specs.declared.elements.Content.TheVariants.{Good, Bad}
use Rattle.per_base.specs.declared.elements.Entry.{Entry}
use Rattle.per_base.specs.declared.elements.Fresh.{Fresh}
use Rattle.per_base.specs.declared.elements.Change.{Change}
use Rattle.per_base.specs.declared.elements.Change.TheVariants.{Put, Remove, Touch}
use Rattle.per_base.specs.Changes.{changed_name}
use Rattle.disk_model.specs.Image.{Image}
use Rattle.guarded_cell.specs.Register.{IsAlone}
use Rattle.index_text.specs.declared.entries.Index.{Index}
use Rattle.index_text.specs.Contents.{SuitsKind}
use Rattle.index_text.specs.Spelling.{index_text}
use Rattle.element_state.specs.declared.shapes.Shape.{Shape}
use Rattle.element_state.specs.declared.shapes.View.{View}
use Rattle.element_state.specs.Fit.{fit_index}
use Rattle.element_state.specs.Views.{entry_view}
use Rattle.element_state.specs.States.{Opens, store_at, greatest_generation}
use Rattle.element_state.specs.Changes.{entry_by_name, after_changes}

-- a shape that a storage may have: of its copies at least one and at most all must agree, and names and contents may
-- take at most 4 MiB
pub record IsShape (shape : Shape) : Type 0 where
  pub some : 1 ≤ shape.m
  pub enough : shape.m ≤ shape.place.copies
  pub small : shape.allowed ≤ 4194304

-- the size of a storage with these elements: names and contents, in bytes
abbrev pub size_of : List Entry → ℕ
size_of entries = sum_by (λ (e : Entry). length e.name + e.len) entries

-- the entry is there, with a value
abbrev pub IsGoodEntry : Option Entry → Type 0
IsGoodEntry None = ⊥
IsGoodEntry (Some e) = (value : List ℕ) × (e.content ≡ Good value)

-- a change that a storage of this kind with these entries can take: a new info comes for a file that is there and
-- readable
abbrev pub IsChange : StoreKind → List Entry → Change → Type 0
IsChange kind entries (Put f) = SuitsKind kind f
IsChange kind entries (Remove name) = ⊤
IsChange kind entries (Touch name info) = (kind ≡ Files) × IsGoodEntry (entry_by_name name entries)

-- the changes of a commit: each name once, what comes of them within the limits, and a generation left for it
pub record AreCommittable (shape : Shape) (v : View) (changes : List Change) : Type 0 where
  pub each : AllByRecursion (IsChange shape.kind v.entries) changes
  pub names_apart : IsDistinct bytes_eq (map changed_name changes)
  pub few : length (after_changes (v.generation + 1) v.entries changes) ≤ 1024
  pub small : size_of (after_changes (v.generation + 1) v.entries changes) ≤ shape.allowed
  pub not_worn : v.generation < greatest_generation

-- ---- a storage in use

-- an element, by its content and by the copies that lack it: none lacks one that is good
abbrev pub IsMended : Content → List ℕ → Type 0
IsMended (Good value) lacking = lacking ≡ []
IsMended (Bad salvage) lacking = ⊤

-- A storage in use on this image, with this index and this view: every copy holds the text of the index and no other
-- slot holds any; the storage opens at this view, with no other text; and copies lack only elements that cannot be
-- read.
pub record IsInUse (shape : Shape) (image : Image) (index : Index) (v : View) : Type 0 where
  pub alone : IsAlone image shape.place v.generation (index_text index)
  pub fit : fit_index shape (index_text index) ≡ Some index
  pub opens : store_at image shape ≡ Opens v []
  pub sole : v.sole ≡ true
  pub entries : v.entries ≡ map (entry_view image shape.place shape.m) index.entries
  pub mended : AllByRecursion (λ (e : Entry). IsMended e.content e.lacking) v.entries
