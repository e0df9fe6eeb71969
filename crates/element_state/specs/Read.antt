-- What holds of every view that is read, whether or not the disk is modelled.
use Rattle.std.specs.Prelude.{◌≤◌, length, map, IsTrue}
use Rattle.std.specs.List.{AllByRecursion}
use Rattle.std.specs.List.Sorted.{IsStrictlySortedBy}
use Rattle.per_base.specs.declared.elements.Entry.{Entry}
use Rattle.per_base.specs.Names.{IsName, name_cmp}
use Rattle.per_base.specs.Contents.{HasLength}
use Rattle.block_files.specs.BlockSets.{Ascend}
use Rattle.block_files.specs.Contents.{AreCopies}
use Rattle.index_text.specs.Rules.{has_info, max_len}
use Rattle.element_state.specs.declared.shapes.Shape.{Shape}
use Rattle.element_state.specs.declared.shapes.View.{View}
use Rattle.element_state.specs.Conditions.{size_of}

-- an element of a storage: an info exactly for files, a length within the kind, a value or salvage of this length, and
-- copies of the place that lack it
pub record IsEntryOf (shape : Shape) (e : Entry) : Type 0 where
  pub name : IsName e.name
  pub info : IsTrue (has_info shape.kind e.info)
  pub len : e.len ≤ max_len shape.kind
  pub content : HasLength e.content e.len
  pub lacking : AreCopies shape.place.copies e.lacking
  pub ascend : Ascend e.lacking

-- at most 1024 elements, their names ascending and together within what is allowed, under a generation, and copies of
-- the place that lack the storage
pub record IsView (shape : Shape) (v : View) : Type 0 where
  pub generation : 1 ≤ v.generation
  pub each : AllByRecursion (IsEntryOf shape) v.entries
  pub names_ascend : IsStrictlySortedBy name_cmp (map (λ (e : Entry). e.name) v.entries)
  pub few : length v.entries ≤ 1024
  pub small : size_of v.entries ≤ shape.allowed
  pub lacking : AreCopies shape.place.copies v.lacking
  pub ascend : Ascend v.lacking
