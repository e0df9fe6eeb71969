-- Storages whose places are apart: what the calls on one leave of the other.
use Rattle.std.specs.Prelude.{◌≡◌, ◌⊎◌, ℕ, ◌+◌, ◌*◌, ◌≤◌}
use Rattle.disk_model.specs.declared.place.Place.{Place}
use Rattle.disk_model.specs.Image.{Image}
use Rattle.disk_model.specs.Case.{Case}
use Rattle.disk_model.specs.Frame.{Spares, IsSettledOn}
use Rattle.disk_model.specs.Place.{IsOutside}
use Rattle.index_text.specs.declared.entries.Index.{Index}
use Rattle.element_state.specs.declared.shapes.Shape.{Shape}
use Rattle.element_state.specs.declared.shapes.View.{View}
use Rattle.element_state.specs.States.{State, store_at}
use Rattle.element_state.specs.Clean.{IsClean}
use Rattle.element_state.specs.Conditions.{IsInUse}
use Rattle.element_state.specs.Kept.{IsKeptCase}
use Rattle.element_laws.specs.Phases.{IsOfPlace}

-- ---- what a storage is on two images

-- it denotes the same, its place is clean and it is in use where that was so
pub record IsStorageUnchanged (shape : Shape) (old new : Image) : Type 0 where
  pub state : store_at new shape ≡ store_at old shape
  pub clean : IsClean shape old → IsClean shape new
  pub in_use : (index : Index) (v : View) → IsInUse shape old index v → IsInUse shape new index v

-- what it is depends on the files of its place alone
abbrev pub FrameLaw : Type 0
FrameLaw = (shape : Shape) (old new : Image) → Spares (IsOfPlace shape.place) old new → IsStorageUnchanged shape old new

-- ---- places apart

-- one ends before the other begins; each copy has four numbers of files
abbrev pub LieApart : Place → Place → Type 0
LieApart one other = (one.first + 4 * one.copies ≤ other.first) ⊎ (other.first + 4 * other.copies ≤ one.first)

-- then the files of one are outside the other
abbrev pub OutsideLaw : Type 0
OutsideLaw = (one other : Place) → LieApart one other → (file : ℕ) → IsOfPlace other file
    → IsOutside one file

-- what spares all files outside one place leaves a storage at the other as it was
abbrev pub ElsewhereLaw : Type 0
ElsewhereLaw = (one : Place) (shape : Shape) (old new : Image) → LieApart one shape.place
    → Spares (IsOutside one) old new → IsStorageUnchanged shape old new

-- a case in which all files outside one place are settled keeps a storage at the other, whatever its next state is to
-- be
abbrev pub ElsewhereCaseLaw : Type 0
ElsewhereCaseLaw = (one : Place) (shape : Shape) (start : Image) (after : State) (c : Case) → 1 ≤ shape.m
    → LieApart one shape.place → IsClean shape start
    → IsSettledOn (IsOutside one) start c → IsKeptCase shape start after c
