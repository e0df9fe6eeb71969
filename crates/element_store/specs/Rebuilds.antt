-- What a storage is made ready for before its contents are written again.
use Rattle.std.specs.Prelude.{◌≡◌, ◌<◌, ℕ, ◌+◌, ◌*◌, List, Bool, true, false, Option, Some, None, ⊤}
use Rattle.std.specs.List.{AllZip}
use Rattle.per_base.specs.declared.elements.Fresh.{Fresh}
use Rattle.disk_model.specs.Image.{Image}
use Rattle.disk_model.specs.Case.{Case, IsSettledAt}
use Rattle.disk_model.specs.Frame.{Keeps, KeepsCase}
use Rattle.disk_model.specs.Place.{IsNoArea}
use Rattle.disk_model.specs.declared.place.Place.{Place}
use Rattle.guarded_cell.specs.Register.{IsAlone, IsKeptAlone}
use Rattle.guarded_cell.specs.Stops.{PutStops, KeepStops}
use Rattle.block_files.specs.BlockSets.{contains}
use Rattle.index_text.specs.declared.entries.Index.{Index}
use Rattle.element_state.specs.declared.shapes.Shape.{Shape}
use Rattle.element_state.specs.declared.shapes.View.{View}
use Rattle.element_state.specs.Conditions.{IsInUse}
use Rattle.element_state.specs.Fit.{fit_index}
use Rattle.element_state.specs.States.{State, Opens, store_at, greatest_generation}
use Rattle.element_state.specs.Kept.{IsKeptCase}
use Rattle.element_laws.specs.Phases.{IsContentWritten}
use Rattle.element_store.specs.Plans.{blocks_of_all}

-- From here contents may be written outside the blocks of the set, and then an index under this generation: at every
-- moment of it the storage is kept from its state at the start.
pub record IsGround (shape : Shape) (start now : Image) (set : List Bool) (generation : ℕ) : Type 0 where
  -- while contents are written
  pub during : (after : State) (old c : Case) → IsSettledAt now old
      → KeepsCase (IsNoArea shape.place) (λ k. contains set k ≡ true) old c
      → IsKeptCase shape start after c
  -- after they were made durable
  pub done : (then : Image) (after : State) (c : Case)
      → Keeps (IsNoArea shape.place) (λ k. contains set k ≡ true) now then → IsSettledAt then c
      → IsKeptCase shape start after c
  -- while their index is written
  pub index : (then : Image) (next : List ℕ) (new_index : Index) (view : View) (others : List View) (c : Case)
      → Keeps (IsNoArea shape.place) (λ k. contains set k ≡ true) now then
      → fit_index shape next ≡ Some new_index → view.generation ≡ generation
      → AllZip (IsContentWritten shape then) new_index.entries view.entries
      → PutStops shape.place generation next then c
      → IsKeptCase shape start (Opens view others) c

-- every copy holds a text alone, or just the copies that held it hold it
abbrev pub IsLeftWith : (opens : Bool) → Place → (generation : ℕ) → List ℕ → (old new : Image) → Type 0
IsLeftWith true place generation text old new = IsAlone new place generation text
IsLeftWith false place generation text old new = IsKeptAlone place generation text old new

-- a stop while the copies are brought to that
abbrev pub OneTextStops : (opens : Bool) → Place → (generation : ℕ) → List ℕ → Image → Case → Type 0
OneTextStops true place generation text start c = PutStops place generation text start c
OneTextStops false place generation text start c = KeepStops place generation text start c

-- a storage in use at a view, by an index of format 2
pub record IsRebuilt (shape : Shape) (image : Image) (v : View) : Type 0 where
  pub index : Index
  pub format : index.format ≡ 2
  pub in_use : IsInUse shape image index v

-- a generation is left after this view, where there is one
abbrev pub HasNext : Option View → Type 0
HasNext None = ⊤
HasNext (Some v) = v.generation < greatest_generation

-- What a rebuild with these contents writes at most: in each copy they in whole blocks of 256 bytes, and two texts, the
-- new one and before it, in the copies that lack it, the one that stands. Each is at most the longest index, of 524,244
-- bytes, with its head of 44 bytes, and 44 bytes that blank another text.
abbrev pub rebuilding_cost : (copies : ℕ) → List Fresh → ℕ
rebuilding_cost copies contents = copies * (256 * blocks_of_all contents + 1048664)
