-- A storage that is rebuilt, at its end and at every moment.
use Rattle.std.proofs.Common.{◌≡◌, ℕ, List, Bool, true, ap, ◌∙◌, subst}
use Rattle.per_base.specs.declared.elements.Fresh.{Fresh}
use Rattle.disk_model.specs.declared.place.Place.{Place}
use Rattle.disk_model.specs.Image.{Image}
use Rattle.disk_model.specs.Medium.{Medium, Quiet, Elapses, EachCase}
use Rattle.disk_model.specs.Frame.{Spares, IsSettledOn, Keeps}
use Rattle.disk_model.specs.Place.{IsNoArea, IsNoSlot, IsOutside}
use Rattle.disk_model.specs.lemmas.Frames.{settled_before, settled_less}
use Rattle.disk_model.specs.Laws.{goes_on, elapses_on}
use Rattle.disk_model.specs.lemmas.Places.{outside_no_slot, outside_no_area}
use Rattle.guarded_cell.specs.declared.cell.Cell.{Cell}
use Rattle.guarded_cell.specs.Cells.{CellAt, IsCellOf}
use Rattle.guarded_cell.specs.Register.{IsAlone}
use Rattle.guarded_cell.specs.Stops.{PutStops}
use Rattle.block_files.specs.BlockSets.{contains}
use Rattle.index_text.specs.declared.entries.Index.{Index}
use Rattle.element_state.specs.declared.shapes.Shape.{Shape}
use Rattle.element_state.specs.Clean.{IsClean}
use Rattle.element_state.specs.Conditions.{IsInUse, IsShape}
use Rattle.element_state.specs.Kept.{IsKeptCase, KeptThroughout}
use Rattle.element_state.specs.States.{State, store_at, salvage_of, next_generation, fresh_map, fresh_state, fresh_view}
use Rattle.element_store.specs.Spelled.{ShowsFresh, IsTextOf, IsContentsCase}
use Rattle.element_store.specs.Rebuilds.{IsGround, IsRebuilt}
use Rattle.element_store.proofs.Around.{contents_around}
use Rattle.element_store.proofs.Rebuilt.{contents_kept, rebuilt_kept, rebuilt_in_use, rebuilt_opens}

-- ---- at every moment

module _ (shape : Shape) (set : List Bool) (g : ℕ) (contents : List Fresh) (start ready_at : Medium)
    (before : Elapses start ready_at)
    (prepared : (state : State) → KeptThroughout shape state start ready_at)
    (ready : IsClean shape start.image → IsGround shape start.image ready_at.image set g) (quiet_now : Quiet ready_at)
    (mid : Medium) (then : Elapses ready_at mid) where
  -- until the contents are there
  pub contents_rebuilt : (state : State) (done : Type 0) → (done
      → Keeps (IsNoArea shape.place) (λ k. contains set k ≡ true) ready_at.image mid.image)
      → EachCase (IsContentsCase shape.place set ready_at mid done) ready_at mid
      → KeptThroughout shape state start mid
  contents_rebuilt state done keeps each quiet clean = goes_on (IsKeptCase shape start.image state) before then
      (prepared state quiet clean)
      (contents_kept shape start.image set g contents ready_at mid (ready clean) quiet_now state done keeps each)

  -- until the index is there
  pub index_rebuilt : (new : Medium) (text : List ℕ) (index : Index) (done : Type 0) → Elapses mid new
      → g ≡ next_generation (salvage_of (store_at start.image shape)) → IsTextOf shape text index
      → Keeps (IsNoArea shape.place) (λ k. contains set k ≡ true) ready_at.image mid.image
      → ShowsFresh mid.image shape.place shape.m g contents index.entries
      → EachCase (IsContentsCase shape.place set ready_at mid done) ready_at mid
      → EachCase (PutStops shape.place g text mid.image) mid new
      → KeptThroughout shape (fresh_state (next_generation (salvage_of (store_at start.image shape)))
      (fresh_map contents)) start new
  index_rebuilt new text index done later generation_is spelled keeps shown each stops =
      subst (λ (n : ℕ). KeptThroughout shape (fresh_state n (fresh_map contents)) start new) generation_is
      (λ quiet clean. goes_on (IsKeptCase shape start.image (fresh_state g (fresh_map contents)))
      (elapses_on before then) later
      (contents_rebuilt (fresh_state g (fresh_map contents)) done (λ d. keeps) each quiet clean)
      (rebuilt_kept shape start.image set g contents ready_at mid (ready clean) quiet_now new text index spelled keeps
      shown stops))

-- ---- outside the place

module _ (place : Place) (set : List Bool) (start ready_at mid : Medium) (before : Elapses start ready_at)
    (then : Elapses ready_at mid)
    (slots : Spares (IsNoSlot place) start.image ready_at.image)
    (areas : Spares (IsNoArea place) ready_at.image mid.image) where
  pub contents_elsewhere : Spares (IsOutside place) start.image mid.image
  contents_elsewhere f out = areas f (outside_no_area place f out) ∙ slots f (outside_no_slot place f out)

  pub index_elsewhere : (new : Medium) → Spares (IsNoSlot place) mid.image new.image
      → Spares (IsOutside place) start.image new.image
  index_elsewhere new more f out = more f (outside_no_slot place f out) ∙ contents_elsewhere f out

  module _ (prepared : EachCase (IsSettledOn (IsNoSlot place) start.image) start ready_at)
      (quiet_now : Quiet ready_at) (done : Type 0)
      (each : EachCase (IsContentsCase place set ready_at mid done) ready_at mid) where
    pub contents_outside : EachCase (IsSettledOn (IsOutside place) start.image) start mid
    contents_outside = goes_on (IsSettledOn (IsOutside place) start.image) before then
        (λ c past. settled_less (λ f out. outside_no_slot place f out) (prepared c past))
        (λ c past. settled_before (λ f out. slots f (outside_no_slot place f out))
        (contents_around place set ready_at mid done quiet_now areas each c past))

    pub index_outside : (new : Medium) (g : ℕ) (text : List ℕ) → Elapses mid new
        → EachCase (PutStops place g text mid.image) mid new
        → EachCase (IsSettledOn (IsOutside place) start.image) start new
    index_outside new g text later stops = goes_on (IsSettledOn (IsOutside place) start.image)
        (elapses_on before then) later contents_outside
        (λ c past. settled_before contents_elsewhere (settled_less (λ f out. outside_no_slot place f out)
        (stops c past).elsewhere))

-- ---- at its end

-- the copies hold the index alone, so the storage opens at the contents
pub rebuilding_opens : (mid image : Image) (shape : Shape) (g : ℕ) (contents : List Fresh) (cell : Cell) (index : Index)
    (text : List ℕ) → IsShape shape → IsCellOf shape.place g cell
    → IsTextOf shape text index → CellAt image cell text
    → Spares (IsNoSlot shape.place) mid image
    → ShowsFresh mid shape.place shape.m g contents index.entries → (n : ℕ) → g ≡ n
    → store_at image shape ≡ fresh_state n (fresh_map contents)
rebuilding_opens mid image shape g contents cell index text is of spelled held same shown n e =
    rebuilt_opens mid image shape g contents index text is spelled
    (subst (λ (h : ℕ). IsAlone image shape.place h text) of.counts
    (subst (λ (p : Place). IsAlone image p cell.generation text) of.lies held))
    same shown
    ∙ ap (λ (h : ℕ). fresh_state h (fresh_map contents)) e

-- and is in use there
pub rebuilding_in_use : (mid image : Image) (shape : Shape) (g : ℕ) (contents : List Fresh) (cell : Cell) (index : Index)
    (text : List ℕ) → IsShape shape → IsCellOf shape.place g cell
    → IsTextOf shape text index → index.format ≡ 2 → CellAt image cell text
    → Spares (IsNoSlot shape.place) mid image
    → ShowsFresh mid shape.place shape.m g contents index.entries → (n : ℕ) → g ≡ n
    → IsRebuilt shape image (fresh_view n (fresh_map contents))
rebuilding_in_use mid image shape g contents cell index text is of spelled two held same shown n e = record {
  index = index;
  format = two;
  in_use = subst (λ (h : ℕ). IsInUse shape image index (fresh_view h (fresh_map contents))) e
      (rebuilt_in_use mid image shape g contents index text is spelled
      (subst (λ (h : ℕ). IsAlone image shape.place h text) of.counts
      (subst (λ (p : Place). IsAlone image p cell.generation text) of.lies held))
      same shown);
}
