-- The next root: where its register is, and what its writing leaves alone.
use Rattle.std.proofs.Common.{ℕ, ◌≤◌, List, Bool, IsTrue, sym, ◌∙◌, subst}
use Rattle.disk_model.specs.Frame.{Spares}
use Rattle.disk_model.specs.Image.{Image}
use Rattle.disk_model.specs.Medium.{EachCase, Medium, Quiet}
use Rattle.disk_model.specs.Place.{IsNoSlot}
use Rattle.disk_model.specs.declared.place.Place.{Place}
use Rattle.guarded_cell.specs.Cells.{CellAt, IsCellOf, place_of}
use Rattle.guarded_cell.specs.declared.cell.Cell.{Cell}
use Rattle.guarded_cell.specs.Register.{IsAlone}
use Rattle.guarded_cell.specs.Stops.{FormatStops, PutStops}
use Rattle.deploy_laws.specs.Places.{root_place}
use Rattle.deploy.specs.Clauses.{IsNoRootSlot, Leaves}
use Rattle.deploy.specs.Roots.{IsRootCell}
use Rattle.deploy.proofs.InUse.{cell_alone}

module _ (app : ℕ) (cell : Cell) (of : IsRootCell app cell) where
  pub next_cell : (g : ℕ) (next : Cell) → 1 ≤ g → IsCellOf (place_of cell) g next → IsRootCell app next
  next_cell g next some is = record {
    place = is.lies ∙ of.place;
    positive =
        subst (λ (h : ℕ). 1 ≤ h) (sym is.counts) some;
  }

  pub next_alone : (image : Image) (g : ℕ) (next : Cell) (t : List ℕ) → IsCellOf (place_of cell) g next
      → CellAt image next t
      → IsAlone image (root_place app) g t
  next_alone image g next t is at = subst (λ (h : ℕ). IsAlone image (root_place app) h t) is.counts
      (cell_alone image app next t (is.lies ∙ of.place) at)

  pub slots_spared : (old new : Image) → Spares (IsNoSlot (place_of cell)) old new
      → Spares (IsNoSlot (root_place app)) old new
  slots_spared old new spared = subst (λ (p : Place). Spares (IsNoSlot p) old new) of.place spared

  pub puts_here : (g : ℕ) (t : List ℕ) (start : Image) (old new : Medium)
      → EachCase (PutStops (place_of cell) g t start) old new
      → EachCase (PutStops (root_place app) g t start) old new
  puts_here g t start old new puts = subst (λ (p : Place). EachCase (PutStops p g t start) old new)
      of.place puts

-- files that are no slots of the root change neither at the end nor at any moment
module _ (told : Bool) (app : ℕ) (old new : Medium) (spared : IsTrue told
    → Spares (IsNoSlot (root_place app)) old.image new.image) where
  pub put_leaves : (g : ℕ) (t : List ℕ) → (IsTrue told → Quiet old
      → EachCase (PutStops (root_place app) g t old.image) old new)
      → Leaves told (IsNoRootSlot app) old new
  put_leaves g t puts = record {
    at_the_end = spared;
    throughout =
        λ tells quiet c past. (puts tells quiet c past).elsewhere;
  }

  pub format_leaves : (g : ℕ) (t : List ℕ) → (IsTrue told → Quiet old
      → EachCase (FormatStops (root_place app) g t old.image) old new)
      → Leaves told (IsNoRootSlot app) old new
  format_leaves g t stops = record {
    at_the_end = spared;
    throughout =
        λ tells quiet c past. (stops tells quiet c past).elsewhere;
  }
