-- A root is written in which one version stands alone, or none does.
use Rattle.std.proofs.Common.{◌≡◌, ℕ, ◌+◌, ◌<◌, List, Some, Bool, IsTrue, refl}
use Rattle.disk_model.specs.Frame.{Spares}
use Rattle.disk_model.specs.Medium.{EachCase, Medium, Quiet}
use Rattle.disk_model.specs.Place.{IsNoSlot}
use Rattle.guarded_cell.specs.Cells.{CellAt, IsCellOf, generation_of, place_of}
use Rattle.guarded_cell.specs.declared.cell.Cell.{Cell}
use Rattle.guarded_cell.specs.Stops.{PutStops}
use Rattle.root_text.specs.RootText.{IsRoot, root_text}
use Rattle.root_text.specs.RootText as text
use Rattle.deploy_laws.specs.Apps.{AreClean, IsCleanApp, Says, app_at, app_saying, says_by, shapes_named}
use Rattle.deploy_laws.specs.Laws.{AloneCleanLaw, AloneLaw, RootAloneLaw, RootSlotsLaw, VersionsLaw, WritingLaw}
use Rattle.deploy_laws.specs.Stands.{StandsThroughout}
use Rattle.deploy.specs.Clauses.{IsNoRootSlot, Leaves}
use Rattle.deploy.specs.Roots.{IsRootCell}
use Rattle.deploy.proofs.InUse.{AgainLaw, cell_alone, written_app, written_clean}
use Rattle.deploy.proofs.NextRoots.{next_alone, put_leaves, puts_here, slots_spared}
use Rattle.deploy.proofs.Writes.{write_stands}

module _ (again : AgainLaw) (app : ℕ) (lt : app < 8) (cell : Cell) (of : IsRootCell app cell) (r : text.Root)
    (is : IsRoot r) (old new : Medium) where
  abbrev next_says : Says
  next_says = says_by (generation_of cell + 1) (Some r)

  -- at the end
  module _ (alone : AloneLaw) (versions : VersionsLaw) (slots : RootSlotsLaw) (aside : RootAloneLaw)
      (clean : AloneCleanLaw)
      (next : Cell) (at_next : IsCellOf (place_of cell) (generation_of cell + 1) next)
      (held : CellAt new.image next (root_text r))
      (spared : Spares (IsNoSlot (place_of cell)) old.image new.image) where
    pub put_app : app_at new.image app ≡ app_saying old.image app next_says
    put_app = written_app again alone versions slots aside clean app (generation_of cell + 1) r old.image new.image lt
        is
        (slots_spared app cell of old.image new.image spared)
        (next_alone app cell of new.image (generation_of cell + 1) next (root_text r) at_next held)

    pub put_clean : AreClean old.image (shapes_named app next_says) → IsCleanApp app new.image
    put_clean were = written_clean again alone versions slots aside clean app (generation_of cell + 1) r old.image
        new.image lt is
        (slots_spared app cell of old.image new.image spared)
        (next_alone app cell of new.image (generation_of cell + 1) next (root_text r) at_next held) were

  -- at any moment
  pub put_outside : (told : Bool) → (IsTrue told → Spares (IsNoSlot (place_of cell))
      old.image new.image)
      → (IsTrue told → Quiet old → EachCase (PutStops (place_of cell)
      (generation_of cell + 1) (root_text r) old.image) old new)
      → Leaves told (IsNoRootSlot app) old new
  put_outside told spared puts = put_leaves told app old new
      (λ tells. slots_spared app cell of old.image new.image (spared tells))
      (generation_of cell + 1) (root_text r) (λ tells quiet.
      puts_here app cell of (generation_of cell + 1) (root_text r) old.image old new (puts tells quiet))

  pub put_stands : WritingLaw → (t : List ℕ) → CellAt old.image cell t
      → (Quiet old → EachCase (PutStops (place_of cell) (generation_of cell + 1)
      (root_text r) old.image) old new)
      → AreClean old.image (shapes_named app next_says) → StandsThroughout app (app_saying old.image app next_says) old
      new
  put_stands writing t held puts were quiet clean =
      write_stands again writing app (generation_of cell) r t lt is (app_saying old.image app next_says) refl old new
      clean (cell_alone old.image app cell t of.place held)
      (record { clean = were; states_are = refl })
      (puts_here app cell of (generation_of cell + 1) (root_text r) old.image old new (puts quiet))
