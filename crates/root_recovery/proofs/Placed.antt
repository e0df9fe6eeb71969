-- What is said of a place that is the root's.
use Rattle.std.proofs.Common.{◌≡◌, ℕ, List, subst}
use Rattle.disk_model.specs.Frame.{Spares}
use Rattle.disk_model.specs.Image.{Image}
use Rattle.disk_model.specs.Medium.{EachCase, Medium}
use Rattle.disk_model.specs.Place.{IsNoSlot}
use Rattle.disk_model.specs.declared.place.Place.{Place}
use Rattle.guarded_cell.specs.Stops.{PutStops}
use Rattle.deploy_laws.specs.Places.{root_place}

module _ (place : Place) (app : ℕ) (same : place ≡ root_place app) where
  pub spares_at : (old new : Image) → Spares (IsNoSlot place) old new → Spares (IsNoSlot (root_place app)) old new
  spares_at old new spared = subst (λ (p : Place). Spares (IsNoSlot p) old new) same spared

  pub puts_at : (g : ℕ) (t : List ℕ) (old new : Medium) → EachCase (PutStops place g t old.image) old new
      → EachCase (PutStops (root_place app) g t old.image) old new
  puts_at g t old new puts = subst (λ (p : Place). EachCase (PutStops p g t old.image) old new) same puts
