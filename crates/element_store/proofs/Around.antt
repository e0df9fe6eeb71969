-- What a call on a storage leaves outside its place, at its end and at every moment.
use Rattle.std.proofs.Common.{ℕ, List, Bool, ◌∙◌, ⊎_elim}
use Rattle.disk_model.specs.Image.{Image}
use Rattle.disk_model.specs.Medium.{Medium, Quiet, Elapses, EachCase}
use Rattle.disk_model.specs.Frame.{Spares, IsSettledOn}
use Rattle.disk_model.specs.Place.{IsNoArea, IsNoSlot, IsOutside}
use Rattle.disk_model.specs.lemmas.Frames.{settled_on, settled_before, settled_less, settled_keeps}
use Rattle.disk_model.specs.Laws.{cases_on}
use Rattle.disk_model.specs.lemmas.Places.{outside_no_slot, outside_no_area}
use Rattle.disk_model.specs.declared.place.Place.{Place}
use Rattle.guarded_cell.specs.Stops.{FormatStops}
use Rattle.element_store.specs.Spelled.{IsContentsCase}

module _ (place : Place) where
  -- writes to areas alone
  pub areas_around : (old new : Image) → Spares (IsNoArea place) old new
      → Spares (IsOutside place) old new
  areas_around old new same f out = same f (outside_no_area place f out)

  -- and then to slots alone
  pub both_around : (old mid new : Image) → Spares (IsNoArea place) old mid
      → Spares (IsNoSlot place) mid new → Spares (IsOutside place) old new
  both_around old mid new areas slots f out = slots f (outside_no_slot place f out)
      ∙ areas f (outside_no_area place f out)

  pub contents_around : (set : List Bool) (old new : Medium) (done : Type 0) → Quiet old
      → Spares (IsNoArea place) old.image new.image
      → EachCase (IsContentsCase place set old new done) old new
      → EachCase (IsSettledOn (IsOutside place) old.image) old new
  contents_around set old new done quiet same each c past =
      settled_less (λ f out. outside_no_area place f out) (⊎_elim
      (λ some. let (d, was, step) = some in settled_keeps (quiet d was) step)
      (λ all. settled_before same (settled_on (IsNoArea place) all.1))
      (each c past))

  pub format_around : (set : List Bool) (text : List ℕ) (old mid new : Medium) (done : Type 0) → Quiet old
      → Elapses old mid → Elapses mid new
      → Spares (IsNoArea place) old.image mid.image
      → EachCase (IsContentsCase place set old mid done) old mid
      → EachCase (FormatStops place 1 text mid.image) mid new
      → EachCase (IsSettledOn (IsOutside place) old.image) old new
  format_around set text old mid new done quiet before after same each formats c past = ⊎_elim
      (contents_around set old mid done quiet same each c)
      (λ later. settled_before (areas_around old.image mid.image same)
      (settled_less (λ f out. outside_no_slot place f out) (formats c later).elsewhere))
      (cases_on before after c past)
