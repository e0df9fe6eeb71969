-- Which text a register opens at, and what a stop of the opening leaves.
use Rattle.std.specs.Prelude.{◌≡◌, ℕ, List, Option, Some, None}
use Rattle.disk_model.specs.Image.{Image}
use Rattle.disk_model.specs.Case.{Case, IsSettledAt}
use Rattle.disk_model.specs.declared.place.Place.{Place}
use Rattle.guarded_cell.specs.declared.looking.Seen.{Seen}
use Rattle.guarded_cell.specs.Held.{standing}
use Rattle.guarded_cell.specs.Stops.{PutStops}

-- what stands is this text, under this generation
abbrev pub StandsAs : Option Seen → ℕ → List ℕ → Type 0
StandsAs None generation text = ⊥
StandsAs (Some seen) generation text = (seen.generation ≡ generation) × (seen.text ≡ text)

-- a stop of an opening that found this text, or none: where a text stands, it is put into every copy; else nothing is
-- pending, and the crash leaves the image of the start
abbrev pub OpenStopsAt : Place → Option Seen → Image → Case → Type 0
OpenStopsAt place None start c = IsSettledAt start c
OpenStopsAt place (Some seen) start c = PutStops place seen.generation seen.text start c

-- a stop at any moment of an opening, on a start on which a text stands where at least m copies hold it
abbrev pub OpenStops : Place → (m : ℕ) → Image → Case → Type 0
OpenStops place m start c = OpenStopsAt place (standing start place m) start c
