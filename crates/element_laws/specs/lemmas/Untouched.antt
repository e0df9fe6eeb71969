-- What a call leaves that calls nothing of the disk.
use Rattle.std.specs.Prelude.{Bool}
use Rattle.disk_model.specs.Medium.{Medium, Quiet, EachCase, IsLawful}
use Rattle.disk_model.specs.Frame.{IsSettledOn}
use Rattle.disk_model.specs.Place.{IsOutside}
use Rattle.disk_model.specs.Laws.{goes_none}
use Rattle.disk_model.specs.lemmas.Frames.{settled_on}
use Rattle.disk_model.specs.declared.place.Place.{Place}
use Rattle.element_state.specs.declared.shapes.Shape.{Shape}
use Rattle.element_state.specs.States.{State}
use Rattle.element_state.specs.Conditions.{IsShape}
use Rattle.element_state.specs.Kept.{IsKeptCase, KeptThroughout, KeptWhileMending}
use Rattle.element_laws.specs.Phases.{IsOfPlace, UntouchedLaw}

-- a clean storage is kept throughout
pub none_kept : UntouchedLaw → (told : Bool) (shape : Shape) (state : State) (old : Medium) → IsShape shape
    → IsLawful told old → KeptThroughout shape state old old
none_kept untouched told shape state old is law quiet clean = goes_none (IsKeptCase shape old.image state) law
    (λ c here. untouched shape old.image state c is.some clean (settled_on (IsOfPlace shape.place) (quiet c here)))

-- what is kept throughout is so too where contents might have been mended
pub kept_mending : (shape : Shape) (state : State) (old new : Medium) → KeptThroughout shape state old new
    → KeptWhileMending shape state old new
kept_mending shape state old new kept quiet clean c past twins = kept quiet clean c past

-- what is outside a place stays at every moment
pub none_around : (told : Bool) (place : Place) (old : Medium) → IsLawful told old → Quiet old
    → EachCase (IsSettledOn (IsOutside place) old.image) old old
none_around told place old law quiet = goes_none (IsSettledOn (IsOutside place) old.image) law
    (λ c here. settled_on (IsOutside place) (quiet c here))
