-- Where no call of the disk is made.
use Rattle.std.proofs.Common.{◌≤◌, ℕ, Bool, refl, arith}
use Rattle.disk_model.specs.Frame.{IsSettledOn}
use Rattle.disk_model.specs.lemmas.Frames.{settled_on}
use Rattle.disk_model.specs.Laws.{elapses_none, goes_none}
use Rattle.disk_model.specs.Medium.{IsLawful, Medium}
use Rattle.disk_model.specs.Place.{IsOutside}
use Rattle.element_laws.specs.Phases.{IsOfPlace, UntouchedLaw}
use Rattle.element_maps.specs.Storages.{IsStoring}
use Rattle.element_state.specs.declared.shapes.Shape.{Shape}
use Rattle.element_state.specs.Kept.{IsKeptMending}
use Rattle.element_state.specs.States.{State}
use Rattle.element_state.specs.Written.{IsWithin}

pub none_storing : UntouchedLaw → (told : Bool) (shape : Shape) (after : State) (m : Medium) → 1 ≤ shape.m
    → IsLawful told m → IsStoring told shape after m m
none_storing untouched told shape after m some law = record {
  elsewhere = λ tells file spared. refl;
  outside = λ tells quiet. goes_none (IsSettledOn (IsOutside shape.place) m.image) law
      (λ c here. settled_on (IsOutside shape.place) (quiet c here));
  any_moment = λ tells quiet clean. goes_none (IsKeptMending shape m.image after) law
      (λ c here twins. untouched shape m.image after c some clean
      (settled_on (IsOfPlace shape.place) (quiet c here)));
  time = elapses_none law;
}

pub within_none : (copies contents index written : ℕ) → IsWithin copies contents index written written
within_none copies contents index written = omega arith
