-- What is asked for where the text that stands is followed from one image to the next.
use Rattle.std.specs.Prelude.{◌≡◌, ℕ, ◌+◌, ◌<◌, ◌≤◌, List}
use Rattle.disk_model.specs.Image.{Image}
use Rattle.disk_model.specs.Damage.{AtLeast, IsUndamaged}
use Rattle.disk_model.specs.Place.{slot}
use Rattle.disk_model.specs.declared.place.Place.{Place}
use Rattle.guarded_cell.specs.Register.{Holds, IsStanding, IsOneEach}
use Rattle.guarded_cell.specs.Stops.{IsOldOrNew}

-- every slot of the place holds the same bytes on both images
abbrev pub SameSlots : Place → (old new : Image) → Type 0
SameSlots place old new = (copy parity : ℕ) → copy < place.copies → parity < 2
    → new (slot place copy parity) ≡ old (slot place copy parity)

-- On `start` this text stands by m copies under generation g, no greater one is held, and no two held texts have the
-- same one. The next text is put into every copy under g + 1; a stop of that, and then damage to the files of the list
-- `damaged`, left `image`; and m copies that held what stood are not damaged.
pub record IsAdopting (place : Place) (m g : ℕ) (text next damaged : List ℕ) (start image : Image) : Type 0 where
  pub positive : 1 ≤ m
  pub one : IsOneEach start place
  pub stands : IsStanding start place m g text
  pub greatest : (copy : ℕ) → copy < place.copies → (h : ℕ) (t : List ℕ) → Holds start place copy h t → h ≤ g
  pub stop : IsOldOrNew place (g + 1) next damaged start image
  pub safe : AtLeast (λ c. IsUndamaged damaged place c × Holds start place c g text) place.copies m
