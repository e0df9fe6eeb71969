-- The files of a place: four numbers for each copy, of which the copy uses three. Copies are counted from 0.
use Rattle.std.specs.Prelude.{◌≢◌, ℕ, ◌+◌, ◌*◌, ◌<◌}
use Rattle.disk_model.specs.declared.place.Place.{Place}

-- The slot file of a copy for texts of even (parity 0) or odd (1) generation. A generation is the number of a version
-- of a text, so that the next version goes into the other slot and leaves this one as it is.
abbrev pub slot : Place → (copy parity : ℕ) → ℕ
slot place copy parity = place.first + 4 * copy + parity

-- the area file of a copy, which keeps contents in blocks of 256 bytes
abbrev pub area : Place → (copy : ℕ) → ℕ
area place copy = place.first + 4 * copy + 2

-- a file that is no slot and no area of the place
abbrev pub IsOutside : Place → (file : ℕ) → Type 0
IsOutside place file = (copy k : ℕ) → copy < place.copies → k < 3 → file ≢ place.first + 4 * copy + k

-- a file that is no slot of the place
abbrev pub IsNoSlot : Place → (file : ℕ) → Type 0
IsNoSlot place file = (copy parity : ℕ) → copy < place.copies → parity < 2 → file ≢ slot place copy parity

-- a file that is no area of the place
abbrev pub IsNoArea : Place → (file : ℕ) → Type 0
IsNoArea place file = (copy : ℕ) → copy < place.copies → file ≢ area place copy
