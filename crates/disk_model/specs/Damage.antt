-- Soundness and damage, for anything that counts as a piece of an image: `Piece image x` says that the image has the
-- piece x, as a slot has a text that verifies under its hash.
use Rattle.std.specs.Prelude.{◌≡◌, ◌⊎◌, ℕ, suc, zero, ◌+◌, ◌*◌, ◌<◌, List, Contains}
use Rattle.disk_model.specs.Image.{Image}
use Rattle.disk_model.specs.Case.{Case}
use Rattle.disk_model.specs.declared.place.Place.{Place}

-- a crash makes no piece by chance: each one was there after the last sync, or the writes since then make it
abbrev pub IsSoundFor : {X : Type 0} → (Piece : Image → X → Type 0) → Case → Type 0
IsSoundFor {X} Piece c = (x : X) → Piece c.left x → Piece c.base x ⊎ Piece c.full x

-- damage that turns the old image into the new one, to files of the list `damaged` alone: every other file stays as it
-- is, and no piece is new
pub record DecaysFor {X : Type 0} (Piece : Image → X → Type 0) (damaged : List ℕ) (old new : Image) : Type 0 where
  pub others : (f : ℕ) → ¬ (Contains damaged f) → new f ≡ old f
  pub pieces : (x : X) → Piece new x → Piece old x

-- none of the three files of a copy (two slots and the area), counted from 0, is in the list of damaged files
abbrev pub IsUndamaged : (damaged : List ℕ) → Place → (copy : ℕ) → Type 0
IsUndamaged damaged place copy = (k : ℕ) → k < 3 → ¬ (Contains damaged (place.first + 4 * copy + k))

-- P holds of at least m of the first n copies, counted from 0 (arguments: P, n, m)
abbrev pub AtLeast : (P : ℕ → Type 0) → ℕ → ℕ → Type 0
AtLeast P n zero = Unit {0}
AtLeast P zero (suc m) = ⊥
AtLeast P (suc n) (suc m) = (P n × AtLeast P n m) ⊎ AtLeast P n (suc m)
