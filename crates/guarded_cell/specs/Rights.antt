-- The slots of a register that are right already, and that a call therefore leaves untouched.
use Rattle.std.specs.Prelude.{◌≡◌, ℕ, ◌<◌, List, Option, Some, None}
use Rattle.hash_guard.specs.SealedText.{VerifiesAs}
use Rattle.disk_model.specs.Image.{Image}
use Rattle.disk_model.specs.Place.{slot}
use Rattle.disk_model.specs.declared.place.Place.{Place}
use Rattle.guarded_cell.specs.declared.looking.Seen.{Seen}
use Rattle.guarded_cell.specs.Register.{IsBlank, own, other}
use Rattle.guarded_cell.specs.Slots.{HasNoOther}

-- the file is a slot that bringing every copy to a text leaves alone: one that holds it, or one of the other parity
-- that holds none; so is each file that is no slot of the place
abbrev pub IsRight : Image → Place → (generation : ℕ) → List ℕ → (file : ℕ) → Type 0
IsRight image place generation text file = (copy : ℕ) → copy < place.copies
    → (file ≡ slot place copy (own generation) → VerifiesAs (image file) generation text)
    × (file ≡ slot place copy (other generation) → IsBlank (image file))

-- the same for the text that stands; where none stands, every slot is left alone
abbrev pub IsRightFor : Option Seen → Image → Place → (file : ℕ) → Type 0
IsRightFor None image place file = Unit {0}
IsRightFor (Some seen) image place file = IsRight image place seen.generation seen.text file

-- the file is a slot that taking every other text away leaves alone: one that holds no other, or one of the other
-- parity that holds none; so is each file that is no slot of the place
abbrev pub IsClear : Image → Place → (generation : ℕ) → List ℕ → (file : ℕ) → Type 0
IsClear image place generation text file = (copy : ℕ) → copy < place.copies
    → (file ≡ slot place copy (own generation) → HasNoOther (image file) generation text)
    × (file ≡ slot place copy (other generation) → IsBlank (image file))
