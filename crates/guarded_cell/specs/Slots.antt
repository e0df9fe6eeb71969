-- What is found in one slot, and which slots a pass over the copies picks.
use Rattle.std.specs.Prelude.{◌≡◌, ℕ, ◌<◌, ◌≤◌, ◌+◌, ◌%◌, ◌==◌, List, length, take, Bool, true, false, get_or, is_some}
use Rattle.std.specs.Prelude.{if◌then◌else◌}
use Rattle.hash_guard.specs.SealedText.{VerifiesAs, verified, header}
use Rattle.disk_model.specs.Image.{Image}
use Rattle.disk_model.specs.Place.{slot}
use Rattle.disk_model.specs.declared.place.Place.{Place}
use Rattle.guarded_cell.specs.declared.slots.Found.{Found}
use Rattle.guarded_cell.specs.declared.slots.Found.TheVariants.{Nothing, Wanted, Another}
use Rattle.guarded_cell.specs.declared.slots.Pick.{Pick}
use Rattle.guarded_cell.specs.declared.slots.Slots.{Slots}
use Rattle.guarded_cell.specs.declared.slots.Pick.TheVariants.{Lacking, Verifying, Others}
use Rattle.guarded_cell.specs.Register.{IsBlank}

-- how many bytes of a slot are read at most: a header and the longest body
abbrev pub front : ℕ
front = 524288

-- the header and the text have at most `reach` bytes in every slot that begins with `start`, which has a header
abbrev pub ReachesTo : (reach : ℕ) → (start : List ℕ) → Type 0
ReachesTo reach start = header ≤ length start → (slot : List ℕ) → take (length start) slot ≡ start
    → (generation : ℕ) (text : List ℕ) → VerifiesAs slot generation text → header + length text ≤ reach

-- what is found in a slot with these bytes, where this text under this generation is wanted
abbrev pub IsFoundInSlot : Found → List ℕ → ℕ → List ℕ → Type 0
IsFoundInSlot Nothing bytes generation text = IsBlank bytes
IsFoundInSlot Wanted bytes generation text = VerifiesAs bytes generation text
IsFoundInSlot Another bytes generation text = ¬ (VerifiesAs bytes generation text) × ¬ (IsBlank bytes)

-- whether a slot with this in it is picked
abbrev pub matches_pick : Pick → Found → Bool
matches_pick Lacking Nothing = true
matches_pick Lacking Wanted = false
matches_pick Lacking Another = true
matches_pick Verifying Nothing = false
matches_pick Verifying Wanted = true
matches_pick Verifying Another = true
matches_pick Others Nothing = false
matches_pick Others Wanted = false
matches_pick Others Another = true

-- nothing but this text under this generation verifies in the slot with these bytes
abbrev pub HasNoOther : List ℕ → ℕ → List ℕ → Type 0
HasNoOther bytes generation text = (g : ℕ) (t : List ℕ) → VerifiesAs bytes g t → (g ≡ generation) × (t ≡ text)

-- what a slot with these bytes is that is not picked, where this text under this generation is wanted
abbrev pub IsNotPicked : Pick → List ℕ → ℕ → List ℕ → Type 0
IsNotPicked Lacking bytes generation text = VerifiesAs bytes generation text
IsNotPicked Verifying bytes generation text = IsBlank bytes
IsNotPicked Others bytes generation text = HasNoOther bytes generation text

-- the flag is right: the slot is picked (true) just where it is not one that is not to be picked
abbrev pub Tells : Pick → Bool → List ℕ → ℕ → List ℕ → Type 0
Tells pick true bytes generation text = ¬ (IsNotPicked pick bytes generation text)
Tells pick false bytes generation text = IsNotPicked pick bytes generation text

-- the flags `chosen`, one for each copy, say which are picked by their slots of this parity, where this text under this
-- generation is wanted
abbrev pub Picks : Pick → (chosen : List Bool) → Image → Place → (parity generation : ℕ) → List ℕ → Type 0
Picks pick chosen image place parity generation text = (copy : ℕ) → copy < place.copies
    → Tells pick (get_or chosen copy false) (image (slot place copy parity)) generation text

-- ---- which slots hold a text

-- the flag says whether some text verifies in the slot with these bytes
abbrev pub IsFlag : List ℕ → Bool → Type 0
IsFlag bytes flag = flag ≡ is_some (verified bytes)

-- the flags are right for the slots of this parity of the first n copies
abbrev pub AreFlags : Image → Place → (n parity : ℕ) → List Bool → Type 0
AreFlags image place n parity flags = (copy : ℕ) → copy < n
    → IsFlag (image (slot place copy parity)) (get_or flags copy false)

-- for each copy of the place the flags say whether some text verifies in its even slot, and in its odd one
pub record IsSlotsOf (image : Image) (place : Place) (slots : Slots) : Type 0 where
  pub even : AreFlags image place place.copies 0 slots.even
  pub odd : AreFlags image place place.copies 1 slots.odd

-- the flags of the parity that is not the generation's
abbrev pub other_flags : Slots → (generation : ℕ) → List Bool
other_flags slots generation = if generation % 2 == 0 then slots.odd else slots.even
