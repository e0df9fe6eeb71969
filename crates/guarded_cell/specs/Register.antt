-- A register: a text with a generation, in the slots of several copies. Copies are counted from 0. Each copy has two
-- slots, one file each: that of parity 0 is for even generations, that of parity 1 for odd ones. A slot verifies as a
-- text where its start is this text, with its generation, under its own hash.
use Rattle.std.specs.Prelude.{◌≡◌, ℕ, ◌-◌, ◌%◌, ◌<◌, ◌≤◌, List}
use Rattle.hash_guard.specs.SealedText.{VerifiesAs}
use Rattle.disk_model.specs.Image.{Image}
use Rattle.disk_model.specs.Place.{slot}
use Rattle.disk_model.specs.Damage.{AtLeast}
use Rattle.disk_model.specs.declared.place.Place.{Place}

-- the parity of the slots that hold texts of this generation: 0 or 1
abbrev pub own : ℕ → ℕ
own generation = generation % 2

-- the parity of the other slots, in which no text of this generation belongs
abbrev pub other : ℕ → ℕ
other generation = 1 - own generation

-- the slot with these bytes holds no text: it verifies as none
abbrev pub IsBlank : List ℕ → Type 0
IsBlank bytes = (generation : ℕ) (text : List ℕ) → ¬ (VerifiesAs bytes generation text)

-- on this image the copy holds this text under this generation: its slot of the generation's parity verifies as it
abbrev pub Holds : Image → Place → (copy generation : ℕ) → List ℕ → Type 0
Holds image place copy generation text = VerifiesAs (image (slot place copy (own generation))) generation text

-- at least m copies hold it
abbrev pub IsHeldBy : Image → Place → (m generation : ℕ) → List ℕ → Type 0
IsHeldBy image place m generation text = AtLeast (λ copy. Holds image place copy generation text) place.copies m

-- each copy holds the text, and no other slot verifies
pub record IsAlone (image : Image) (place : Place) (generation : ℕ) (text : List ℕ) : Type 0 where
  pub held : (copy : ℕ) → copy < place.copies → Holds image place copy generation text
  pub blank : (copy : ℕ) → copy < place.copies → IsBlank (image (slot place copy (other generation)))

-- just the copies that held the text on the old image hold it on the new one, and no other slot verifies
pub record IsKeptAlone (place : Place) (generation : ℕ) (text : List ℕ) (old new : Image) : Type 0 where
  pub held : (copy : ℕ) → copy < place.copies → Holds old place copy generation text
      → Holds new place copy generation text
  pub own_slots : (copy : ℕ) → copy < place.copies → (g : ℕ) (t : List ℕ)
      → VerifiesAs (new (slot place copy (own generation))) g t
      → (g ≡ generation) × (t ≡ text) × Holds old place copy generation text
  pub blank : (copy : ℕ) → copy < place.copies → IsBlank (new (slot place copy (other generation)))

-- no two held texts have one generation
abbrev pub IsOneEach : Image → Place → Type 0
IsOneEach image place = (a b generation : ℕ) (s t : List ℕ) → a < place.copies → b < place.copies
    → Holds image place a generation s → Holds image place b generation t → s ≡ t

-- what may stand: at least m copies hold it, and that many hold no greater generation (of two such texts under one
-- generation the one stands that is held first: `standing`)
pub record IsStanding (image : Image) (place : Place) (m generation : ℕ) (text : List ℕ) : Type 0 where
  pub enough : IsHeldBy image place m generation text
  pub greatest : (g : ℕ) (t : List ℕ) → IsHeldBy image place m g t → g ≤ generation

-- nothing stands: no text is held by m copies
abbrev pub HasNoStanding : Image → Place → (m : ℕ) → Type 0
HasNoStanding image place m = (generation : ℕ) (text : List ℕ)
    → ¬ (IsHeldBy image place m generation text)
