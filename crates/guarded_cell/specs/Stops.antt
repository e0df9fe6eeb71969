-- What a stop at any moment of a call leaves of a register, and then damage. `start` is the image before the call,
-- `image` what is there after the stop and the damage, and `damaged` lists the files that the damage may have changed.
use Rattle.std.specs.Prelude.{◌≡◌, ◌⊎◌, ℕ, ◌+◌, ◌<◌, List}
use Rattle.hash_guard.specs.SealedText.{VerifiesAs}
use Rattle.disk_model.specs.Image.{Image}
use Rattle.disk_model.specs.Case.{Case}
use Rattle.disk_model.specs.Damage.{IsSoundFor, DecaysFor, IsUndamaged}
use Rattle.disk_model.specs.Frame.{IsSettledOn}
use Rattle.disk_model.specs.Place.{slot, IsNoSlot}
use Rattle.disk_model.specs.declared.place.Place.{Place}
use Rattle.guarded_cell.specs.Register.{Holds, own}

-- a text in a slot: of which copy, from 0, of which parity, and the text with its generation
pub record SlotText : Type 0 where
  pub copy : ℕ
  pub parity : ℕ
  pub generation : ℕ
  pub text : List ℕ

-- this text in a slot is a piece of the image: the slot is one of the place, and verifies as the text
pub record IsSlotPiece (place : Place) (image : Image) (piece : SlotText) : Type 0 where
  pub copy : piece.copy < place.copies
  pub parity : piece.parity < 2
  pub verifies : VerifiesAs (image (slot place piece.copy piece.parity)) piece.generation piece.text

-- P holds of what this case of a crash leaves, and then damage: of each list of damaged files and each image that is
-- what the crash left but in these files, where neither makes a text in a slot by chance
abbrev pub AfterStop : Place → (damaged_to : List ℕ → Image → Type 0) → Case → Type 0
AfterStop place P c = IsSoundFor (IsSlotPiece place) c → (damaged : List ℕ) (image : Image)
    → DecaysFor (IsSlotPiece place) damaged c.left image → P damaged image

-- no copy holds a text that it did not hold at the start, but this one under this generation
abbrev pub HoldsKnown : Place → (generation : ℕ) → List ℕ → (start image : Image) → Type 0
HoldsKnown place generation text start image = (copy : ℕ) → copy < place.copies → (g : ℕ) (t : List ℕ)
    → Holds image place copy g t → Holds start place copy g t ⊎ ((g ≡ generation) × (t ≡ text))

-- no copy holds a text that it did not hold at the start
abbrev pub HoldsLess : Place → (start image : Image) → Type 0
HoldsLess place start image = (copy : ℕ) → copy < place.copies → (g : ℕ) (t : List ℕ)
    → Holds image place copy g t → Holds start place copy g t

-- each copy outside the damage that held this text under this generation holds it
abbrev pub KeepsText : Place → (generation : ℕ) → List ℕ → (damaged : List ℕ) → (start image : Image) → Type 0
KeepsText place generation text damaged start image = (copy : ℕ) → copy < place.copies → IsUndamaged damaged place copy
    → Holds start place copy generation text → Holds image place copy generation text

-- A text is put into every copy under this generation. No copy holds a text that it did not hold, but this one; copies
-- outside the damage that held it do so still; and either each copy outside the damage holds what it held in its slot
-- of the other parity, or each holds the text.
pub record IsOldOrNew (place : Place) (generation : ℕ) (text damaged : List ℕ) (start image : Image) : Type 0 where
  pub known : HoldsKnown place generation text start image
  pub kept : KeepsText place generation text damaged start image
  pub stands :
      ((copy : ℕ) → copy < place.copies → IsUndamaged damaged place copy → (g : ℕ) (t : List ℕ)
      → own g ≡ own (generation + 1)
      → Holds start place copy g t → Holds image place copy g t)
      ⊎ ((copy : ℕ) → copy < place.copies → IsUndamaged damaged place copy → Holds image place copy generation text)

-- the files of this place that are no slots, and all files elsewhere, are left by the crash c as they were at the
-- start, and nothing is pending in them
abbrev pub IsSettledElsewhere : Place → Image → Case → Type 0
IsSettledElsewhere place start c = IsSettledOn (IsNoSlot place) start c

-- a stop while a text is put into every copy: the crash is the case c
pub record PutStops (place : Place) (generation : ℕ) (text : List ℕ) (start : Image) (c : Case) : Type 0 where
  pub slots : AfterStop place (λ damaged image. IsOldOrNew place generation text damaged start image) c
  pub elsewhere : IsSettledElsewhere place start c

-- a stop while all texts but one are taken away: no copy holds a text that it did not hold, and those that held this
-- one hold it still
pub record KeepStops (place : Place) (generation : ℕ) (text : List ℕ) (start : Image) (c : Case) : Type 0 where
  pub known : AfterStop place (λ damaged image. HoldsLess place start image) c
  pub kept : AfterStop place (λ damaged image. KeepsText place generation text damaged start image) c
  pub elsewhere : IsSettledElsewhere place start c

-- a stop while a register is formatted: every copy holds only what it held, or every copy holds only the text
pub record FormatStops (place : Place) (generation : ℕ) (text : List ℕ) (start : Image) (c : Case) : Type 0 where
  pub slots : AfterStop place (λ damaged image. HoldsLess place start image
      ⊎ ((copy : ℕ) → copy < place.copies → (g : ℕ) (t : List ℕ) → Holds image place copy g t
      → (g ≡ generation) × (t ≡ text))) c
  pub elsewhere : IsSettledElsewhere place start c
