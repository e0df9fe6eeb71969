-- A text put at the starts of slots, of which only the runs are written that differ. A run has 256 bytes. A blank is a
-- header of 44 zeros, under which no text verifies.
use Rattle.std.specs.Prelude.{
  ◌≡◌,
  ◌≢◌,
  ◌⊎◌,
  ℕ,
  zero,
  suc,
  ◌+◌,
  List,
  length,
  take,
  replicate,
  Bool,
  true,
  false,
  get_or,
  ◌<◌,
  if◌then◌else◌,
}
use Rattle.std.specs.Str.{bytes_eq}
use Rattle.disk_model.specs.Image.{Image, put_bytes}
use Rattle.disk_model.specs.Case.{Case, IsSettledAt}
use Rattle.disk_model.specs.Medium.{Medium}
use Rattle.disk_model.specs.Place.{slot}
use Rattle.disk_model.specs.declared.place.Place.{Place}
use Rattle.changed_runs.specs.Changed.{changed_len}
use Rattle.guarded_cell.specs.Register.{IsBlank, own, other}
use Rattle.guarded_cell.specs.Starts.{IsChosen}

-- zeros stand where a text has its header of 44 bytes, as far as the slot goes
abbrev pub front_is_blank : List ℕ → Bool
front_is_blank slot = bytes_eq (take 44 slot) (take (length slot) (replicate 44 0))

-- how many bytes are written at most to put these bytes at the start of a slot: where the start is blank, those of the
-- runs that differ, and else all of them
abbrev pub front_cost : List ℕ → List ℕ → ℕ
front_cost slot bytes = if front_is_blank slot then changed_len slot 0 bytes else length bytes

-- how many bytes are written at most to put these bytes at the start of the slots of one parity of the first copies,
-- which held what this image says
abbrev pub texts_cost : Place → (parity : ℕ) → List ℕ → Image → (copies : ℕ) → ℕ
texts_cost place parity bytes image zero = 0
texts_cost place parity bytes image (suc copy) =
    texts_cost place parity bytes image copy + front_cost (image (slot place copy parity)) bytes

-- a slot, old and new, while the bytes are put at its start: as it was, or with the bytes at its start, or midway, and
-- then it holds no text
abbrev pub IsSlotMidway : List ℕ → (old new : List ℕ) → Type 0
IsSlotMidway bytes old new = (new ≡ old) ⊎ (((x : List ℕ) × (new ≡ put_bytes x 0 bytes)) ⊎ IsBlank new)

-- a case of a crash while the bytes are written at the start of one file: old is the case before, new the one after
pub record FrontCase (file : ℕ) (bytes : List ℕ) (old new : Case) : Type 0 where
  pub base : new.base ≡ old.base
  pub front : IsSlotMidway bytes (old.full file) (new.full file)
  pub full : (f : ℕ) → f ≢ file → new.full f ≡ old.full f
  pub left : (f : ℕ) → f ≢ file → new.left f ≡ old.left f

-- a case of a crash while they are written at the starts of some of these files
pub record TextsCase (Files : ℕ → Type 0) (bytes : List ℕ) (old new : Case) : Type 0 where
  pub base : new.base ≡ old.base
  pub each : (f : ℕ) → IsSlotMidway bytes (old.full f) (new.full f)
  pub full : (f : ℕ) → ¬ (Files f) → new.full f ≡ old.full f
  pub left : (f : ℕ) → ¬ (Files f) → new.left f ≡ old.left f

-- a case of a crash while the text is put into the chosen slots of this parity, or, where that is done, one that leaves
-- just what reads give
abbrev pub IsTextsCase : Place → (parity : ℕ) → List Bool → List ℕ → (old new : Medium) → (done : Type 0) → Case
    → Type 0
IsTextsCase place parity chosen bytes old new done c =
    ((d : Case) × old.now d × TextsCase (IsChosen place parity chosen) bytes d c) ⊎ (done × IsSettledAt new.image c)

-- each slot whose copy is flagged in `lacking` took the bytes at its start, and each slot of the other parity whose
-- copy is flagged in `stale` the 44 zeros of a blank; after these both are as they were
pub record PutsOver (place : Place) (generation : ℕ) (lacking stale : List Bool) (bytes : List ℕ)
    (old new : Image) : Type 0 where
  pub own_slots : (copy : ℕ) → copy < place.copies → get_or lacking copy false ≡ true
      → new (slot place copy (own generation)) ≡ put_bytes (old (slot place copy (own generation))) 0 bytes
  pub other_slots : (copy : ℕ) → copy < place.copies → get_or stale copy false ≡ true
      → new (slot place copy (other generation))
      ≡ put_bytes (old (slot place copy (other generation))) 0 (replicate 44 0)

-- of every copy the slot of the generation's parity took these bytes at its start, and the other slot the 44 zeros of a
-- blank; after these both are as they were
pub record IsOver (place : Place) (generation : ℕ) (bytes : List ℕ) (old new : Image) : Type 0 where
  pub own_slots : (copy : ℕ) → copy < place.copies
      → new (slot place copy (own generation)) ≡ put_bytes (old (slot place copy (own generation))) 0 bytes
  pub other_slots : (copy : ℕ) → copy < place.copies
      → new (slot place copy (other generation))
      ≡ put_bytes (old (slot place copy (other generation))) 0 (replicate 44 0)
