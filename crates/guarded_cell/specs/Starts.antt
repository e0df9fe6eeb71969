-- Bytes written at the starts of chosen slots of one parity. `chosen` has a flag for each copy.
use Rattle.std.specs.Prelude.{◌≡◌, ◌⊎◌, ℕ, ◌<◌, List, Bool, true, false, get_or}
use Rattle.disk_model.specs.Image.{Image, put_bytes}
use Rattle.disk_model.specs.Case.{Case, IsSettledAt}
use Rattle.disk_model.specs.Medium.{Medium}
use Rattle.disk_model.specs.Frame.{Spares}
use Rattle.disk_model.specs.Place.{slot}
use Rattle.disk_model.specs.declared.place.Place.{Place}

-- the file is the slot of this parity of a copy that is chosen
pub record IsChosen (place : Place) (parity : ℕ) (chosen : List Bool) (file : ℕ) : Type 0 where
  pub copy : ℕ
  pub within : copy < place.copies
  pub flag : get_or chosen copy false ≡ true
  pub is : file ≡ slot place copy parity

-- no copy is chosen
abbrev pub IsNone : (copies : ℕ) → (chosen : List Bool) → Type 0
IsNone copies chosen = (copy : ℕ) → copy < copies → get_or chosen copy false ≡ false

-- some of these files took the bytes at their start, and every other is as it was
pub record PutsSome (Files : ℕ → Type 0) (bytes : List ℕ) (old new : Image) : Type 0 where
  pub each : (f : ℕ) → (new f ≡ old f) ⊎ (new f ≡ put_bytes (old f) 0 bytes)
  pub others : (f : ℕ) → ¬ (Files f) → new f ≡ old f

-- each chosen slot took the bytes at its start, and every other file is as it was
pub record StartsPut (place : Place) (parity : ℕ) (chosen : List Bool) (bytes : List ℕ) (old new : Image) : Type 0 where
  pub some : PutsSome (IsChosen place parity chosen) bytes old new
  pub put : (copy : ℕ) → copy < place.copies → get_or chosen copy false ≡ true
      → new (slot place copy parity) ≡ put_bytes (old (slot place copy parity)) 0 bytes

-- the same in a case of a crash: in `full` each write is done whole or not at all, and in what the crash leaves the
-- chosen slots may hold anything
pub record StartsCase (place : Place) (parity : ℕ) (chosen : List Bool) (bytes : List ℕ) (old new : Case) : Type 0 where
  pub base : new.base ≡ old.base
  pub full : PutsSome (IsChosen place parity chosen) bytes old.full new.full
  pub left : Spares (λ f. ¬ (IsChosen place parity chosen f)) old.left new.left

-- a case of a crash while the bytes are written, or, where that is done, one that leaves just what reads give
abbrev pub IsStartsCase : Place → (parity : ℕ) → List Bool → List ℕ → (old new : Medium) → (done : Type 0) → Case
    → Type 0
IsStartsCase place parity chosen bytes old new done c =
    ((d : Case) × old.now d × StartsCase place parity chosen bytes d c) ⊎ (done × IsSettledAt new.image c)
