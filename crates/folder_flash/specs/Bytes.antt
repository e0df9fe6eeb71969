-- The bytes of a flash in a file, and what calls do to them.
use Rattle.std.specs.Prelude.{◌≡◌, ◌⊎◌, ℕ, ◌+◌, ◌<◌, ◌≤◌, List, length, slice_index, slice_index_or}

-- the byte i of a flash: what the file lacks is blank
abbrev pub flash_byte : List ℕ → ℕ → ℕ
flash_byte file i = slice_index_or file i 255

-- these bytes are those of the flash from `at` on
abbrev pub AreFlashBytes : (file : List ℕ) (at : ℕ) (bytes : List ℕ) → Type 0
AreFlashBytes file at bytes = (j : ℕ) → j < length bytes → slice_index bytes j ≡ flash_byte file (at + j)

-- no byte of the flash changed
abbrev pub IsSameFlash : (old new : List ℕ) → Type 0
IsSameFlash old new = (i : ℕ) → flash_byte new i ≡ flash_byte old i

-- these bytes were put from `at` on, and no other changed
pub record PutsIntoFlash (at : ℕ) (bytes old new : List ℕ) : Type 0 where
  pub inside : AreFlashBytes new at bytes
  pub outside : (i : ℕ) → (i < at) ⊎ (at + length bytes ≤ i) → flash_byte new i ≡ flash_byte old i
