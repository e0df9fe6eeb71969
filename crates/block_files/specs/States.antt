-- The states of the SHA-256 hasher on the way through a content, one after each 32 KiB (32768 bytes).
use Rattle.std.specs.Prelude.{◌≡◌, ◌*◌, ◌+◌, ◌<◌, ℕ, List, length, take, slice_index_or, Option, Some}
use Rattle.sha2.specs.Hashers.{Holds256}
use Rattle.sha2.specs.declared.Sha256.{Sha256}
use Rattle.block_files.specs.Contents.{first_content}

-- the i-th state, from 0, is that of the hasher after the first i + 1 times 32 KiB of the bytes
abbrev pub AreStatesOf : (bytes : List ℕ) → List Sha256 → Type 0
AreStatesOf bytes states = (i : ℕ) (d : Sha256) → i < length states
    → Holds256 (slice_index_or states i d) (take (32768 * (i + 1)) bytes)

-- states of the first content that some copy gives
abbrev pub AreOfFirst : List (Option (List ℕ)) → List Sha256 → Type 0
AreOfFirst given states = (text : List ℕ) → first_content given ≡ Some text → AreStatesOf text states
