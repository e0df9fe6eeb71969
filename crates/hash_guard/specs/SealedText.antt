-- A text under its hash: 32 bytes of SHA-256 of all that follows, the generation in 8 bytes, the body's length in 4
-- bytes, and the body. Numbers are little-endian. A slot is a file that begins with such a text, or is to.
use Rattle.std.specs.Prelude.{◌≡◌, ℕ, ◌+◌, ◌≤◌, List, ◌++◌, length, take, drop, Bool, cond, ◌&&◌, nat_le, Option, Some}
use Rattle.std.specs.Prelude.{None}
use Rattle.std.specs.Str.{bytes_eq}
use Rattle.byteorder.specs.Endian.{little_bytes, little_number}
use Rattle.sha2.specs.Sha256.{sha256}

-- how many bytes are before the body: 32 of the hash, 8 of the generation, 4 of the length
abbrev pub header : ℕ
header = 44

-- the greatest length of a body in bytes: with the header it makes 512 KiB
abbrev pub max_body : ℕ
max_body = 524244

-- ---- a text as it is written

-- what the hash is taken of: the generation, the body's length, and the body
unfoldable pub numbered : ℕ → List ℕ → List ℕ
numbered generation body = little_bytes 8 generation ++ little_bytes 4 (length body) ++ body

-- the sealed text of a generation and a body
unfoldable pub sealed : ℕ → List ℕ → List ℕ
sealed generation body = sha256 (numbered generation body) ++ numbered generation body

-- ---- a slot as it is read

-- the generation that a slot states, in the 8 bytes from the byte 32 on
unfoldable pub generation_in : List ℕ → ℕ
generation_in slot = little_number 8 (drop 32 slot)

-- the body's length that a slot states, in the 4 bytes from the byte 40 on
unfoldable pub length_in : List ℕ → ℕ
length_in slot = little_number 4 (drop 40 slot)

-- the bytes after the header, as many as the slot states
abbrev pub body_in : List ℕ → List ℕ
body_in slot = take (length_in slot) (drop header slot)

-- The slot's start is a text under its own hash: it has a header, a generation of at least 1, a body that is not too
-- long and all there, and begins with the hash of the 12 bytes of generation and length and of the body.
pub record IsSealed (slot : List ℕ) : Type 0 where
  pub head : header ≤ length slot
  pub generation : 1 ≤ generation_in slot
  pub short : length_in slot ≤ max_body
  pub whole : header + length_in slot ≤ length slot
  pub hash : take 32 slot ≡ sha256 (take (12 + length_in slot) (drop 32 slot))

-- the slot verifies as this generation and body; what follows the body does not matter
pub record VerifiesAs (slot : List ℕ) (generation : ℕ) (body : List ℕ) : Type 0 where
  pub front : IsSealed slot
  pub generation_is : generation ≡ generation_in slot
  pub body_is : body ≡ body_in slot

-- ---- the same as a function

-- whether the slot's start is such a text
abbrev pub is_sealed : List ℕ → Bool
is_sealed slot = nat_le header (length slot)
    && nat_le 1 (generation_in slot)
    && nat_le (length_in slot) max_body
    && nat_le (header + length_in slot) (length slot)
    && bytes_eq (take 32 slot) (sha256 (take (12 + length_in slot) (drop 32 slot)))

-- the generation and the body as which a slot verifies; nothing where it does not
unfoldable pub verified : List ℕ → Option (ℕ × List ℕ)
verified slot = cond (is_sealed slot) (Some (generation_in slot, body_in slot)) None
