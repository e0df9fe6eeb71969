-- Fields of a text, read from the left: a field is a value and the bytes after it. Numbers stand with their lowest byte
-- first.
use Rattle.std.specs.Prelude.{◌≡◌, ℕ, zero, suc, List, [], ◌∷◌, take, drop, length, Bool, Option, Some, None, Result}
use Rattle.std.specs.Prelude.{Ok, Err, nat_lt, if◌then◌else◌, get_or, ◌<◌}
use Rattle.std.specs.Int.{Width, byte_len, from_le_bytes}

-- each number of the list is a byte
abbrev pub AreBytes : List ℕ → Type 0
AreBytes bytes = (i : ℕ) → get_or bytes i 0 < 256

-- the next step on what the step before it read; nothing where that read nothing
infixl 10 ◌>>=◌
abbrev pub ◌>>=◌ : {A B : Type 0} → Option A → (A → Option B) → Option B
None >>= f = None
(Some x) >>= f = f x

-- The result of a function beside `read`, what a definition reads from the same text: on success they are the same,
-- where `view` shows the value as the definition has it; on an error the definition reads nothing.
abbrev pub Reads : {X Y E : Type 0} → (X → Y) → Result X E → Option Y → Type 0
Reads view (Ok x) read = read ≡ Some (view x)
Reads view (Err e) read = read ≡ None

-- the first byte, and the bytes after it; nothing from an empty text
abbrev pub byte_at : List ℕ → Option (ℕ × List ℕ)
byte_at [] = None
byte_at (b ∷ bytes) = Some (b, bytes)

-- the first n bytes, and the bytes after them; nothing from a shorter text
unfoldable pub bytes_at : ℕ → List ℕ → Option (List ℕ × List ℕ)
bytes_at n bytes = if nat_lt (length bytes) n then None else Some (take n bytes, drop n bytes)

-- the number in the first bytes, which are as many as the width has (2, 4 or 8 for w16, w32, w64), and the bytes after
-- them; nothing from a shorter text
unfoldable pub number_at : Width → List ℕ → Option (ℕ × List ℕ)
number_at w bytes = if nat_lt (length bytes) (byte_len w) then None else Some
    (from_le_bytes w (take (byte_len w) bytes), drop (byte_len w) bytes)

-- x where the test holds, and else nothing
abbrev pub only_if : {A : Type 0} → Bool → A → Option A
only_if b x = if b then Some x else None

-- n things one after another, each by `read`, and the bytes after the last; nothing where one of them cannot be read
unfoldable pub many : {A : Type 0} → (List ℕ → Option (A × List ℕ)) → ℕ → List ℕ → Option (List A × List ℕ)
many read zero bytes = Some ([], bytes)
many read (suc n) bytes = do
  first ← read bytes
  others ← many read n first.1
  Some (first.0 ∷ others.0, others.1)
