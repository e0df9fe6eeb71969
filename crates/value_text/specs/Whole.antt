-- Reading a number and bytes from the whole of a text.
use Rattle.std.specs.Prelude.{ℕ, ℤ, List, length, nat_eq, if◌then◌else◌, Option, Some, None}
use Rattle.per_base.specs.Fields.{◌>>=◌}
use Rattle.value_text.specs.Readers.{unsigned_at, signed_at, hex_bytes_at}

-- the number below the limit (the first argument) that the whole text writes in decimal
unfoldable pub unsigned_in : ℕ → List ℕ → Option ℕ
unsigned_in limit text = unsigned_at limit text >>= λ n. if nat_eq (length n.1) 0 then Some n.0 else None

-- the number from minus the limit (the first argument) on, and below it, that the whole text writes in decimal
unfoldable pub signed_in : ℕ → List ℕ → Option ℤ
signed_in limit text = signed_at limit text >>= λ z. if nat_eq (length z.1) 0 then Some z.0 else None

-- the bytes that the whole text writes, each in two lower-case hexadecimal digits
unfoldable pub bytes_in : List ℕ → Option (List ℕ)
bytes_in text = hex_bytes_at (length text) text >>= λ b. if nat_eq (length b.1) 0 then Some b.0 else None
