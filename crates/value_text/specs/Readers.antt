-- Readers of words, numbers and lists: each takes what it reads from the start of the bytes, and leaves the rest.
use Rattle.std.specs.Prelude.{◌≡◌, ℕ, zero, suc, ◌+◌, ◌-◌, ◌*◌, ◌^◌, ℤ, pos, negsuc, List, [], ◌∷◌, length, take}
use Rattle.std.specs.Prelude.{drop, Bool, true, false, not, ◌&&◌, ◌||◌, nat_lt, nat_le, nat_eq, ◌==◌, if◌then◌else◌}
use Rattle.std.specs.Prelude.{Option, Some, None, codes}
use Rattle.std.specs.List.{prefix_len}
use Rattle.std.specs.Char.{is_ascii_digit}
use Rattle.std.specs.Str.Parse.{digits_value}
use Rattle.per_base.specs.Fields.{◌>>=◌}
use Rattle.per_base.specs.FieldLoops.{with_front}

-- where something was read, what the function makes of it; else the other reading
abbrev pub branch : {A B : Type 0} → Option A → (A → Option B) → Option B → Option B
branch None f other = other
branch (Some x) f other = f x

-- what a function of the code found, seen as plain data by `view`, is what the specification reads, `None` with `None`
abbrev pub Finds : {X Y : Type 0} → (X → Y) → Option X → Option Y → Type 0
Finds view (Some x) read = read ≡ Some (view x)
Finds view None read = read ≡ None

-- what follows the word (the first argument), where the bytes begin with it
abbrev pub literal_at : List ℕ → List ℕ → Option (List ℕ)
literal_at [] bytes = Some bytes
literal_at (w ∷ ws) [] = None
literal_at (w ∷ ws) (b ∷ bytes) = if nat_eq b w then literal_at ws bytes else None

-- how many digits stand at the start
abbrev pub digit_count : List ℕ → ℕ
digit_count bytes = prefix_len is_ascii_digit bytes

-- there is a digit, and no leading zero (48) before another
abbrev pub is_canonical : List ℕ → Bool
is_canonical [] = false
is_canonical (d ∷ ds) = not (nat_eq d 48) || nat_eq (length ds) 0

-- the number below 2 ^ 64 that the decimal digits write, without a leading zero
unfoldable pub number_of : List ℕ → Option ℕ
number_of ds = if is_canonical ds then (if nat_lt (digits_value 10 ds) (2 ^ 64) then Some (digits_value 10 ds) else
    None) else None

-- the decimal number at the start, as far as digits go, and what follows it
unfoldable pub number_at : List ℕ → Option (ℕ × List ℕ)
number_at bytes = number_of (take (digit_count bytes) bytes) >>= λ n. Some (n, drop (digit_count bytes) bytes)

-- a decimal number below the limit (the first argument), and what follows it
unfoldable pub unsigned_at : ℕ → List ℕ → Option (ℕ × List ℕ)
unsigned_at limit bytes = number_at bytes >>= λ n. if nat_lt n.0 limit then Some n else None

-- minus the number (the second argument), where it is from 1 to the limit: a minus stands only before such a number
abbrev pub negative : ℕ → ℕ → Option ℤ
negative limit zero = None
negative limit (suc n) = if nat_lt n limit then Some (negsuc n) else None

-- a decimal number from minus the limit (the first argument) on, and below it, and what follows it
unfoldable pub signed_at : ℕ → List ℕ → Option (ℤ × List ℕ)
signed_at limit bytes = branch (literal_at (codes "-") bytes)
    (λ rest. number_at rest >>= λ n. negative limit n.0 >>= λ z. Some (z, n.1))
    (unsigned_at limit bytes >>= λ n. Some (pos n.0, n.1))

-- the value of a lower-case hexadecimal digit: 0 to 9 (48 to 57), a to f (97 to 102)
abbrev pub hex_value : ℕ → Option ℕ
hex_value b = if nat_le 48 b && nat_le b 57 then Some (b - 48) else
    (if nat_le 97 b && nat_le b 102 then Some (b - 87) else None)

-- a byte in two hexadecimal digits, and what follows
abbrev pub hex_byte_at : List ℕ → Option (ℕ × List ℕ)
hex_byte_at [] = None
hex_byte_at (a ∷ []) = None
hex_byte_at (a ∷ b ∷ rest) = hex_value a >>= λ high. hex_value b >>= λ low. Some (16 * high + low, rest)

-- the bytes that stand there in two hexadecimal digits each, as many as there are and at most n, and what follows
unfoldable pub hex_bytes_at : ℕ → List ℕ → Option (List ℕ × List ℕ)
hex_bytes_at zero bytes = Some ([], bytes)
hex_bytes_at (suc n) bytes = branch (hex_byte_at bytes) (λ x. with_front (x.0 ∷ []) (hex_bytes_at n x.1))
    (Some ([], bytes))

-- what a byte after a backslash denotes: a quote (34) and a backslash (92) themselves, an n (110) a line feed (10)
abbrev pub meant_by : ℕ → Option ℕ
meant_by b = if b == 34 then Some 34 else (if b == 92 then Some 92 else (if b == 110 then Some 10 else None))

-- The text up to the quote that ends it. Whether the byte before was a backslash is the first argument.
unfoldable pub quoted_at : Bool → List ℕ → Option (List ℕ × List ℕ)
quoted_at is_escaped [] = None
quoted_at true (b ∷ bytes) = meant_by b >>= λ m. with_front (m ∷ []) (quoted_at false bytes)
quoted_at false (b ∷ bytes) = if b == 34 then Some ([], bytes) else
    (if b == 92 then quoted_at true bytes else (if b == 10 then None else with_front (b ∷ []) (quoted_at false bytes)))

-- after one thing: whether the closing byte (the first argument) follows, which makes it the last, or a comma (44)
abbrev pub punctuation_at : ℕ → List ℕ → Option (Bool × List ℕ)
punctuation_at close [] = None
punctuation_at close (b ∷ rest) = if b == close then Some (true, rest) else
    (if b == 44 then Some (false, rest) else None)

-- things separated by commas up to a closing byte; in order: what reads one, the closing byte, the most that there may
-- be (at least one has to), and the bytes
unfoldable pub separated : {A : Type 0} → (List ℕ → Option (A × List ℕ)) → ℕ → ℕ → List ℕ → Option (List A × List ℕ)
separated thing close zero bytes = None
separated thing close (suc n) bytes = do
  x ← thing bytes
  after ← punctuation_at close x.1
  if after.0 then Some (x.0 ∷ [], after.1) else with_front (x.0 ∷ []) (separated thing close n after.1)
