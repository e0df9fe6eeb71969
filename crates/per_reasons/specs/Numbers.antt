-- What is said of a number that is none of its type, and of a value that is too long.
use Rattle.std.specs.Prelude.{ℕ, List, [], ◌∷◌, length, drop, codes, Bool, false, ◌&&◌, ◌||◌, nat_eq, nat_lt}
use Rattle.std.specs.Prelude.{if◌then◌else◌}
use Rattle.std.specs.Char.{is_ascii_digit}
use Rattle.std.specs.List.{starts_with}

-- how many bytes the type has with which the text begins, with its colon
abbrev pub type_length : List ℕ → ℕ
type_length text =
    if starts_with nat_eq text (codes "u8:") || starts_with nat_eq text (codes "i8:") then 3 else 4

-- what stands after a minus, where there is one
abbrev pub after_minus : List ℕ → List ℕ
after_minus text = if starts_with nat_eq text (codes "-") then drop 1 text else text

-- a digit stands first
abbrev pub begins_with_digit : List ℕ → Bool
begins_with_digit [] = false
begins_with_digit (byte ∷ rest) = is_ascii_digit byte

-- a zero (48) stands first, before another digit
abbrev pub leads_with_zero : List ℕ → Bool
leads_with_zero [] = false
leads_with_zero (digit ∷ rest) = nat_eq digit 48 && begins_with_digit rest

-- which numbers the type has with which the text begins
abbrev pub bounds_text : List ℕ → List ℕ
bounds_text text =
    if starts_with nat_eq text (codes "u8:") then codes "one of u8:0 to u8:255" else (
    if starts_with nat_eq text (codes "u16:") then codes "one of u16:0 to u16:65535" else (
    if starts_with nat_eq text (codes "u32:") then codes "one of u32:0 to u32:4294967295" else (
    if starts_with nat_eq text (codes "u64:") then codes "one of u64:0 to u64:18446744073709551615" else (
    if starts_with nat_eq text (codes "i8:") then codes "one of i8:-128 to i8:127" else (
    if starts_with nat_eq text (codes "i16:") then codes "one of i16:-32768 to i16:32767" else (
    if starts_with nat_eq text (codes "i32:") then codes "one of i32:-2147483648 to i32:2147483647" else
    codes "one of i64:-9223372036854775808 to i64:9223372036854775807"))))))

-- how a number is spelled in the place of this text, or else what is needed: one within its bounds is refused for a
-- plus, for leading zeros, or for a minus before zero
abbrev pub needed_digits : (text needed : List ℕ) → List ℕ
needed_digits text needed =
    if starts_with nat_eq text (codes "+") then codes "a number without a plus" else (
    if leads_with_zero (after_minus text) then codes "a number without leading zeros" else (
    if starts_with nat_eq text (codes "-0") then codes "a zero without a minus" else needed))

-- a number in the place of this text, which begins with a type: one of that type, and spelled as one
abbrev pub needed_number : List ℕ → List ℕ
needed_number text = needed_digits (drop (type_length text) text) (bounds_text text)

-- a value in the place of this text, with its bound where the text may spell a longer one: at most 8 bytes encode 6 of
-- a text, and a quoted text of no escapes has 7 around it
abbrev pub needed_value : List ℕ → List ℕ
needed_value text =
    if starts_with nat_eq text (codes "text:") && nat_lt 65538 (length text) then codes "a text of at most 65531 bytes"
    else (if nat_lt 49152 (length text)
    then codes "a value, as u8:1 or text:\"a\", of at most 65536 bytes as it is encoded"
    else codes "a value, as u8:1 or text:\"a\"")
