-- Numbers in the text of a value: where one is to stand and none does.
use Rattle.std.specs.Prelude.{ℕ, List, [], ◌∷◌, length, take, codes, Bool, true, false, not, ◌&&◌, ◌||◌, nat_eq}
use Rattle.std.specs.Prelude.{if◌then◌else◌, Option, Some, None, is_some}
use Rattle.std.specs.List.{list_any, position_or_len, starts_with}
use Rattle.value_text.specs.Parsing.{value_in}
use Rattle.per_words.specs.declared.numbers.ValuePlace.{ValuePlace}
use Rattle.per_words.specs.declared.numbers.ValuePlace.TheVariants as place

-- the text begins with a type of numbers and a colon
abbrev pub has_number_type : List ℕ → Bool
has_number_type text = list_any (λ front. starts_with nat_eq text front)
    (codes "u8:" ∷ codes "u16:" ∷ codes "u32:" ∷ codes "u64:" ∷ codes "i8:" ∷ codes "i16:" ∷ codes "i32:"
    ∷ codes "i64:" ∷ [])

-- the text is a number of one
abbrev pub is_typed_number : List ℕ → Bool
is_typed_number text = has_number_type text && is_some (value_in text)

-- a byte after a number within a value: a comma (44), a closing bracket (93) or a closing brace (125)
abbrev pub ends_number : ℕ → Bool
ends_number byte = nat_eq byte 44 || (nat_eq byte 93 || nat_eq byte 125)

-- how many bytes stand before the first of these, and which
abbrev pub leading_number_length : List ℕ → ℕ
leading_number_length text = position_or_len ends_number text

abbrev pub leading_number : List ℕ → List ℕ
leading_number text = take (leading_number_length text) text

-- the text begins with a type of numbers, and with no number of it
abbrev pub begins_wrong : List ℕ → Bool
begins_wrong text = has_number_type text && not (is_some (value_in (leading_number text)))

-- a value may stand after the byte: after an opening bracket (91) or brace (123), or a comma (44)
abbrev pub begins_value : ℕ → Bool
begins_value byte = nat_eq byte 91 || (nat_eq byte 123 || nat_eq byte 44)

-- where the place after a byte is, outside quotes (34) and anywhere; a backslash (92) counts between quotes alone
abbrev pub place_outside : ℕ → ValuePlace
place_outside byte =
    if nat_eq byte 34 then place.Quoted else (if begins_value byte then place.Front else place.Inside)

abbrev pub place_after : ValuePlace → ℕ → ValuePlace
place_after place.Front byte = place_outside byte
place_after place.Inside byte = place_outside byte
place_after place.Quoted byte =
    if nat_eq byte 92 then place.Escaped else (if nat_eq byte 34 then place.Inside else place.Quoted)
place_after place.Escaped byte = place.Quoted

-- a value may begin there
abbrev pub is_front : ValuePlace → Bool
is_front place.Front = true
is_front place.Inside = false
is_front place.Quoted = false
is_front place.Escaped = false

-- how many bytes a text, which begins at this place of a value, has from the first number on that is none of its type
abbrev pub wrong_number : ValuePlace → List ℕ → Option ℕ
wrong_number p [] = None
wrong_number p (byte ∷ text) =
    if is_front p && begins_wrong (byte ∷ text)
    then Some (length (byte ∷ text)) else wrong_number (place_after p byte) text
