-- Looking into a JSON value (`Data`): its members, and what stands in them. `get word d` is the member of d with this
-- name, where d is an object that has it.
use Rattle.std.specs.Prelude.{ℕ, List, [], ◌∷◌, Bool, true, false, ◌&&◌, nat_le, Option, None, Some, option_and_then}
use Rattle.std.specs.Prelude.{option_map, unwrap_or, is_some, if◌then◌else◌}
use Rattle.std.specs.List.{list_all, list_any}
use Rattle.std.specs.Str.{bytes_eq}
use Rattle.serde_json.specs.Data.{Data, Items, no_items, item, Members, no_members, member}
use Rattle.serde_json.specs.Find.{as_array, as_number, as_object, as_str, as_u64}

-- the items of an array, in order
abbrev pub items_in : Items → List Data
items_in no_items = []
items_in (item d ds) = d ∷ items_in ds

-- the names of the members of an object
abbrev pub names_in : Members → List (List ℕ)
names_in no_members = []
names_in (member name d ms) = name ∷ names_in ms

-- the items of a JSON array; none where there is no value, or another one
abbrev pub things_in : Option Data → List Data
things_in d = unwrap_or (option_map items_in (option_and_then as_array d)) []

-- the value is a JSON object
abbrev pub is_object : Data → Bool
is_object d = is_some (as_object d)

-- the value is a JSON array, and each of its items an object
abbrev pub is_list_of_objects : Data → Bool
is_list_of_objects d = is_some (as_array d) && list_all is_object (things_in (Some d))

-- the bytes of a JSON string; none where there is no value, or another one
abbrev pub text_in : Option Data → Option (List ℕ)
text_in d = option_and_then as_str d

-- the whole number that the value is: a JSON number that `serde_json` reads as a `u64`; `1.0` is none
abbrev pub whole_in : Option Data → Option ℕ
whole_in d = option_and_then as_u64 (option_and_then as_number d)

-- the number, where it is below 2 ^ 32
abbrev pub if_small : ℕ → Option ℕ
if_small n = if nat_le n 4294967295 then Some n else None

-- a whole number that 32 bits hold
abbrev pub small_in : Option Data → Option ℕ
small_in d = option_and_then if_small (whole_in d)

-- there is a number, and it is from the first to the second
abbrev pub is_in_range : ℕ → ℕ → Option ℕ → Bool
is_in_range low high None = false
is_in_range low high (Some n) = nat_le low n && nat_le n high

-- a member that may be missing passes the test where it is there
abbrev pub may_be : (Data → Bool) → Option Data → Bool
may_be test None = true
may_be test (Some d) = test d

-- the word is one of these
abbrev pub one_of : List (List ℕ) → List ℕ → Bool
one_of words word = list_any (bytes_eq word) words

-- the value has no member with a name but these; what is no object has no member
abbrev pub has_only : List (List ℕ) → Data → Bool
has_only words d = list_all (one_of words) (unwrap_or (option_map names_in (as_object d)) [])
