-- The grammar of names, and their order.
use Rattle.std.specs.Prelude.{ℕ, List, length, map, Bool, ◌||◌, nat_eq, nat_le, ◌&&◌, IsTrue}
use Rattle.std.specs.List.{list_all}
use Rattle.std.specs.List.Sorted.{IsStrictlySortedBy}
use Rattle.std.specs.declared.cmp.Ordering.{Ordering}
use Rattle.std.specs.Cmp.Lexicographic.{slice_cmp}
use Rattle.std.specs.Ordering.{nat_cmp}

-- an ASCII letter, a digit, or one of _ - . / (the codes 45 to 57 are - . / and the digits, 95 is _)
abbrev pub in_name : ℕ → Bool
in_name b = (nat_le 45 b && nat_le b 57) || (nat_le 65 b && nat_le b 90) || nat_eq b 95 || (nat_le 97 b && nat_le b 122)

-- 1 to 255 such bytes
abbrev pub is_name : List ℕ → Bool
is_name text = nat_le 1 (length text) && nat_le (length text) 255 && list_all in_name text

-- these bytes are a name
abbrev pub IsName : List ℕ → Type 0
IsName text = IsTrue (is_name text)

-- names are compared byte by byte from the left, and one that another begins with comes before it
abbrev pub name_cmp : List ℕ → List ℕ → Ordering
name_cmp = slice_cmp nat_cmp

-- the names of the things in a list, which `name_of` gives, ascend strictly, so that no two things have the same name
abbrev pub NamesAscend : {X : Type 0} → (X → List ℕ) → List X → Type 0
NamesAscend name_of xs = IsStrictlySortedBy name_cmp (map name_of xs)
