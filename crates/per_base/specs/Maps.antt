-- Finite maps from names to elements: lists of pairs in the order of the names, in the words that std has for a
-- `BTreeMap`; and tables of words.
use Rattle.std.specs.Prelude.{ℕ, ◌+◌, List, [], ◌∷◌, length, map, Bool, if◌then◌else◌, sum_by, is_some}
use Rattle.std.specs.Prelude.{Option, Some, None}
use Rattle.std.specs.Str.{bytes_eq}
use Rattle.std.specs.BTreeMap.{insert_entry, is_at}
use Rattle.std.specs.Map.{lookup, remove_entry}
use Rattle.per_base.specs.declared.elements.Element.{Element}
use Rattle.per_base.specs.Names.{name_cmp}

-- pairs of a name, which is its bytes, and the element of that name
abbrev pub Map : Type 0
Map = List (List ℕ × Element)

-- what a table, a list of words each with a value, has in its first row with this word
abbrev pub first_row : {A : Type 0} → List (List ℕ × A) → List ℕ → Option A
first_row [] word = None
first_row (row ∷ rows) word = if bytes_eq word row.0 then Some row.1 else first_row rows word

-- the element of this name, if there is one
abbrev pub element_at : Map → List ℕ → Option Element
element_at m name = lookup (is_at (name_cmp name)) m

-- whether there is an element of this name
abbrev pub has : Map → List ℕ → Bool
has m name = is_some (element_at m name)

-- the map with this element put at this name, in place of an earlier one
abbrev pub with_element : Map → List ℕ → Element → Map
with_element m name element = insert_entry name_cmp m name element

-- the map with the element of this name taken out, if there was one
abbrev pub without : Map → List ℕ → Map
without m name = remove_entry (is_at (name_cmp name)) m

-- the names, in the order of the map
abbrev pub names_of : Map → List (List ℕ)
names_of m = map (λ e. e.0) m

-- the bytes of all elements: of each its name and its encoding or content, which counts readable or not
abbrev pub size_of : Map → ℕ
size_of m = sum_by (λ e. length e.0 + e.1.len) m
