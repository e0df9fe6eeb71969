-- The one text of each type and of each value.
use Rattle.std.specs.Prelude.{ℕ, ◌/◌, ◌%◌, ◌+◌, List, [], ◌∷◌, ◌++◌, codes, nat_lt, ◌==◌, if◌then◌else◌}
use Rattle.std.specs.List.{flat_map}
use Rattle.std.specs.Fmt.{decimal, signed_decimal}
use Rattle.per_base.specs.declared.errors.PerError.{PerError}
use Rattle.per_base.specs.declared.errors.PerError.TheVariants.{DataTypeMismatch}
use Rattle.value_model.specs.Kinds.{Size, one, two, four, eight, Kind, bool_kind, unsigned_kind, signed_kind, text_kind}
use Rattle.value_model.specs.Kinds.{bytes_kind, list_kind, fields_kind, Kinds, no_kinds, kind_then}
use Rattle.value_model.specs.Trees.{Tree, bool_tree, unsigned_tree, signed_tree, text_tree, bytes_tree, list_tree}
use Rattle.value_model.specs.Trees.{fields_tree, Trees, no_trees, tree_then}

-- how many bits an integer of this size has, in digits (`codes` gives the bytes of a literal)
abbrev pub size_text : Size → List ℕ
size_text one = codes "8"
size_text two = codes "16"
size_text four = codes "32"
size_text eight = codes "64"

abbrev mutual
  -- the text of a type, such as `u16`, `list<u8>` or `{u8,text}`
  pub type_text : Kind → List ℕ
  type_text bool_kind = codes "bool"
  type_text (unsigned_kind s) = codes "u" ++ size_text s
  type_text (signed_kind s) = codes "i" ++ size_text s
  type_text text_kind = codes "text"
  type_text bytes_kind = codes "bytes"
  type_text (list_kind k) = codes "list<" ++ type_text k ++ codes ">"
  type_text (fields_kind ks) = codes "{" ++ types_text ks ++ codes "}"

  -- the texts of members, with one comma between two of them
  pub types_text : Kinds → List ℕ
  types_text no_kinds = []
  types_text (kind_then k ks) = type_text k ++ further_types_text ks

  -- the texts of the members after the first, each with its comma in front
  pub further_types_text : Kinds → List ℕ
  further_types_text no_kinds = []
  further_types_text (kind_then k ks) = codes "," ++ type_text k ++ further_types_text ks

-- the error where the stored value (its type first) has another type than was asked for: it carries both texts
abbrev pub mismatch : Kind → Kind → PerError
mismatch stored asked = DataTypeMismatch (type_text stored) (type_text asked)

-- how a byte stands in a text value: a quote (34) and a backslash (92) after a backslash, a line feed (10) as a
-- backslash and an n, and every other byte as it is
abbrev pub escaped_byte : ℕ → List ℕ
escaped_byte b = if b == 34 then codes "\\\"" else (if b == 92 then codes "\\\\" else
    (if b == 10 then codes "\\n" else (b ∷ [])))

-- all bytes of a text, each as it stands in a text value
abbrev pub escaped : List ℕ → List ℕ
escaped t = flat_map escaped_byte t

-- the digit of a number below 16, in ASCII: 0 to 9 from 48 on, a to f from 97 on
abbrev pub hex_digit : ℕ → ℕ
hex_digit n = if nat_lt n 10 then 48 + n else 87 + n

-- a byte in two lower-case hexadecimal digits
abbrev pub hex_byte_text : ℕ → List ℕ
hex_byte_text b = hex_digit (b / 16) ∷ hex_digit (b % 16) ∷ []

-- bytes, each in two digits, with nothing between
abbrev pub hex_text : List ℕ → List ℕ
hex_text b = flat_map hex_byte_text b

abbrev mutual
  -- the text of a value, such as `u16:513`, `bytes:00ff`, `list<u8>[u8:1,u8:2]` or `{u8:7,bool:true}`; a text stands in
  -- quotes after its word and a colon
  pub value_text : Tree → List ℕ
  value_text (bool_tree b) = codes "bool:" ++ (if b then codes "true" else codes "false")
  value_text (unsigned_tree s n) = codes "u" ++ size_text s ++ codes ":" ++ decimal n
  value_text (signed_tree s z) = codes "i" ++ size_text s ++ codes ":" ++ signed_decimal z
  value_text (text_tree t) = codes "text:\"" ++ escaped t ++ codes "\""
  value_text (bytes_tree b) = codes "bytes:" ++ hex_text b
  value_text (list_tree k ts) = codes "list<" ++ type_text k ++ codes ">[" ++ values_text ts ++ codes "]"
  value_text (fields_tree ts) = codes "{" ++ values_text ts ++ codes "}"

  -- the texts of items or members, with one comma between two of them
  pub values_text : Trees → List ℕ
  values_text no_trees = []
  values_text (tree_then t ts) = value_text t ++ further_values_text ts

  -- the texts of the items or members after the first, each with its comma in front
  pub further_values_text : Trees → List ℕ
  further_values_text no_trees = []
  further_values_text (tree_then t ts) = codes "," ++ value_text t ++ further_values_text ts
