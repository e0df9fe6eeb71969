-- When a tree is a value: it is well typed, its numbers, texts and bytes are in range, and it keeps to the limits of
-- depth and length.
use Rattle.std.specs.Prelude.{◌≡◌, ℕ, ◌≤◌, ◌<◌, ◌^◌, length, slice_index, IsTrue}
use Rattle.std.specs.Int.RustNames.{FitsSigned}
use Rattle.std.specs.Str.{IsUtf8}
use Rattle.value_model.specs.Kinds.{Size, one, two, four, eight, width, Kind, kind_depth, kind_fits}
use Rattle.value_model.specs.Trees.{Tree, bool_tree, unsigned_tree, signed_tree, text_tree, bytes_tree, list_tree}
use Rattle.value_model.specs.Trees.{fields_tree, Trees, no_trees, tree_then, count_trees, type_of}
use Rattle.value_model.specs.Encoding.{encoding}

-- each of these trees has this type
abbrev pub AllOf : Kind → Trees → Type 0
AllOf k no_trees = Unit {0}
AllOf k (tree_then t ts) = (type_of t ≡ k) × AllOf k ts

-- every list item has the list's item type, and every group of fields, also in an item type, has 1 to 32 members
abbrev mutual
  pub IsTyped : Tree → Type 0
  IsTyped (bool_tree b) = Unit {0}
  IsTyped (unsigned_tree s n) = Unit {0}
  IsTyped (signed_tree s z) = Unit {0}
  IsTyped (text_tree t) = Unit {0}
  IsTyped (bytes_tree b) = Unit {0}
  IsTyped (list_tree k ts) = IsTrue (kind_fits k) × (AllOf k ts × AllTyped ts)
  IsTyped (fields_tree ts) = (1 ≤ count_trees ts) × ((count_trees ts ≤ 32) × AllTyped ts)

  -- each of these trees is well typed
  pub AllTyped : Trees → Type 0
  AllTyped no_trees = Unit {0}
  AllTyped (tree_then t ts) = IsTyped t × AllTyped ts

-- how many unsigned integers of this size there are: the greatest is one less
abbrev pub unsigned_limit : Size → ℕ
unsigned_limit one = 2 ^ 8
unsigned_limit two = 2 ^ 16
unsigned_limit four = 2 ^ 32
unsigned_limit eight = 2 ^ 64

-- numbers fit their size, texts are UTF-8, and each of the bytes is below 256
abbrev mutual
  pub InRange : Tree → Type 0
  InRange (bool_tree b) = Unit {0}
  InRange (unsigned_tree s n) = n < unsigned_limit s
  InRange (signed_tree s z) = FitsSigned (width s) z
  InRange (text_tree t) = IsUtf8 t
  InRange (bytes_tree b) = (i : ℕ) → slice_index b i < 256
  InRange (list_tree k ts) = AllInRange ts
  InRange (fields_tree ts) = AllInRange ts

  -- in each of these trees numbers fit their size, texts are UTF-8, and bytes are below 256
  pub AllInRange : Trees → Type 0
  AllInRange no_trees = Unit {0}
  AllInRange (tree_then t ts) = InRange t × AllInRange ts

-- the greatest depth of a value's type
abbrev pub max_depth : ℕ
max_depth = 8

-- the greatest number of bytes of a value's encoding
abbrev pub max_length : ℕ
max_length = 65536

-- the tree is a value: it is well typed, what it contains is in range, its type nests at most 8 deep, and its encoding
-- has at most 65,536 bytes
pub record IsValue (t : Tree) : Type 0 where
  pub typed : IsTyped t
  pub in_range : InRange t
  pub shallow : kind_depth (type_of t) ≤ max_depth
  pub short : length (encoding t) ≤ max_length
