-- A tree is the content of a value, as plain data, and has the kind of its shape.
use Rattle.std.specs.Prelude.{ℕ, suc, ℤ, List, Bool}
use Rattle.value_model.specs.Kinds.{Size, Kind, bool_kind, unsigned_kind, signed_kind, text_kind, bytes_kind, list_kind}
use Rattle.value_model.specs.Kinds.{fields_kind, Kinds, no_kinds, kind_then}

mutual
  -- a truth value; an integer of this size, without or with a sign; the UTF-8 bytes of a text; bytes; a list: the type
  -- that its items are to have, and the items; a group of fields: its members in order
  pub data Tree : Type 0 where
    bool_tree : Bool → Tree
    unsigned_tree : Size → ℕ → Tree
    signed_tree : Size → ℤ → Tree
    text_tree : List ℕ → Tree
    bytes_tree : List ℕ → Tree
    list_tree : Kind → Trees → Tree
    fields_tree : Trees → Tree

  -- items of a list or members of a group, the first in front
  pub data Trees : Type 0 where
    no_trees : Trees
    tree_then : Tree → Trees → Trees

-- how many items or members
abbrev pub count_trees : Trees → ℕ
count_trees no_trees = 0
count_trees (tree_then t ts) = suc (count_trees ts)

abbrev mutual
  -- the type of a tree; for a list, the item type that it names, whatever its items are
  pub type_of : Tree → Kind
  type_of (bool_tree b) = bool_kind
  type_of (unsigned_tree s n) = unsigned_kind s
  type_of (signed_tree s z) = signed_kind s
  type_of (text_tree t) = text_kind
  type_of (bytes_tree b) = bytes_kind
  type_of (list_tree k ts) = list_kind k
  type_of (fields_tree ts) = fields_kind (types_of ts)

  -- the types of members, in order
  pub types_of : Trees → Kinds
  types_of no_trees = no_kinds
  types_of (tree_then t ts) = kind_then (type_of t) (types_of ts)
