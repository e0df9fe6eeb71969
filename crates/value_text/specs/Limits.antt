-- Whether a tree that was read is a value, as a test that computes.
use Rattle.std.specs.Prelude.{Bool, true, ◌&&◌, length, nat_le, if◌then◌else◌, Option, Some, None}
use Rattle.value_model.specs.Kinds.{Kind, kind_depth, kind_fits, same_kind}
use Rattle.value_model.specs.Trees.{Tree, bool_tree, unsigned_tree, signed_tree, text_tree, bytes_tree, list_tree}
use Rattle.value_model.specs.Trees.{fields_tree, Trees, no_trees, tree_then, count_trees, type_of}
use Rattle.value_model.specs.Encoding.{encoding}
use Rattle.value_model.specs.Validity.{max_depth, max_length}

-- each of these trees has this type
abbrev pub have_kind : Kind → Trees → Bool
have_kind k no_trees = true
have_kind k (tree_then t ts) = same_kind (type_of t) k && have_kind k ts

abbrev mutual
  -- every list item has the list's item type, and every group of fields, also in an item type, has 1 to 32 members
  pub is_typed : Tree → Bool
  is_typed (bool_tree b) = true
  is_typed (unsigned_tree s n) = true
  is_typed (signed_tree s z) = true
  is_typed (text_tree t) = true
  is_typed (bytes_tree b) = true
  is_typed (list_tree k ts) = kind_fits k && (have_kind k ts && are_typed ts)
  is_typed (fields_tree ts) = nat_le 1 (count_trees ts) && (nat_le (count_trees ts) 32 && are_typed ts)

  -- each of these trees is well typed
  pub are_typed : Trees → Bool
  are_typed no_trees = true
  are_typed (tree_then t ts) = is_typed t && are_typed ts

-- the tree is well typed, its type nests at most 8 deep, and its encoding has at most 65,536 bytes
unfoldable pub keeps_limits : Tree → Bool
keeps_limits t = is_typed t && (nat_le (kind_depth (type_of t)) max_depth && nat_le (length (encoding t)) max_length)

-- the tree, where it is well typed and keeps to the limits
abbrev pub kept : Tree → Option Tree
kept t = if keeps_limits t then Some t else None
