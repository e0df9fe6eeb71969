-- The encoding of a tree: the code of its type, and then its payload.
use Rattle.std.specs.Prelude.{ℕ, List, [], ◌∷◌, ◌++◌, length, cond}
use Rattle.std.specs.Int.{w32, to_le_bytes, cast_unsigned}
use Rattle.value_model.specs.Kinds.{width, type_code}
use Rattle.value_model.specs.Trees.{Tree, bool_tree, unsigned_tree, signed_tree, text_tree, bytes_tree, list_tree}
use Rattle.value_model.specs.Trees.{fields_tree, Trees, no_trees, tree_then, count_trees, type_of}

-- the content of a tree in bytes, without its type. A truth value is one byte, 1 or 0. Numbers stand with their lowest
-- byte first, signed ones in two's complement. In front of a text or bytes stands their length, in front of the items
-- of a list their count, each as a number of four bytes; members of a group follow one another with nothing between
abbrev mutual
  pub payload : Tree → List ℕ
  payload (bool_tree b) = cond b 1 0 ∷ []
  payload (unsigned_tree s n) = to_le_bytes (width s) n
  payload (signed_tree s z) = to_le_bytes (width s) (cast_unsigned (width s) z)
  payload (text_tree t) = to_le_bytes w32 (length t) ++ t
  payload (bytes_tree b) = to_le_bytes w32 (length b) ++ b
  payload (list_tree k ts) = to_le_bytes w32 (count_trees ts) ++ payloads ts
  payload (fields_tree ts) = payloads ts

  -- the payloads of items or members, one after another
  pub payloads : Trees → List ℕ
  payloads no_trees = []
  payloads (tree_then t ts) = payload t ++ payloads ts

-- the bytes in which a tree is stored: the code of its type, and its payload
abbrev pub encoding : Tree → List ℕ
encoding t = type_code (type_of t) ++ payload t
