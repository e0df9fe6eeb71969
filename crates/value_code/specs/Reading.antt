-- What bytes say, read from left to right: a kind, a tree of a kind that is known, and the value that all of them
-- encode.
use Rattle.std.specs.Prelude.{ℕ, zero, suc, List, [], ◌∷◌, length, take, drop, Bool, true, false, nat_eq, nat_lt}
use Rattle.std.specs.Prelude.{Option, Some, None, is_some, if◌then◌else◌}
use Rattle.std.specs.Int.{Width, w32, byte_len, from_le_bytes, cast_signed}
use Rattle.std.specs.Str.{is_utf8}
use Rattle.per_base.specs.declared.elements.StoreKind.{StoreKind}
use Rattle.per_base.specs.declared.elements.StoreKind.TheVariants.{Keys, Files}
use Rattle.per_base.specs.Fields.{◌>>=◌, byte_at}
use Rattle.value_model.specs.Kinds.{one, two, four, eight, width, is_group, Kind, bool_kind, unsigned_kind, signed_kind}
use Rattle.value_model.specs.Kinds.{text_kind, bytes_kind, list_kind, fields_kind, Kinds, no_kinds, kind_then}
use Rattle.value_model.specs.Trees.{Tree, bool_tree, unsigned_tree, signed_tree, text_tree, bytes_tree, list_tree}
use Rattle.value_model.specs.Trees.{fields_tree, Trees, no_trees, tree_then}
use Rattle.value_model.specs.Validity.{max_depth, max_length}

-- ---- what stands at the start, and the bytes after it; `None` where it does not stand there

-- a number of this width, with its lowest byte first
abbrev pub number_at : Width → List ℕ → Option (ℕ × List ℕ)
number_at w bytes = if nat_lt (length bytes) (byte_len w) then None else Some
    (from_le_bytes w (take (byte_len w) bytes), drop (byte_len w) bytes)

-- a length as a number of four bytes, and that many bytes after it
unfoldable pub counted_at : List ℕ → Option (List ℕ × List ℕ)
counted_at bytes = do
  n ← number_at w32 bytes
  if nat_lt (length n.1) n.0 then None else Some (take n.0 n.1, drop n.0 n.1)

-- the bytes themselves, where they are UTF-8
abbrev pub text_of : List ℕ → Option (List ℕ)
text_of bytes = if is_utf8 bytes then Some bytes else None

-- ---- kinds

-- the types whose code is one byte, by their codes
abbrev pub scalars : List (ℕ × Kind)
scalars = (1, bool_kind) ∷ (2, unsigned_kind one) ∷ (3, unsigned_kind two) ∷ (4, unsigned_kind four)
    ∷ (5, unsigned_kind eight)
    ∷ (6, signed_kind one) ∷ (7, signed_kind two) ∷ (8, signed_kind four) ∷ (9, signed_kind eight)
    ∷ (10, text_kind) ∷ (11, bytes_kind) ∷ []

-- the type in the first row with this code
abbrev pub find_code : List (ℕ × Kind) → ℕ → Option Kind
find_code [] code = None
find_code (row ∷ rows) code = if nat_eq code row.0 then Some row.1 else find_code rows code

-- the type whose whole code is this byte
abbrev pub scalar_of : ℕ → Option Kind
scalar_of code = find_code scalars code

-- n kinds one after another, each read by f
unfoldable pub kinds_by : (List ℕ → Option (Kind × List ℕ)) → ℕ → List ℕ → Option (Kinds × List ℕ)
kinds_by f zero bytes = Some (no_kinds, bytes)
kinds_by f (suc n) bytes = do
  first ← f bytes
  others ← kinds_by f n first.1
  Some (kind_then first.0 others.0, others.1)

-- after the code of a list, with the item's kind read by f
unfoldable pub list_kind_by : (List ℕ → Option (Kind × List ℕ)) → List ℕ → Option (Kind × List ℕ)
list_kind_by f bytes = do
  item ← f bytes
  Some (list_kind item.0, item.1)

-- after the code of a group of fields: how many members, and their kinds
unfoldable pub group_kind_by : (List ℕ → Option (Kind × List ℕ)) → List ℕ → Option (Kind × List ℕ)
group_kind_by f bytes = do
  count ← byte_at bytes
  if is_group count.0 then (kinds_by f count.0 count.1 >>= λ members. Some (fields_kind members.0, members.1)) else None

-- after a code that is no list and no group: the type that it is by itself, and the bytes as they are
abbrev pub scalar_kind : ℕ → List ℕ → Option (Kind × List ℕ)
scalar_kind code bytes = scalar_of code >>= λ scalar. Some (scalar, bytes)

-- the type of at most this depth whose code stands at the start: 12 is a list, 13 a group of fields
unfoldable pub kind_at : ℕ → List ℕ → Option (Kind × List ℕ)
kind_at zero bytes = None
kind_at (suc depth) bytes = do
  code ← byte_at bytes
  if nat_eq code.0 12 then list_kind_by (kind_at depth) code.1 else if nat_eq code.0 13 then group_kind_by
      (kind_at depth) code.1 else scalar_kind code.0 code.1

-- ---- trees

-- the byte 0 is false, 1 is true, and another is no truth value
abbrev pub truth_of : ℕ → Option Bool
truth_of b = if nat_eq b 0 then Some false else if nat_eq b 1 then Some true else None

-- n trees one after another, each read by f
unfoldable pub trees_by : (List ℕ → Option (Tree × List ℕ)) → ℕ → List ℕ → Option (Trees × List ℕ)
trees_by f zero bytes = Some (no_trees, bytes)
trees_by f (suc n) bytes = do
  first ← f bytes
  others ← trees_by f n first.1
  Some (tree_then first.0 others.0, others.1)

abbrev mutual
  -- the tree of this type whose payload stands at the start, and the bytes after it
  pub tree_at : Kind → List ℕ → Option (Tree × List ℕ)
  tree_at bool_kind bytes = byte_at bytes >>= λ b. truth_of b.0 >>= λ truth. Some (bool_tree truth, b.1)
  tree_at (unsigned_kind s) bytes = number_at (width s) bytes >>= λ n. Some (unsigned_tree s n.0, n.1)
  tree_at (signed_kind s) bytes = number_at (width s) bytes >>= λ n.
      Some (signed_tree s (cast_signed (width s) n.0), n.1)
  tree_at text_kind bytes = counted_at bytes >>= λ t. text_of t.0 >>= λ text. Some (text_tree text, t.1)
  tree_at bytes_kind bytes = counted_at bytes >>= λ b. Some (bytes_tree b.0, b.1)
  tree_at (list_kind k) bytes = number_at w32 bytes >>= λ n. trees_by (tree_at k) n.0 n.1 >>= λ items.
      Some (list_tree k items.0, items.1)
  tree_at (fields_kind ks) bytes = trees_at ks bytes >>= λ members. Some (fields_tree members.0, members.1)

  -- one tree of each type, in order
  pub trees_at : Kinds → List ℕ → Option (Trees × List ℕ)
  trees_at no_kinds bytes = Some (no_trees, bytes)
  trees_at (kind_then k ks) bytes = tree_at k bytes >>= λ first. trees_at ks first.1 >>= λ others.
      Some (tree_then first.0 others.0, others.1)

-- ---- values

-- the tree that was read, where no bytes are left after it
abbrev pub if_whole : Tree × List ℕ → Option Tree
if_whole t = if nat_eq (length t.1) 0 then Some t.0 else None

-- the value that the bytes encode, from the first to the last: at most 65,536 of them, the code of a type that nests at
-- most 8 deep, and the payload of a tree of that type
unfoldable pub decoded : List ℕ → Option Tree
decoded bytes = if nat_lt max_length (length bytes) then None else
    (kind_at max_depth bytes >>= λ k. tree_at k.0 k.1 >>= if_whole)

-- whether some value encodes to the bytes
abbrev pub is_encoding : List ℕ → Bool
is_encoding bytes = is_some (decoded bytes)

-- the bytes may be the content of an element in a storage of this kind: a key's encode a value, a file's may be any
abbrev pub is_content : StoreKind → List ℕ → Bool
is_content Keys bytes = is_some (decoded bytes)
is_content Files bytes = true
