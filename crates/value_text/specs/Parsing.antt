-- Reading a type and a value from the start of a text, and from the whole of it.
use Rattle.std.specs.Prelude.{ℕ, zero, suc, ◌^◌, List, [], ◌∷◌, length, true, false, nat_eq, if◌then◌else◌, Option}
use Rattle.std.specs.Prelude.{Some, None, codes}
use Rattle.std.specs.Str.{is_utf8}
use Rattle.per_base.specs.Fields.{◌>>=◌}
use Rattle.value_model.specs.Kinds.{Size, one, two, four, eight, Kind, bool_kind, unsigned_kind, signed_kind, text_kind}
use Rattle.value_model.specs.Kinds.{bytes_kind, list_kind, fields_kind}
use Rattle.value_model.specs.Trees.{Tree, bool_tree, unsigned_tree, signed_tree, text_tree, bytes_tree, list_tree}
use Rattle.value_model.specs.Trees.{fields_tree}
use Rattle.value_model.specs.Validity.{unsigned_limit, max_depth}
use Rattle.value_model.specs.Views.{kinds_of, trees_of}
use Rattle.value_text.specs.Limits.{kept}
use Rattle.value_text.specs.Readers.{branch, literal_at, unsigned_at, signed_at, hex_bytes_at, quoted_at, separated}

-- the words of the scalar types, which are neither lists nor groups; none begins another
abbrev pub words : List (List ℕ × Kind)
words = (codes "bool", bool_kind)
    ∷ (codes "u8", unsigned_kind one) ∷ (codes "u16", unsigned_kind two) ∷ (codes "u32", unsigned_kind four)
    ∷ (codes "u64", unsigned_kind eight)
    ∷ (codes "i8", signed_kind one) ∷ (codes "i16", signed_kind two) ∷ (codes "i32", signed_kind four)
    ∷ (codes "i64", signed_kind eight)
    ∷ (codes "text", text_kind) ∷ (codes "bytes", bytes_kind) ∷ []

-- the type of the first row whose word stands at the start, and what follows the word
abbrev pub first_word : List (List ℕ × Kind) → List ℕ → Option (Kind × List ℕ)
first_word [] bytes = None
first_word (w ∷ ws) bytes = branch (literal_at w.0 bytes) (λ rest. Some (w.1, rest)) (first_word ws bytes)

-- the scalar type whose word stands at the start
unfoldable pub scalar_at : List ℕ → Option (Kind × List ℕ)
scalar_at bytes = first_word words bytes

-- a list's type, after its `list<`, where the function reads the item type
unfoldable pub list_kind_at : (List ℕ → Option (Kind × List ℕ)) → List ℕ → Option (Kind × List ℕ)
list_kind_at kind bytes = do
  item ← kind bytes
  rest ← literal_at (codes ">") item.1
  Some (list_kind item.0, rest)

-- a group's type, after its opening brace: 1 to 32 member types, which the function reads, up to a closing brace (125)
unfoldable pub fields_kind_at : (List ℕ → Option (Kind × List ℕ)) → List ℕ → Option (Kind × List ℕ)
fields_kind_at kind bytes = separated kind 125 32 bytes >>= λ members.
    Some (fields_kind (kinds_of members.0), members.1)

-- a list's type, a group's, or a scalar's, where the function reads the types inside
unfoldable pub kind_here : (List ℕ → Option (Kind × List ℕ)) → List ℕ → Option (Kind × List ℕ)
kind_here kind bytes =
    branch (literal_at (codes "list<") bytes) (list_kind_at kind)
    (branch (literal_at (codes "{") bytes) (fields_kind_at kind)
    (scalar_at bytes))

-- the type at the start, where it nests at most so deep (the first argument)
unfoldable pub kind_at : ℕ → List ℕ → Option (Kind × List ℕ)
kind_at zero bytes = None
kind_at (suc depth) bytes = kind_here (kind_at depth) bytes

-- the type that the whole text spells
unfoldable pub kind_in : List ℕ → Option Kind
kind_in text = kind_at max_depth text >>= λ k. if nat_eq (length k.1) 0 then Some k.0 else None

-- the bound of signed integers of this size: each is below it, and not below minus it
abbrev pub signed_limit : Size → ℕ
signed_limit one = 2 ^ 7
signed_limit two = 2 ^ 15
signed_limit four = 2 ^ 31
signed_limit eight = 2 ^ 63

-- a text in quotes, which is UTF-8, and what follows
unfoldable pub text_at : List ℕ → Option (List ℕ × List ℕ)
text_at bytes = do
  rest ← literal_at (codes "\"") bytes
  text ← quoted_at false rest
  if is_utf8 text.0 then Some text else None

-- a truth value
abbrev pub bool_at : List ℕ → Option (Tree × List ℕ)
bool_at bytes = branch (literal_at (codes "true") bytes) (λ rest. Some (bool_tree true, rest))
    (literal_at (codes "false") bytes >>= λ rest. Some (bool_tree false, rest))

-- the content of a scalar of this type, after its word and a colon
unfoldable pub value_content_at : Kind → List ℕ → Option (Tree × List ℕ)
value_content_at bool_kind bytes = bool_at bytes
value_content_at (unsigned_kind s) bytes = unsigned_at (unsigned_limit s) bytes >>= λ n. Some (unsigned_tree s n.0, n.1)
value_content_at (signed_kind s) bytes = signed_at (signed_limit s) bytes >>= λ z. Some (signed_tree s z.0, z.1)
value_content_at text_kind bytes = text_at bytes >>= λ t. Some (text_tree t.0, t.1)
value_content_at bytes_kind bytes = hex_bytes_at (length bytes) bytes >>= λ b. Some (bytes_tree b.0, b.1)
value_content_at (list_kind k) bytes = None
value_content_at (fields_kind ks) bytes = None

-- a scalar: its type's word, a colon, and its content
unfoldable pub scalar_tree_at : List ℕ → Option (Tree × List ℕ)
scalar_tree_at bytes = do
  k ← scalar_at bytes
  rest ← literal_at (codes ":") k.1
  value_content_at k.0 rest

-- a list's items up to its closing bracket (93), each read by the function: none, or as many as there are
unfoldable pub items_at : (List ℕ → Option (Tree × List ℕ)) → List ℕ → Option (List Tree × List ℕ)
items_at tree bytes = branch (literal_at (codes "]") bytes) (λ rest. Some ([], rest))
    (separated tree 93 (length bytes) bytes)

-- a list, after its `list<`: its item type, which nests at most so deep, and its items, which the function reads
unfoldable pub list_tree_at : ℕ → (List ℕ → Option (Tree × List ℕ)) → List ℕ → Option (Tree × List ℕ)
list_tree_at depth tree bytes = do
  item ← kind_at depth bytes
  rest ← literal_at (codes ">[") item.1
  items ← items_at tree rest
  Some (list_tree item.0 (trees_of items.0), items.1)

-- a group, after its opening brace: 1 to 32 members, which the function reads, up to a closing brace (125)
unfoldable pub fields_tree_at : (List ℕ → Option (Tree × List ℕ)) → List ℕ → Option (Tree × List ℕ)
fields_tree_at tree bytes = separated tree 125 32 bytes >>= λ members.
    Some (fields_tree (trees_of members.0), members.1)

-- a list, a group or a scalar, where the types inside nest at most so deep and the function reads the trees inside
unfoldable pub tree_here : ℕ → (List ℕ → Option (Tree × List ℕ)) → List ℕ → Option (Tree × List ℕ)
tree_here depth tree bytes =
    branch (literal_at (codes "list<") bytes) (list_tree_at depth tree)
    (branch (literal_at (codes "{") bytes) (fields_tree_at tree)
    (scalar_tree_at bytes))

-- a tree whose type nests at most so deep; whether a list's items have its item type is not asked
unfoldable pub tree_at : ℕ → List ℕ → Option (Tree × List ℕ)
tree_at zero bytes = None
tree_at (suc depth) bytes = tree_here depth (tree_at depth) bytes

-- the tree that the whole text spells
unfoldable pub tree_in : List ℕ → Option Tree
tree_in text = tree_at max_depth text >>= λ t. if nat_eq (length t.1) 0 then Some t.0 else None

-- the value that the whole text spells, where there is one
unfoldable pub value_in : List ℕ → Option Tree
value_in text = tree_in text >>= kept
