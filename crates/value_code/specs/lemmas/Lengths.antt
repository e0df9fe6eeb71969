-- How long encodings are: no payload is empty, so a list has no more items than its payload has bytes.
use Rattle.std.proofs.Common.{◌≡◌, ℕ, ◌≤◌, ◌<◌, ◌^◌, length, refl, arith, length-append, Vec, vec_len, Global}
use Rattle.std.specs.declared.rc.Rc.{Rc}
use Rattle.std.specs.Int.{w32, to_le_bytes, byte_len}
use Rattle.value_model.specs.declared.types.ValueType.{ValueType}
use Rattle.value_model.specs.declared.nodes.Node as nodes
use Rattle.value_model.specs.declared.nodes.Node.{Node}
use Rattle.value_model.specs.Kinds.{Size, one, two, four, eight, width, Kind, bool_kind, unsigned_kind, signed_kind}
use Rattle.value_model.specs.Kinds.{text_kind, bytes_kind, list_kind, fields_kind, type_code}
use Rattle.value_model.specs.Trees.{Tree, bool_tree, unsigned_tree, signed_tree, text_tree, bytes_tree, list_tree}
use Rattle.value_model.specs.Trees.{fields_tree, Trees, no_trees, tree_then, count_trees, type_of}
use Rattle.value_model.specs.Encoding.{payload, payloads, encoding}
use Rattle.value_model.specs.Validity.{IsTyped, AllTyped, IsValue}
use Rattle.value_model.specs.Views.{tree_of, kind_of, trees_view}
use Rattle.value_model.specs.lemmas.Members.{tree_of-List, counted}

pub number_length : (s : Size) (n : ℕ) → length (to_le_bytes (width s) n) ≡ byte_len (width s)
number_length one n = refl
number_length two n = refl
number_length four n = refl
number_length eight n = refl

some_bytes : (s : Size) → 1 ≤ byte_len (width s)
some_bytes one = omega arith
some_bytes two = omega arith
some_bytes four = omega arith
some_bytes eight = omega arith

mutual
  pub payload_long : (t : Tree) → IsTyped t → 1 ≤ length (payload t)
  payload_long (bool_tree b) typed = omega arith
  payload_long (unsigned_tree s n) typed = rw (number_length s n) (some_bytes s)
  payload_long (signed_tree s z) typed = rw (number_length s _) (some_bytes s)
  payload_long (text_tree t) typed = omega (
    arith,
    length-append (to_le_bytes w32 (length t)) t,
    number_length four (length t),
  )
  payload_long (bytes_tree b) typed = omega (
    arith,
    length-append (to_le_bytes w32 (length b)) b,
    number_length four (length b),
  )
  payload_long (list_tree k ts) typed = omega (
    arith,
    length-append (to_le_bytes w32 (count_trees ts)) (payloads ts),
    number_length four (count_trees ts),
  )
  payload_long (fields_tree ts) typed = omega (arith, payloads_long ts typed.1.1, typed.0)

  pub payloads_long : (ts : Trees) → AllTyped ts → count_trees ts ≤ length (payloads ts)
  payloads_long no_trees typed = omega arith
  payloads_long (tree_then t ts) typed = omega (
    arith,
    payload_long t typed.0,
    payloads_long ts typed.1,
    length-append (payload t) (payloads ts),
  )

pub list_few : (k : Kind) (ts : Trees) → IsTyped (list_tree k ts) → length (payload (list_tree k ts)) ≤ 65536
    → count_trees ts < 2 ^ 32
list_few k ts typed short = omega (
  arith,
  payloads_long ts typed.1.1,
  length-append (to_le_bytes w32 (count_trees ts)) (payloads ts),
)

pub items_few : (item : Rc ValueType Global) (v : Vec Node Global) → IsTyped (tree_of (nodes.List item v))
    → length (payload (tree_of (nodes.List item v))) ≤ 65536 → vec_len v < 2 ^ 32
items_few item v typed short = rw (← counted v) (list_few (kind_of item.value) (trees_view v.items)
    (rw (tree_of-List item v) at typed) (rw (tree_of-List item v) at short))

code_long : (k : Kind) → 1 ≤ length (type_code k)
code_long bool_kind = omega arith
code_long (unsigned_kind s) = omega arith
code_long (signed_kind s) = omega arith
code_long text_kind = omega arith
code_long bytes_kind = omega arith
code_long (list_kind k) = omega arith
code_long (fields_kind ks) = omega arith

-- an encoding has at least a byte of code and a byte of payload
pub encoding_long : (t : Tree) → IsValue t → 2 ≤ length (encoding t)
encoding_long t v = omega (
  arith,
  code_long (type_of t),
  payload_long t v.typed,
  length-append (type_code (type_of t)) (payload t),
)
