-- The tests answer what the definitions of a value say.
use Rattle.std.proofs.Common.{◌≡◌, ◌<◌, true, false, ◌&&◌, nat_le, length, refl, ap, ◌∙◌}
use Rattle.std.proofs.lemmas.Bool.{and_parts, and_from, leb-true, le-leb, lt-leb, and_left, and_right}
use Rattle.std.proofs.lemmas.Bool.{false_from_ne_true}
use Rattle.value_model.specs.Kinds.{Size, one, two, four, eight, Kind, bool_kind, unsigned_kind, signed_kind, text_kind}
use Rattle.value_model.specs.Kinds.{bytes_kind, list_kind, fields_kind, Kinds, no_kinds, kind_then, kind_depth}
use Rattle.value_model.specs.Kinds.{kind_fits, same_kind, same_kinds, same_size}
use Rattle.value_model.specs.Trees.{Tree, bool_tree, unsigned_tree, signed_tree, text_tree, bytes_tree, list_tree}
use Rattle.value_model.specs.Trees.{fields_tree, Trees, no_trees, tree_then, count_trees, type_of}
use Rattle.value_model.specs.Encoding.{encoding}
use Rattle.value_model.specs.Validity.{AllOf, IsTyped, AllTyped, InRange, IsValue, max_depth, max_length}
use Rattle.value_text.specs.Limits.{have_kind, is_typed, are_typed, keeps_limits}

-- ---- from the tests

same_size-true : (s r : Size) → same_size s r ≡ true → s ≡ r
same_size-true one one e = refl
same_size-true two two e = refl
same_size-true four four e = refl
same_size-true eight eight e = refl
same_size-true _ _ e = absurd cc

mutual
  pub same_kind-true : (j k : Kind) → same_kind j k ≡ true → j ≡ k
  same_kind-true bool_kind bool_kind e = refl
  same_kind-true (unsigned_kind s) (unsigned_kind r) e = ap unsigned_kind (same_size-true s r e)
  same_kind-true (signed_kind s) (signed_kind r) e = ap signed_kind (same_size-true s r e)
  same_kind-true text_kind text_kind e = refl
  same_kind-true bytes_kind bytes_kind e = refl
  same_kind-true (list_kind j) (list_kind k) e = ap list_kind (same_kind-true j k e)
  same_kind-true (fields_kind js) (fields_kind ks) e = ap fields_kind (same_kinds-true js ks e)
  same_kind-true _ _ e = absurd cc

  same_kinds-true : (js ks : Kinds) → same_kinds js ks ≡ true → js ≡ ks
  same_kinds-true no_kinds no_kinds e = refl
  same_kinds-true (kind_then j js) (kind_then k ks) e =
      let parts = and_parts (same_kind j k) (same_kinds js ks) e in
      ap (λ (x : Kind). kind_then x js) (same_kind-true j k parts.0) ∙ ap (kind_then k) (same_kinds-true js ks parts.1)
  same_kinds-true _ _ e = absurd cc

have_kind-true : (k : Kind) (ts : Trees) → have_kind k ts ≡ true → AllOf k ts
have_kind-true k no_trees e = tt
have_kind-true k (tree_then t ts) e =
    let parts = and_parts (same_kind (type_of t) k) (have_kind k ts) e in
    (same_kind-true (type_of t) k parts.0, have_kind-true k ts parts.1)

mutual
  is_typed-true : (t : Tree) → is_typed t ≡ true → IsTyped t
  is_typed-true (bool_tree b) e = tt
  is_typed-true (unsigned_tree s n) e = tt
  is_typed-true (signed_tree s z) e = tt
  is_typed-true (text_tree t) e = tt
  is_typed-true (bytes_tree b) e = tt
  is_typed-true (list_tree k ts) e =
      let parts = and_parts (kind_fits k) (have_kind k ts && are_typed ts) e in
      let items = and_parts (have_kind k ts) (are_typed ts) parts.1 in
      (parts.0, (have_kind-true k ts items.0, are_typed-true ts items.1))
  is_typed-true (fields_tree ts) e =
      let parts = and_parts (nat_le 1 (count_trees ts)) (nat_le (count_trees ts) 32 && are_typed ts) e in
      let others = and_parts (nat_le (count_trees ts) 32) (are_typed ts) parts.1 in
      (leb-true _ _ parts.0, (leb-true _ _ others.0, are_typed-true ts others.1))

  are_typed-true : (ts : Trees) → are_typed ts ≡ true → AllTyped ts
  are_typed-true no_trees e = tt
  are_typed-true (tree_then t ts) e =
      let parts = and_parts (is_typed t) (are_typed ts) e in
      (is_typed-true t parts.0, are_typed-true ts parts.1)

-- a tree in range that passes the tests is a value
pub keeps_limits-true : (t : Tree) → InRange t → keeps_limits t ≡ true → IsValue t
unfolding keeps_limits
keeps_limits-true t fits e =
    let parts = and_parts (is_typed t) (nat_le (kind_depth (type_of t)) max_depth
    && nat_le (length (encoding t)) max_length) e in
    let limits = and_parts (nat_le (kind_depth (type_of t)) max_depth) (nat_le (length (encoding t)) max_length) parts.1
    in
    record {
      typed = is_typed-true t parts.0;
      in_range = fits;
      shallow = leb-true _ _ limits.0;
      short =
          leb-true _ _ limits.1;
    }

-- ---- from the definitions

same_size-self : (s : Size) → same_size s s ≡ true
same_size-self one = refl
same_size-self two = refl
same_size-self four = refl
same_size-self eight = refl

mutual
  pub same_kind-self : (k : Kind) → same_kind k k ≡ true
  same_kind-self bool_kind = refl
  same_kind-self (unsigned_kind s) = same_size-self s
  same_kind-self (signed_kind s) = same_size-self s
  same_kind-self text_kind = refl
  same_kind-self bytes_kind = refl
  same_kind-self (list_kind k) = same_kind-self k
  same_kind-self (fields_kind ks) = same_kinds-self ks

  same_kinds-self : (ks : Kinds) → same_kinds ks ks ≡ true
  same_kinds-self no_kinds = refl
  same_kinds-self (kind_then k ks) = and_from (same_kind k k) (same_kinds ks ks) (same_kind-self k) (same_kinds-self ks)

have_kind-from : (k : Kind) (ts : Trees) → AllOf k ts → have_kind k ts ≡ true
have_kind-from k no_trees each = refl
have_kind-from k (tree_then t ts) each = and_from (same_kind (type_of t) k) (have_kind k ts)
    (ap (λ (j : Kind). same_kind j k) each.0 ∙ same_kind-self k) (have_kind-from k ts each.1)

mutual
  is_typed-from : (t : Tree) → IsTyped t → is_typed t ≡ true
  is_typed-from (bool_tree b) typed = refl
  is_typed-from (unsigned_tree s n) typed = refl
  is_typed-from (signed_tree s z) typed = refl
  is_typed-from (text_tree t) typed = refl
  is_typed-from (bytes_tree b) typed = refl
  is_typed-from (list_tree k ts) typed = and_from (kind_fits k) (have_kind k ts && are_typed ts) typed.0
      (and_from (have_kind k ts) (are_typed ts) (have_kind-from k ts typed.1.0) (are_typed-from ts typed.1.1))
  is_typed-from (fields_tree ts) typed = and_from (nat_le 1 (count_trees ts))
      (nat_le (count_trees ts) 32 && are_typed ts) (le-leb _ _ typed.0)
      (and_from (nat_le (count_trees ts) 32) (are_typed ts) (le-leb _ _ typed.1.0) (are_typed-from ts typed.1.1))

  are_typed-from : (ts : Trees) → AllTyped ts → are_typed ts ≡ true
  are_typed-from no_trees typed = refl
  are_typed-from (tree_then t ts) typed = and_from (is_typed t) (are_typed ts) (is_typed-from t typed.0)
      (are_typed-from ts typed.1)

pub keeps_limits-from : (t : Tree) → IsValue t → keeps_limits t ≡ true
unfolding keeps_limits
keeps_limits-from t value = and_from _ _ (is_typed-from t value.typed)
    (and_from _ _ (le-leb _ _ value.shallow) (le-leb _ _ value.short))

-- ---- what is refused fails the tests

pub ill_typed : (t : Tree) → (IsTyped t → ⊥) → keeps_limits t ≡ false
unfolding keeps_limits
ill_typed t wrong = and_left _ _ (false_from_ne_true (is_typed t) (λ e. wrong (is_typed-true t e)))

pub too_deep : (t : Tree) → max_depth < kind_depth (type_of t) → keeps_limits t ≡ false
unfolding keeps_limits
too_deep t deep = and_right _ _ (and_left _ _ (lt-leb _ _ deep))

pub too_long : (t : Tree) → max_length < length (encoding t) → keeps_limits t ≡ false
unfolding keeps_limits
too_long t long = and_right _ _ (and_right _ _ (lt-leb _ _ long))
