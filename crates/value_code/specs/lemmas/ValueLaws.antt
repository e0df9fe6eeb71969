-- Whole encodings: the bytes say which value they encode, and each value has one encoding.
use Rattle.std.proofs.Common.{◌≡◌, ◌≢◌, ℕ, ◌≤◌, ◌<◌, true, false, ltb, List, [], ◌++◌, length, Some, None, Result, Ok}
use Rattle.std.proofs.Common.{Err, refl, sym, ap, subst, ◌∙◌, arith, length-append}
use Rattle.std.specs.Prelude.{IfOk, IsTrue, nat_eq, nat_le}
use Rattle.std.proofs.lemmas.Bool.{eqb-true, ltb-false, le-ltb, le-leb, and_from}
use Rattle.std.proofs.lemmas.List.{append-nil, nil_from_length}
use Rattle.per_base.specs.Fields.{◌>>=◌, AreBytes}
use Rattle.value_model.specs.declared.errors.DecodeError.{DecodeError}
use Rattle.value_model.specs.declared.errors.DecodeError.TheVariants.{NotAValue}
use Rattle.value_model.specs.declared.errors.ValueError.{ValueError}
use Rattle.value_model.specs.declared.errors.ValueError.TheVariants.{IllTyped, TooDeep, TooLong, OutOfMemory}
use Rattle.value_model.specs.Kinds.{Kind, is_group, kind_fits, kinds_fit, count_kinds, kind_depth, type_code}
use Rattle.value_model.specs.Trees.{Tree, bool_tree, unsigned_tree, signed_tree, text_tree, bytes_tree, list_tree}
use Rattle.value_model.specs.Trees.{fields_tree, Trees, no_trees, tree_then, count_trees, type_of, types_of}
use Rattle.value_model.specs.Encoding.{payload, encoding}
use Rattle.value_model.specs.Validity.{IsTyped, AllTyped, IsValue}
use Rattle.value_model.specs.lemmas.Members.{count_types}
use Rattle.value_model.specs.Decoding.{Gives}
use Rattle.value_code.specs.Reading.{kind_at, tree_at, if_whole, decoded}
use Rattle.value_code.specs.lemmas.Starts.{bind_some, some_is, let_pass, not_stopped, Takes-then}
use Rattle.value_code.specs.lemmas.KindLaws.{kind_takes, kind_again}
use Rattle.value_code.specs.lemmas.TreeLaws.{tree_takes, tree_again}

group_fits : (ts : Trees) → 1 ≤ count_trees ts → count_trees ts ≤ 32 → is_group (count_kinds (types_of ts)) ≡ true
group_fits ts least most = rw (count_types ts) (and_from (nat_le 1 (count_trees ts)) (nat_le (count_trees ts) 32)
    (le-leb _ _ least) (le-leb _ _ most))

-- the type of a well typed tree keeps the rule for groups
mutual
  pub typed_fits : (t : Tree) → IsTyped t → IsTrue (kind_fits (type_of t))
  typed_fits (bool_tree b) typed = refl
  typed_fits (unsigned_tree s n) typed = refl
  typed_fits (signed_tree s z) typed = refl
  typed_fits (text_tree t) typed = refl
  typed_fits (bytes_tree b) typed = refl
  typed_fits (list_tree k ts) typed = typed.0
  typed_fits (fields_tree ts) typed = and_from (is_group (count_kinds (types_of ts))) (kinds_fit (types_of ts))
      (group_fits ts typed.0 typed.1.0) (all_fit ts typed.1.1)

  all_fit : (ts : Trees) → AllTyped ts → IsTrue (kinds_fit (types_of ts))
  all_fit no_trees typed = refl
  all_fit (tree_then t ts) typed = and_from (kind_fits (type_of t)) (kinds_fit (types_of ts)) (typed_fits t typed.0)
      (all_fit ts typed.1)

decoded_reads : (bytes : List ℕ) (t : Tree) → decoded bytes ≡ Some t
    → (length bytes ≤ 65536) × ((kind_at 8 bytes >>= λ k. tree_at k.0 k.1 >>= if_whole) ≡ Some t)
unfolding decoded
decoded_reads bytes t e =
    let g = not_stopped (ltb 65536 (length bytes)) (kind_at 8 bytes >>= λ k. tree_at k.0 k.1 >>= if_whole) t e in
    (ltb-false _ _ g.0, g.1)

-- what the bytes say is a value that they encode
pub decoded_takes : (bytes : List ℕ) (t : Tree) → AreBytes bytes → decoded bytes ≡ Some t
    → IsValue t × (bytes ≡ encoding t)
decoded_takes bytes t small e =
    let g = decoded_reads bytes t e in
    let a = bind_some (kind_at 8 bytes) (λ k. tree_at k.0 k.1 >>= if_whole) t g.1 in
    let b = bind_some (tree_at a.0.0 a.0.1) if_whole t a.2 in
    let whole = let_pass (nat_eq (length b.0.1) 0) (Some b.0.0) t b.2 in
    let kind = kind_takes 8 bytes a.0 small a.1 in
    let tree = tree_takes a.0.0 kind.fits a.0.1 b.0 kind.takes.rest_bytes b.1 in
    let nothing : b.0.1 ≡ [] = nil_from_length b.0.1 (eqb-true _ _ whole.0) in
    let both = (Takes-then bytes (type_code a.0.0) a.0.1 (payload b.0.0) b.0.1 kind.takes tree.takes).parts in
    let spelled : bytes ≡ encoding b.0.0 = both ∙ (ap (λ (r : List ℕ). (type_code a.0.0 ++ payload b.0.0) ++ r) nothing
    ∙ (append-nil (type_code a.0.0 ++ payload b.0.0) ∙ ap (λ (k : Kind). type_code k ++ payload b.0.0)
    (sym tree.of_type))) in
    let value : IsValue b.0.0 = record {
      typed = tree.typed;
      in_range = tree.in_range;
      shallow = rw tree.of_type kind.shallow;
      short = rw (← spelled) g.0;
    } in
    subst (λ (u : Tree). IsValue u × (bytes ≡ encoding u)) (some_is b.0.0 t whole.1) (value, spelled)

-- what is encoded is read again
pub decoded_again : (t : Tree) → IsValue t → decoded (encoding t) ≡ Some t
unfolding decoded
decoded_again t v =
    let short : length (payload t) ≤ 65536 = omega (arith, length-append (type_code (type_of t)) (payload t), v.short)
    in
    let kind = kind_again 8 (type_of t) (typed_fits t v.typed) v.shallow (payload t) in
    let tree : tree_at (type_of t) (payload t) ≡ Some (t, []) =
    ap (tree_at (type_of t)) (sym (append-nil (payload t))) ∙ tree_again t v.typed v.in_range short [] in
    let fits : ltb 65536 (length (encoding t)) ≡ false = le-ltb _ _ v.short in
    rw (fits, kind, tree) refl

-- ---- what follows of all values

pub one_tree : (t u : Tree) → IsValue t → IsValue u → encoding t ≡ encoding u → t ≡ u
one_tree t u v w e = some_is t u (sym (decoded_again t v) ∙ (ap decoded e ∙ decoded_again u w))

-- codes of types are told apart by what stands at the start
pub one_kind : (k j : Kind) → IsTrue (kind_fits k) → IsTrue (kind_fits j) → kind_depth k ≤ 8 → kind_depth j ≤ 8
    → (xs ys : List ℕ) → type_code k ++ xs ≡ type_code j ++ ys → (k ≡ j) × (xs ≡ ys)
one_kind k j fits fits' shallow shallow' xs ys e =
    let same = some_is (k, xs) (j, ys) (sym (kind_again 8 k fits shallow xs)
    ∙ (ap (kind_at 8) e ∙ kind_again 8 j fits' shallow' ys)) in
    (ap (λ (p : Kind × List ℕ). p.0) same, ap (λ (p : Kind × List ℕ). p.1) same)

pub one_type : (t u : Tree) → IsValue t → IsValue u → (xs ys : List ℕ)
    → type_code (type_of t) ++ xs ≡ type_code (type_of u) ++ ys → type_of t ≡ type_of u
one_type t u v w xs ys e = (one_kind (type_of t) (type_of u) (typed_fits t v.typed) (typed_fits u w.typed) v.shallow
    w.shallow xs ys e).0

-- ---- what the answers of `decode` say

pub is_found : (bytes : List ℕ) (r : Result Tree DecodeError) → AreBytes bytes → Gives (λ v. v) r (decoded bytes)
    → IfOk r (λ v. IsValue v × (bytes ≡ encoding v))
is_found bytes (Ok v) small given = decoded_takes bytes v small given
is_found bytes (Err e) small given = tt

pub is_only : (bytes : List ℕ) (r : Result Tree DecodeError) → Gives (λ v. v) r (decoded bytes) → r ≡ Err NotAValue
    → (t : Tree) → IsValue t → bytes ≢ encoding t
is_only bytes r given e t v same =
    let none : decoded bytes ≡ None = subst (λ (q : Result Tree DecodeError). Gives (λ w. w) q (decoded bytes)) e given
    in
    let found : decoded bytes ≡ Some t = ap decoded same ∙ decoded_again t v in
    absurd cc

abbrev refusal : ValueError → Result Tree ValueError
refusal e = Err e

-- a value is never refused
pub never_refused : (e : ValueError) (t : Tree) → IsValue t → (refusal e ≡ refusal IllTyped → ¬ IsTyped t)
    → (refusal e ≡ refusal TooDeep → IsTyped t × (8 < kind_depth (type_of t)))
    → (refusal e ≡ refusal TooLong → IsTyped t × ((kind_depth (type_of t) ≤ 8) × (65536 < length (encoding t))))
    → refusal e ≢ refusal OutOfMemory → ⊥
never_refused IllTyped t v ill deep long memory = ill refl v.typed
never_refused TooDeep t v ill deep long memory = omega (arith, (deep refl).1, v.shallow)
never_refused TooLong t v ill deep long memory = omega (arith, (long refl).1.1, v.short)
never_refused OutOfMemory t v ill deep long memory = memory refl
