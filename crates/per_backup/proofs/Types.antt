-- Types of values: the test whether two are the same, and that the type of a value has a text.
use Rattle.std.proofs.Common.{◌≡◌, ℕ, suc, ◌≤◌, Bool, true, false, ◌&&◌, nat_le, Option, Some, None, cond, refl, sym}
use Rattle.std.proofs.Common.{ap, ◌∙◌, subst, true≢false}
use Rattle.std.specs.Prelude.{IsTrue, ◌↔◌}
use Rattle.std.proofs.lemmas.Bool.{and_from, and_parts, cond-false, cond-true, le-leb}
use Rattle.per_base.specs.declared.errors.PerError.{PerError}
use Rattle.value_model.specs.Kinds.{Size, one, two, four, eight, Kind, bool_kind, unsigned_kind, signed_kind, text_kind}
use Rattle.value_model.specs.Kinds.{bytes_kind, list_kind, fields_kind, Kinds, no_kinds, kind_then, count_kinds}
use Rattle.value_model.specs.Kinds.{is_group, kind_fits, kinds_fit, same_kind, same_kinds, same_size}
use Rattle.value_model.specs.Trees.{Tree, bool_tree, unsigned_tree, signed_tree, text_tree, bytes_tree, list_tree}
use Rattle.value_model.specs.Trees.{fields_tree, Trees, no_trees, tree_then, count_trees, type_of, types_of}
use Rattle.value_model.specs.Validity.{IsTyped, AllTyped}
use Rattle.value_text.specs.Texts.{mismatch}
use Rattle.per_backup.specs.Backups.{differing}

-- ---- the same type

size_is : (s r : Size) → same_size s r ≡ true → s ≡ r
size_is one one e = refl
size_is two two e = refl
size_is four four e = refl
size_is eight eight e = refl
size_is _ _ e = absurd cc

size_self : (s : Size) → same_size s s ≡ true
size_self one = refl
size_self two = refl
size_self four = refl
size_self eight = refl

mutual
  kind_is : (j k : Kind) → same_kind j k ≡ true → j ≡ k
  kind_is bool_kind bool_kind e = refl
  kind_is (unsigned_kind s) (unsigned_kind r) e = ap unsigned_kind (size_is s r e)
  kind_is (signed_kind s) (signed_kind r) e = ap signed_kind (size_is s r e)
  kind_is text_kind text_kind e = refl
  kind_is bytes_kind bytes_kind e = refl
  kind_is (list_kind j) (list_kind k) e = ap list_kind (kind_is j k e)
  kind_is (fields_kind js) (fields_kind ks) e = ap fields_kind (kinds_are js ks e)
  kind_is _ _ e = absurd cc

  kinds_are : (js ks : Kinds) → same_kinds js ks ≡ true → js ≡ ks
  kinds_are no_kinds no_kinds e = refl
  kinds_are (kind_then j js) (kind_then k ks) e =
      let parts = and_parts (same_kind j k) (same_kinds js ks) e in
      ap (λ (x : Kind). kind_then x js) (kind_is j k parts.0) ∙ ap (kind_then k) (kinds_are js ks parts.1)
  kinds_are _ _ e = absurd cc

mutual
  kind_self : (k : Kind) → same_kind k k ≡ true
  kind_self bool_kind = refl
  kind_self (unsigned_kind s) = size_self s
  kind_self (signed_kind s) = size_self s
  kind_self text_kind = refl
  kind_self bytes_kind = refl
  kind_self (list_kind k) = kind_self k
  kind_self (fields_kind ks) = kinds_self ks

  kinds_self : (ks : Kinds) → same_kinds ks ks ≡ true
  kinds_self no_kinds = refl
  kinds_self (kind_then k ks) = and_from (same_kind k k) (same_kinds ks ks) (kind_self k) (kinds_self ks)

-- what a test answers of two types, by what it says
pub same_so : (answer : Bool) (j k : Kind) → (IsTrue answer ↔ (j ≡ k)) → answer ≡ true
    → differing (Some j) (Some k) ≡ None
same_so answer j k both is = cond-true (same_kind j k) None (Some (mismatch j k))
    (ap (λ (x : Kind). same_kind x k) (both.0 is) ∙ kind_self k)

pub differ_so : (answer : Bool) (j k : Kind) → (IsTrue answer ↔ (j ≡ k)) → answer ≡ false
    → differing (Some j) (Some k) ≡ Some (mismatch j k)
differ_so answer j k both is = cond-false (same_kind j k) None (Some (mismatch j k)) (by (same_kind j k) refl)
  where
    by : (b : Bool) → same_kind j k ≡ b → b ≡ false
    by false at = refl
    by true at = absurd (true≢false (sym (both.1 (kind_is j k at)) ∙ is))

-- ---- the type of a value

count_types : (ts : Trees) → count_kinds (types_of ts) ≡ count_trees ts
count_types no_trees = refl
count_types (tree_then t ts) = ap suc (count_types ts)

group_fits : (ts : Trees) → 1 ≤ count_trees ts → count_trees ts ≤ 32 → is_group (count_kinds (types_of ts)) ≡ true
group_fits ts least most = rw (count_types ts) (and_from (nat_le 1 (count_trees ts)) (nat_le (count_trees ts) 32)
    (le-leb _ _ least) (le-leb _ _ most))

mutual
  pub typed_fits : (t : Tree) → IsTyped t → IsTrue (kind_fits (type_of t))
  typed_fits (bool_tree b) typed = refl
  typed_fits (unsigned_tree s n) typed = refl
  typed_fits (signed_tree s z) typed = refl
  typed_fits (text_tree t) typed = refl
  typed_fits (bytes_tree b) typed = refl
  typed_fits (list_tree k ts) typed = typed.0
  typed_fits (fields_tree ts) typed = and_from (is_group (count_kinds (types_of ts))) (kinds_fit (types_of ts))
      (group_fits ts typed.0 typed.1.0) (all_fit ts typed.1.1)

  all_fit : (ts : Trees) → AllTyped ts → IsTrue (kinds_fit (types_of ts))
  all_fit no_trees typed = refl
  all_fit (tree_then t ts) typed = and_from (kind_fits (type_of t)) (kinds_fit (types_of ts)) (typed_fits t typed.0)
      (all_fit ts typed.1)
