-- The test for equal types is true exactly where they are equal.
use Rattle.std.proofs.Common.{◌≡◌, ℕ, List, Bool, true, false, refl, sym, ap, subst, ◌∙◌}
use Rattle.std.specs.Prelude.{◌&&◌, ◌↔◌, IsTrue}
use Rattle.value_model.specs.Kinds.{Size, one, two, four, eight, Kind, bool_kind, unsigned_kind, signed_kind, text_kind}
use Rattle.value_model.specs.Kinds.{bytes_kind, list_kind, fields_kind, Kinds, no_kinds, kind_then, same_size}
use Rattle.value_model.specs.Kinds.{same_kind, same_kinds}
use Rattle.migrate_fns.specs.Rules.{Rule, is_for, serves}
use Rattle.migrate_fns.specs.lemmas.Facts.{not_false, is_false, both_true, true_both}

size_is : (s t : Size) → same_size s t ≡ true → s ≡ t
size_is one one h = refl
size_is two two h = refl
size_is four four h = refl
size_is eight eight h = refl
size_is _ _ h = absurd (not_false h)

same_size-refl : (s : Size) → same_size s s ≡ true
same_size-refl one = refl
same_size-refl two = refl
same_size-refl four = refl
same_size-refl eight = refl

mutual
  pub kind_is : (k l : Kind) → same_kind k l ≡ true → k ≡ l
  kind_is bool_kind bool_kind h = refl
  kind_is (unsigned_kind s) (unsigned_kind t) h = ap (λ x. unsigned_kind x) (size_is s t h)
  kind_is (signed_kind s) (signed_kind t) h = ap (λ x. signed_kind x) (size_is s t h)
  kind_is text_kind text_kind h = refl
  kind_is bytes_kind bytes_kind h = refl
  kind_is (list_kind k) (list_kind l) h = ap (λ x. list_kind x) (kind_is k l h)
  kind_is (fields_kind ks) (fields_kind ls) h = ap (λ x. fields_kind x) (kinds_are ks ls h)
  kind_is _ _ h = absurd (not_false h)

  pub kinds_are : (ks ls : Kinds) → same_kinds ks ls ≡ true → ks ≡ ls
  kinds_are no_kinds no_kinds h = refl
  kinds_are (kind_then k ks) (kind_then l ls) h =
      let b = both_true (same_kind k l) (same_kinds ks ls) h in
      let e : k ≡ l = kind_is k l b.0 in
      let f : ks ≡ ls = kinds_are ks ls b.1 in
      ap (λ x. kind_then x ks) e ∙ ap (λ x. kind_then l x) f
  kinds_are _ _ h = absurd (not_false h)

mutual
  pub same_kind-refl : (k : Kind) → same_kind k k ≡ true
  same_kind-refl bool_kind = refl
  same_kind-refl (unsigned_kind s) = same_size-refl s
  same_kind-refl (signed_kind s) = same_size-refl s
  same_kind-refl text_kind = refl
  same_kind-refl bytes_kind = refl
  same_kind-refl (list_kind k) = same_kind-refl k
  same_kind-refl (fields_kind ks) = same_kinds-refl ks

  pub same_kinds-refl : (ks : Kinds) → same_kinds ks ks ≡ true
  same_kinds-refl no_kinds = refl
  same_kinds-refl (kind_then k ks) = true_both (same_kind k k) (same_kinds ks ks) (same_kind-refl k)
      (same_kinds-refl ks)

pub same_from_is : (k l : Kind) → k ≡ l → same_kind k l ≡ true
same_from_is k l e = subst (λ x. same_kind k x ≡ true) e (same_kind-refl k)

pub same_test : (b : Bool) (k l : Kind) → (IsTrue b ↔ (k ≡ l)) → b ≡ same_kind k l
same_test true k l h = sym (same_from_is k l (h.0 refl))
same_test false k l h = sym (is_false (same_kind k l) (λ e. not_false (h.1 (kind_is k l e))))

-- a converter that serves has the two types
pub serves_types : (element : List ℕ) (from to : Kind) (r : Rule) → serves element from to r ≡ true
    → (r.from ≡ from) × (r.to ≡ to)
serves_types element from to r h =
    let a = both_true (is_for r.element element) (same_kind r.from from && same_kind r.to to) h in
    let b = both_true (same_kind r.from from) (same_kind r.to to) a.1 in
    (kind_is r.from from b.0, kind_is r.to to b.1)
