-- Comparing names.
use Rattle.std.proofs.Common.{◌≡◌, ℕ, Bool, true, false, List, refl, sym, ap, ◌∙◌}
use Rattle.std.specs.Ordering.{is_lt, is_eq, ordering_reverse}
use Rattle.std.specs.declared.cmp.Ordering.{Ordering}
use Rattle.std.specs.declared.cmp.Ordering.TheVariants.{Less, Equal, Greater}
use Rattle.std.specs.Str.{bytes_eq}
use Rattle.std.proofs.lemmas.Cmp.{nat_list_cmp_total}
use Rattle.std.proofs.lemmas.Map.Text.{is_eq-slice_cmp}
use Rattle.std.proofs.lemmas.Slice.Eq.{bytes_eq-Decides}
use Rattle.per_base.specs.Names.{name_cmp}

pub same_names : (a b : List ℕ) → bytes_eq a b ≡ true → a ≡ b
same_names a b e = (bytes_eq-Decides a b).0 e

pub eq_names : (a b : List ℕ) → a ≡ b → bytes_eq a b ≡ true
eq_names a b e = (bytes_eq-Decides a b).1 e

pub eq_itself : (a : List ℕ) → bytes_eq a a ≡ true
eq_itself a = eq_names a a refl

pub not_true : (b : Bool) → (b ≡ true → ⊥) → b ≡ false
not_true true h = absurd (h refl)
not_true false h = refl

pub false_true : (b : Bool) → b ≡ false → b ≡ true → ⊥
false_true true e f = cc
false_true false e f = cc

-- a test between two names, and the other way round
pub eq_back : (a b : List ℕ) → bytes_eq a b ≡ bytes_eq b a
eq_back a b = by (bytes_eq b a) refl
  where
    by : (r : Bool) → bytes_eq b a ≡ r → bytes_eq a b ≡ r
    by true e = eq_names a b (sym (same_names b a e))
    by false e = not_true (bytes_eq a b) (λ t. false_true (bytes_eq b a) e (eq_names b a (sym (same_names a b t))))

pub tied_names : (a b : List ℕ) → name_cmp a b ≡ Equal → bytes_eq a b ≡ true
tied_names a b e = sym (is_eq-slice_cmp a b) ∙ ap is_eq e

pub less_apart : (a b : List ℕ) → name_cmp a b ≡ Less → bytes_eq a b ≡ false
less_apart a b e = sym (is_eq-slice_cmp a b) ∙ ap is_eq e

pub greater_less : (a b : List ℕ) → name_cmp a b ≡ Greater → name_cmp b a ≡ Less
greater_less a b e = nat_list_cmp_total.antisymm b a ∙ ap ordering_reverse e

pub less_less : (a b c : List ℕ) → name_cmp a b ≡ Less → name_cmp b c ≡ Less → name_cmp a c ≡ Less
less_less a b c e f = nat_list_cmp_total.trans a b c e f

pub less_from : (o : Ordering) → is_lt o ≡ true → o ≡ Less
less_from Less e = refl
less_from Equal e = absurd cc
less_from Greater e = absurd cc

-- neither below nor equal is above
pub above_from : (a b : List ℕ) → is_lt (name_cmp a b) ≡ false → bytes_eq a b ≡ false → name_cmp b a ≡ Less
above_from a b not_less apart = nat_list_cmp_total.antisymm b a
    ∙ by (name_cmp a b) not_less (is_eq-slice_cmp a b ∙ apart)
  where
    by : (o : Ordering) → is_lt o ≡ false → is_eq o ≡ false → ordering_reverse o ≡ Less
    by Less e h = absurd cc
    by Equal e h = absurd cc
    by Greater e h = refl
