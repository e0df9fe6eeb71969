-- Words at the start of a text.
use Rattle.std.proofs.Common.{◌≡◌, ℕ, Bool, true, false, cond, nat_eq, List, [], ◌∷◌, ◌++◌, length, take, drop, Option}
use Rattle.std.proofs.Common.{Some, None, MatchOption, inl, inr, refl, ap, sym, ◌∙◌, ◌+◌, Bor}
use Rattle.std.specs.Cmp.Lexicographic.{pointwise}
use Rattle.std.proofs.lemmas.Bool.{and_parts, and_cases, eqb-true}
use Rattle.value_text.specs.Readers.{Finds, literal_at}
use Rattle.value_text.specs.lemmas.Steps.{if_some}

literal_yes : (word bytes : List ℕ) → pointwise nat_eq (take (length word) bytes) word ≡ true
    → literal_at word bytes ≡ Some (drop (length word) bytes)
literal_yes [] bytes e = refl
literal_yes (w ∷ ws) [] e = absurd cc
literal_yes (w ∷ ws) (b ∷ bytes) e =
    let p = and_parts (nat_eq b w) (pointwise nat_eq (take (length ws) bytes) ws) e in
    rw p.0 (literal_yes ws bytes p.1)

literal_no : (word bytes : List ℕ) → pointwise nat_eq (take (length word) bytes) word ≡ false
    → literal_at word bytes ≡ None
literal_no [] bytes e = absurd cc
literal_no (w ∷ ws) [] e = refl
literal_no (w ∷ ws) (b ∷ bytes) e =
    elim (and_cases (nat_eq b w) (pointwise nat_eq (take (length ws) bytes) ws) e) [
      | inl p ↦ rw p refl
      | inr p ↦ otherwise (nat_eq b w) (literal_at ws bytes) (literal_no ws bytes p)
    ]
  where
    otherwise : {A : Type 0} (b : Bool) (o : Option A) → o ≡ None → cond b o None ≡ None
    otherwise true o e = e
    otherwise false o e = refl

-- what `strip_prefix` says
pub stripped : (word bytes : List ℕ) (r : Option (Bor (List ℕ)))
    → MatchOption r (pointwise nat_eq (take (length word) bytes) word ≡ false)
    (λ x. (pointwise nat_eq (take (length word) bytes) word ≡ true) × (x.now ≡ drop (length word) bytes)
    × (length x.now + length word ≡ length bytes)) → Finds (λ rest. rest.now) r (literal_at word bytes)
stripped word bytes None h = literal_no word bytes h
stripped word bytes (Some x) h = literal_yes word bytes h.0 ∙ ap (λ (t : List ℕ). Some t) (sym h.1)

-- what is read after a word follows it
pub literal_takes : (word bytes rest : List ℕ) → literal_at word bytes ≡ Some rest → bytes ≡ word ++ rest
literal_takes [] bytes rest e = cc
literal_takes (w ∷ ws) [] rest e = absurd cc
literal_takes (w ∷ ws) (b ∷ bytes) rest e =
    let p = if_some (nat_eq b w) (literal_at ws bytes) rest e in
    let same : b ≡ w = eqb-true b w p.0 in
    let others : bytes ≡ ws ++ rest = literal_takes ws bytes rest p.1 in
    cc
