-- How the first agreed text moves as a loop passes the copies.
use Rattle.std.proofs.Common.{◌≡◌, ℕ, suc, ◌+◌, ◌<◌, ◌≤◌, List, ◌∷◌, length, get_or, drop, Option, Some, None, Bor}
use Rattle.std.proofs.Common.{nat_le, false, refl, sym, ap, ◌∙◌, add-one, drop-cons, arith, inl, inr}
use Rattle.std.proofs.lemmas.Bool.{cond-true, cond-false, le-leb}
use Rattle.std.proofs.lemmas.Bool.Decides.{leb_tells}
use Rattle.m_of_n.specs.Vote.{holders, texts_of, first_agreed}

-- the copies from one on are that one and those after it
from_here : {X : Type 0} (xs : List X) (i : ℕ) (x : X) → i < length xs
    → drop i xs ≡ get_or xs i x ∷ drop (i + 1) xs
from_here xs i x lt = rw (drop-cons xs i x lt, add-one) refl

too_few : (m n : ℕ) → n < m → nat_le m n ≡ false
too_few m n lt = elim (leb_tells m n) [ inl p ↦ absurd (omega (arith, p.1)) | inr p ↦ p.0 ]

abbrev pub Copies : Type 0
Copies = List (Option (Bor (List ℕ)))

-- the first agreed text among the copies from place i on
abbrev pub agreed_from : ℕ → Copies → ℕ → Option (List ℕ)
agreed_from m copies i = first_agreed m (texts_of copies) (texts_of (drop i copies))

module _ (m : ℕ) (copies : Copies) (i : ℕ) (lt : i < length copies) where
  opened : (same : Option (Bor (List ℕ))) → get_or copies i None ≡ same
      → agreed_from m copies i ≡ first_agreed m (texts_of copies) (texts_of (same ∷ drop (i + 1) copies))
  opened same e = ap (λ rest. first_agreed m (texts_of copies) (texts_of rest)) (from_here copies i None lt
      ∙ ap (λ c. c ∷ drop (i + 1) copies) e)

  -- a text that enough copies are is the one
  pub agreed_here : (text : Bor (List ℕ)) → get_or copies i None ≡ Some text → m ≤ holders (texts_of copies) text.now
      → agreed_from m copies i ≡ Some text.now
  agreed_here text e enough = opened (Some text) e
      ∙ cond-true _ _ _ (le-leb m (holders (texts_of copies) text.now) enough)

  -- a text that too few copies are is passed
  pub agreed_later : (text : Bor (List ℕ)) → get_or copies i None ≡ Some text → holders (texts_of copies) text.now < m
      → agreed_from m copies i ≡ agreed_from m copies (i + 1)
  agreed_later text e few = opened (Some text) e
      ∙ cond-false _ _ _ (too_few m (holders (texts_of copies) text.now) few)

  -- a copy that is none is passed
  pub agreed_past : get_or copies i None ≡ None → agreed_from m copies i ≡ agreed_from m copies (i + 1)
  agreed_past e = opened None e
