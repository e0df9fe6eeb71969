-- Laws of the vote: its text is held by enough copies, and there is one wherever some text is.
use Rattle.std.proofs.Common.{◌≡◌, ◌⊎◌, ℕ, ◌+◌, ◌<◌, ◌≤◌, List, [], ◌∷◌, Option, Some, None, Bool, true, false, cond}
use Rattle.std.proofs.Common.{nat_le, refl, sym, ap, ◌∙◌, arith, inl, inr}
use Rattle.std.proofs.lemmas.Bool.{cond-true, cond-false, leb-true}
use Rattle.std.proofs.lemmas.Bool.Decides.{leb_tells}
use Rattle.std.proofs.lemmas.List.Sums.{sum_by-cons}
use Rattle.std.specs.List.{find, filter_map}
use Rattle.std.specs.Str.{bytes_eq}
use Rattle.std.proofs.lemmas.Slice.Eq.{bytes_eq-Decides}
use Rattle.m_of_n.specs.Vote.{holders, is_text, voted}

-- the text of each copy, None where it is missing or unreadable
abbrev pub Copies : Type 0
Copies = List (Option (List ℕ))

-- ---- the count of a text's copies

-- one copy more counts where it is the text
pub holders-cons : (copy : Option (List ℕ)) (copies : Copies) (text : List ℕ)
    → holders (copy ∷ copies) text ≡ cond {A = ℕ} (is_text text copy) 1 0 + holders copies text
holders-cons copy copies text = sum_by-cons (λ other. cond (is_text text other) 1 0) copy copies

-- ---- a search among the texts of the copies

abbrev texts : Copies → List (List ℕ)
texts copies = filter_map (λ copy. copy) copies

found_step : (test : List ℕ → Bool) (x : List ℕ) (xs : List (List ℕ)) (text : List ℕ) (b : Bool) → test x ≡ b
    → (find test xs ≡ Some text → test text ≡ true) → find test (x ∷ xs) ≡ Some text → test text ≡ true
found_step test x xs text true is rest e =
    let same : Some x ≡ Some text = sym (cond-true (test x) (Some x) (find test xs) is) ∙ e in
    let it : x ≡ text = cc in
    ap test (sym it) ∙ is
found_step test x xs text false is rest e = rest (sym (cond-false (test x) (Some x) (find test xs) is) ∙ e)

-- a text that is found passes
found-passes : (test : List ℕ → Bool) (xs : List (List ℕ)) (text : List ℕ) → find test xs ≡ Some text
    → test text ≡ true
found-passes test [] text e = cc
found-passes test (x ∷ xs) text e = found_step test x xs text (test x) refl (found-passes test xs text) e

missed_step : (test : List ℕ → Bool) (x : List ℕ) (xs : List (List ℕ)) (b : Bool) → test x ≡ b
    → find test (x ∷ xs) ≡ None → (test x ≡ false) × (find test xs ≡ None)
missed_step test x xs true is e =
    let found : Some x ≡ None = sym (cond-true (test x) (Some x) (find test xs) is) ∙ e in cc
missed_step test x xs false is e = (is, sym (cond-false (test x) (Some x) (find test xs) is) ∙ e)

held_step : (text x : List ℕ) (copies : Copies) (b : Bool) → bytes_eq x text ≡ b
    → 1 ≤ holders (Some x ∷ copies) text → (x ≡ text) ⊎ (1 ≤ holders copies text)
held_step text x copies true is held = inl ((bytes_eq-Decides x text).0 is)
held_step text x copies false is held =
    let counted : holders (Some x ∷ copies) text ≡ cond {A = ℕ} (bytes_eq x text) 1 0 + holders copies text =
    holders-cons (Some x) copies text in
    let none : cond {A = ℕ} (bytes_eq x text) 1 0 ≡ 0 = cond-false (bytes_eq x text) 1 0 is in
    inr (omega (arith, counted, none, held))

-- where nothing is found, no text that a copy holds passes
missed-fails : (test : List ℕ → Bool) (copies : Copies) (text : List ℕ) → find test (texts copies) ≡ None
    → 1 ≤ holders copies text → test text ≡ false
missed-fails test [] text e held = absurd (omega arith)
missed-fails test (None ∷ copies) text e held =
    missed-fails test copies text e (omega (arith, holders-cons None copies text))
missed-fails test (Some x ∷ copies) text e held =
    let missed = missed_step test x (texts copies) (test x) refl e in
    elim (held_step text x copies (bytes_eq x text) refl held) [
      | inl same ↦ ap test (sym same) ∙ missed.0
      | inr later ↦ missed-fails test copies text missed.1 later
    ]

-- ---- the laws

-- the text of the vote is held by at least m copies
pub voted-held : (m : ℕ) (copies : Copies) (text : List ℕ) → voted m copies ≡ Some text → m ≤ holders copies text
unfolding voted
voted-held m copies text e =
    leb-true m (holders copies text) (found-passes (λ other. nat_le m (holders copies other)) (texts copies) text e)

-- where there is none, fewer than m copies hold any text
pub voted-none : (m : ℕ) (copies : Copies) → 1 ≤ m → voted m copies ≡ None → (text : List ℕ)
    → holders copies text < m
unfolding voted
voted-none m copies positive e text = elim (leb_tells m (holders copies text)) [
  | inl enough ↦
      let fails : nat_le m (holders copies text) ≡ false =
      missed-fails (λ other. nat_le m (holders copies other)) copies text e (omega (arith, enough.1)) in
      let passes = enough.0 in cc
  | inr few ↦ few.1
]

-- where at least m copies hold a text there is a vote, though another text may come first
pub voted-some : (m : ℕ) (copies : Copies) (text : List ℕ) → 1 ≤ m → m ≤ holders copies text
    → (other : List ℕ) × (voted m copies ≡ Some other)
voted-some m copies text positive held = go (voted m copies) refl
  where
    go : (answer : Option (List ℕ)) → voted m copies ≡ answer → (other : List ℕ) × (voted m copies ≡ Some other)
    go None e = let few = voted-none m copies positive e text in absurd (omega arith)
    go (Some other) e = (other, e)

-- a text that at least m copies hold is the vote where it is the only such text
pub voted-only : (m : ℕ) (copies : Copies) (text : List ℕ) → 1 ≤ m → m ≤ holders copies text
    → ((other : List ℕ) → m ≤ holders copies other → other ≡ text) → voted m copies ≡ Some text
voted-only m copies text positive held only =
    let found = voted-some m copies text positive held in
    found.1 ∙ ap Some (only found.0 (voted-held m copies found.0 found.1))
