-- The search for a chain finds the shortest, then least, fitting list, and none only where no list fits.
use Rattle.std.proofs.Common.{◌≡◌, ℕ, zero, suc, ◌+◌, ◌-◌, ◌<◌, ◌≤◌, true, false, List, [], ◌∷◌, length, Option, Some}
use Rattle.std.proofs.Common.{None, refl, sym, ap, subst, ◌∙◌, arith, inl, inr}
use Rattle.std.specs.Prelude.{◌⊎◌, ◌&&◌, nat_le, slice_get, option_map}
use Rattle.std.proofs.lemmas.Bool.{eq-eqb, le-leb, leb-true, lt-ltb}
use Rattle.std.proofs.lemmas.Option.{slice_get_past}
use Rattle.value_model.specs.Kinds.{Kind, same_kind}
use Rattle.migrate_fns.specs.Chains.{usable, linked, fitting, list_less, IsShortestChain, or_later, with_link}
use Rattle.migrate_fns.specs.Chains.{first_link}
use Rattle.migrate_fns.specs.Chains.{if_same, links, shortest, chain_of}
use Rattle.migrate_fns.specs.Rules.{Rule}
use Rattle.migrate_fns.specs.lemmas.Facts.{not_false, is_false, both_true, true_both, not_none, some_is, split, compare}
use Rattle.migrate_fns.specs.lemmas.Facts.{less_not_equal, nil_of, cons_of}

module _ (rules : List Rule) (element : List ℕ) (to : Kind) where
  pub linked_cons : (i : ℕ) (is : List ℕ) (from : Kind) → linked rules element to (i ∷ is) from ≡ true
      → (r : Rule) × (slice_get rules i ≡ Some r) × (usable element from r ≡ true)
      × (linked rules element to is r.to ≡ true)
  linked_cons i is from h = elim (slice_get rules i) as
      (λ o. slice_get rules i ≡ o → elim o [
        | None ↦ false
        | Some r ↦
            usable element from r && linked rules element to is r.to
      ] ≡ true
      → (r : Rule) × (slice_get rules i ≡ Some r) × (usable element from r ≡ true)
      × (linked rules element to is r.to ≡ true)) [
        | None ↦ λ e k. absurd (not_false k)
        | Some r ↦ λ e k. let b = both_true (usable element from r) (linked rules element to is r.to) k in
            (r, e, b.0, b.1)
      ] refl h

  cons_linked : (i : ℕ) (is : List ℕ) (from : Kind) (r : Rule) → slice_get rules i ≡ Some r
      → usable element from r ≡ true → linked rules element to is r.to ≡ true
      → linked rules element to (i ∷ is) from ≡ true
  cons_linked i is from r e u h = subst (λ o. elim o [
    | None ↦ false
    | Some r ↦
        usable element from r && linked rules element to is r.to
  ] ≡ true) (sym e)
      (true_both (usable element from r) (linked rules element to is r.to) u h)

  -- ---- the first place from which the rest can be found

  module _ (from : Kind) (next : Kind → Option (List ℕ)) where
    abbrev pub Least : ℕ → Option (List ℕ) → Type 0
    Least i None = (l : ℕ) (q : Rule) → i ≤ l → slice_get rules l ≡ Some q → usable element from q ≡ true
        → next q.to ≡ None
    Least i (Some is) = (j : ℕ) × (r : Rule) × (rest : List ℕ) × (is ≡ j ∷ rest) × (i ≤ j)
        × (slice_get rules j ≡ Some r) × (usable element from r ≡ true) × (next r.to ≡ Some rest)
        × ((l : ℕ) (q : Rule) → i ≤ l → l < j → slice_get rules l ≡ Some q → usable element from q ≡ true
        → next q.to ≡ None)

    here_too : (i l : ℕ) (r q : Rule) → l ≡ i → slice_get rules i ≡ Some r
        → (usable element from r ≡ true → next r.to ≡ None) → slice_get rules l ≡ Some q → usable element from q ≡ true
        → next q.to ≡ None
    here_too i l r q same at none e u =
        let eq : r ≡ q = some_is r q (sym at ∙ ap (slice_get rules) (sym same) ∙ e) in
        subst (λ x. usable element from x ≡ true → next x.to ≡ None) eq none u

    extend : (i : ℕ) (r : Rule) → slice_get rules i ≡ Some r → (usable element from r ≡ true → next r.to ≡ None)
        → (o : Option (List ℕ)) → Least (suc i) o → Least i o
    extend i r at none None f = λ l q le e u. elim (split i l le)
        [ inl same ↦ here_too i l r q same at none e u | inr more ↦ f l q more e u ]
    extend i r at none (Some is) f = (
      f.0,
      f.1,
      f.2,
      f.3,
      omega (arith, f.4),
      f.5,
      f.6,
      f.7,
      (λ l q le lt e u. elim (split i l le) [
        | inl same ↦ here_too i l r q same at none e u
        | inr more ↦
            f.8 l q more lt e u
      ]),
    )

    pub first_least : (rs : List Rule) (i : ℕ) → ((k : ℕ) → slice_get rules (i + k) ≡ slice_get rs k)
        → Least i (first_link element from next i rs)
    first_least [] i inv = λ l q le e u.
        let there : i + (l - i) ≡ l = omega (arith, le) in
        let none = subst (λ x. slice_get rules x ≡ slice_get [] (l - i)) there (inv (l - i)) in
        absurd (not_none q (sym e ∙ none ∙ slice_get_past [] (l - i) (omega arith)))
    first_least (r ∷ rs) i inv =
        let zero_there : i + 0 ≡ i = omega arith in
        let at : slice_get rules i ≡ Some r = subst (λ x. slice_get rules x ≡ Some r) zero_there (inv 0) in
        let inv' = λ (k : ℕ). let e : i + suc k ≡ suc i + k =
        omega arith in subst (λ x. slice_get rules x ≡ slice_get rs k) e (inv (suc k)) in
        let later = first_least rs (suc i) inv' in
        let o = first_link element from next (suc i) rs in
        elim (usable element from r) as (λ b. usable element from r ≡ b
        → Least i (or_later (with_link b i next r.to) (λ u. first_link element from next (suc i) rs))) [
          | false ↦ λ no. extend i r at (λ yes. absurd (not_false (sym no ∙ yes)))
              (first_link element from next (suc i) rs) later
          | true ↦ λ yes. elim (next r.to) as (λ p. next r.to ≡ p
              → Least i (or_later (option_map (λ is. i ∷ is) p) (λ u. first_link element from next (suc i) rs))) [
                | None ↦ λ e. extend i r at (λ u. e) (first_link element from next (suc i) rs) later
                | Some rest ↦ λ e. (
                  i,
                  r,
                  rest,
                  refl,
                  omega arith,
                  at,
                  yes,
                  e,
                  (λ l q le lt a u. absurd (omega (arith, le, lt))),
                )
              ] refl
        ] refl

  -- ---- lists of exactly n places

  abbrev pub IsLeast : ℕ → Kind → Option (List ℕ) → Type 0
  IsLeast n from None = (js : List ℕ) → length js ≡ n → linked rules element to js from ≡ true → ⊥
  IsLeast n from (Some is) = (length is ≡ n) × (linked rules element to is from ≡ true)
      × ((js : List ℕ) → length js ≡ n → linked rules element to js from ≡ true → (js ≡ is) ⊎ (list_less is js ≡ true))

  none_there : (n : ℕ) (from : Kind) (l : ℕ) (rest : List ℕ) → ((f : Kind) → IsLeast n f (links rules element to n f))
      → length rest ≡ n → linked rules element to (l ∷ rest) from ≡ true
      → ((q : Rule) → slice_get rules l ≡ Some q → usable element from q ≡ true → links rules element to n q.to ≡ None)
      → ⊥
  none_there n from l rest ih len h none =
      let c = linked_cons l rest from h in
      let i = subst (λ o. IsLeast n c.0.to o) (none c.0 c.1 c.2) (ih c.0.to) in
      i rest len c.3

  step : (n : ℕ) (from : Kind) → ((f : Kind) → IsLeast n f (links rules element to n f)) → (o : Option (List ℕ))
      → Least from (links rules element to n) 0 o → IsLeast (suc n) from o
  step n from ih None least = λ js len h.
      let c = cons_of n js len in
      none_there n from c.0 c.1 ih c.3 (subst (λ x. linked rules element to x from ≡ true) c.2 h)
      (λ q e u. least c.0 q (omega arith) e u)
  step n from ih (Some is) least =
      let j = least.0 in
      let r = least.1 in
      let rest = least.2 in
      let i = subst (λ o. IsLeast n r.to o) least.7 (ih r.to) in
      subst (λ x. IsLeast (suc n) from (Some x)) (sym least.3) (
        ap suc i.0,
        cons_linked j rest from r least.5 least.6 i.1,
        (λ js len h.
            let c = cons_of n js len in
            let h' = subst (λ x. linked rules element to x from ≡ true) c.2 h in
            subst (λ x. (x ≡ j ∷ rest) ⊎ (list_less (j ∷ rest) x ≡ true)) (sym c.2) (elim (compare c.0 j) [
              | inl lt ↦ absurd (none_there n from c.0 c.1 ih c.3 h' (λ q e u. least.8 c.0 q (omega arith) lt e u))
              | inr more ↦ elim more [
                | inl same ↦
                    let k = linked_cons c.0 c.1 from h' in
                    let eq : k.0 ≡ r = some_is k.0 r (sym k.1 ∙ ap (slice_get rules) same ∙ least.5) in
                    let rest_linked = subst (λ x. linked rules element to c.1 x.to ≡ true) eq k.3 in
                    elim (i.2 c.1 c.3 rest_linked) [
                      | inl e ↦ inl (λ t. same t ∷ e t)
                      | inr less ↦ inr (subst (λ x. list_less (j ∷ rest) (x ∷ c.1) ≡ true) (sym same)
                          (rw (eq-eqb j j refl) less))
                    ]
                | inr gt ↦ inr (rw (less_not_equal j c.0 gt) (lt-ltb j c.0 gt))
              ]
            ])),
      )

  pub links_least : (n : ℕ) (from : Kind) → IsLeast n from (links rules element to n from)
  links_least zero from = elim (same_kind from to) as (λ b. same_kind from to ≡ b → IsLeast zero from (if_same b)) [
    | false ↦ λ no js len h. not_false (sym no ∙ subst (λ x. linked rules element to x from ≡ true) (nil_of js len) h)
    | true ↦ λ yes. (refl, yes, (λ js len h. inl (nil_of js len)))
  ] refl
  links_least (suc n) from = step n from (links_least n) (first_link element from (links rules element to n) 0 rules)
      (first_least from (links rules element to n) rules 0 (λ k. ap (slice_get rules) (omega arith)))

  -- ---- all lengths from 1 to 8

  module _ (from : Kind) where
    pub fitting_parts : (is : List ℕ) → fitting rules element from to is ≡ true
        → (1 ≤ length is) × (length is ≤ 8) × (linked rules element to is from ≡ true)
    fitting_parts is h =
        let a = both_true (nat_le 1 (length is)) (nat_le (length is) 8 && linked rules element to is from) h in
        let b = both_true (nat_le (length is) 8) (linked rules element to is from) a.1 in
        (leb-true 1 (length is) a.0, leb-true (length is) 8 b.0, b.1)

    parts_fit : (is : List ℕ) → 1 ≤ length is → length is ≤ 8 → linked rules element to is from ≡ true
        → fitting rules element from to is ≡ true
    parts_fit is some few h = true_both (nat_le 1 (length is)) (nat_le (length is) 8 && linked rules element to is from)
        (le-leb 1 (length is) some) (true_both (nat_le (length is) 8) (linked rules element to is from)
        (le-leb (length is) 8 few) h)

    shortest_found : (fuel n : ℕ) → 1 ≤ n → n + fuel ≡ 9
        → ((js : List ℕ) → 1 ≤ length js → length js < n → linked rules element to js from ≡ true → ⊥)
        → IsShortestChain rules element from to (shortest rules element from to fuel n)
    shortest_found zero n some sum none = λ is. is_false (fitting rules element from to is)
        (λ h. let p = fitting_parts is h in none is p.0 (omega (arith, p.1, sum)) p.2)
    shortest_found (suc fuel) n some sum none = elim (links rules element to n from) as
        (λ o. links rules element to n from ≡ o → IsShortestChain rules element from to
        (or_later o (λ u. shortest rules element from to fuel (suc n)))) [
          | None ↦ λ e.
              let at_n = subst (λ o. IsLeast n from o) e (links_least n from) in
              shortest_found fuel (suc n) (omega arith) (omega (arith, sum))
              (λ js one lt h. elim (compare (length js) n) [
                | inl less ↦ none js one less h
                | inr more ↦
                    elim more [ inl same ↦ at_n js same h | inr gt ↦ omega (arith, lt, gt) ]
              ])
          | Some is ↦ λ e.
              let at_n = subst (λ o. IsLeast n from o) e (links_least n from) in (
                parts_fit is (omega (arith, some, at_n.0)) (omega (arith, sum, at_n.0)) at_n.1,
                (λ js h.
                    let p = fitting_parts js h in
                    elim (compare (length js) n) [
                      | inl less ↦ absurd (none js p.0 less p.2)
                      | inr more ↦ elim more [
                        | inl same ↦ elim (at_n.2 js same p.2) [
                          | inl eq ↦ inl eq
                          | inr lt ↦
                              inr (rw (eq-eqb (length is) (length js) (at_n.0 ∙ sym same)) lt)
                        ]
                        | inr gt ↦
                            let shorter : length is < length js = omega (arith, at_n.0, gt) in
                            inr (rw (less_not_equal (length is) (length js) shorter)
                            (lt-ltb (length is) (length js) shorter))
                      ]
                    ]),
              )
        ] refl

pub chain_is_found : (rules : List Rule) (element : List ℕ) (from to : Kind)
    → IsShortestChain rules element from to (chain_of rules element from to)
unfolding chain_of
chain_is_found rules element from to = shortest_found rules element to from 8 1 (omega arith) (omega arith)
    (λ js one lt h. omega (arith, one, lt))
