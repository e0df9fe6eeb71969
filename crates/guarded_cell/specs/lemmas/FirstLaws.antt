-- Laws of first copies: at one generation held texts stand in the order of their first copies, and each has a copy.
use Rattle.std.proofs.Common.{◌≡◌, ℕ, zero, suc, ◌+◌, ◌%◌, ◌<◌, ◌≤◌, List, [], ◌∷◌, ◌++◌, length, get_or, cond, eqb}
use Rattle.std.proofs.Common.{Option, Some, None, All, find, refl, sym, ap, ◌∙◌, subst, ⊎_elim, length-append, arith}
use Rattle.std.proofs.lemmas.Bool.{cases_Bool, cond-true, cond-false, eqb-true, le-leb}
use Rattle.hash_guard.specs.SealedText.{verified}
use Rattle.disk_model.specs.Image.{Image}
use Rattle.disk_model.specs.Place.{slot}
use Rattle.disk_model.specs.declared.place.Place.{Place}
use Rattle.guarded_cell.specs.declared.looking.Seen.{Seen}
use Rattle.guarded_cell.specs.Held.{Text, of_parity, text_held, is_seen, with_copy, with_slot, holds, copies_that}
use Rattle.guarded_cell.specs.Held.{held_in_first, held}
use Rattle.guarded_cell.specs.Held.{standing}
use Rattle.guarded_cell.specs.lemmas.SeenLaws.{IsAhead, IsInOrder, text_of, alike, never_both, first_seen, seen_more}
use Rattle.guarded_cell.specs.lemmas.SeenLaws.{placed}
use Rattle.guarded_cell.specs.lemmas.SeenLaws.{with_slot_in_order, copies_in, has, skips, enough, later, here}
use Rattle.guarded_cell.specs.lemmas.HeldLaws.{held_in_order, copies_of, holds_is, is_holds, by_holding}
use Rattle.guarded_cell.specs.lemmas.HeldLaws.{standing_copies}
use Rattle.guarded_cell.specs.lemmas.CopyLaws.{first_passing}
use Rattle.guarded_cell.specs.Register.{Holds, IsHeldBy}

-- the first of a text's copies
abbrev pub first_of : Seen → ℕ
first_of seen = get_or seen.copies 0 0

-- texts of this one's generation in the list have later first copies
abbrev pub HasEarlierCopy : Seen → List Seen → Type 0
HasEarlierCopy s [] = Unit {0}
HasEarlierCopy s (x ∷ xs) = (x.generation ≡ s.generation → first_of s < first_of x) × HasEarlierCopy s xs

-- each text has copies, at one generation in order, and none begins beyond the bound of its parity
abbrev pub IsByFirst : (bound : ℕ → ℕ) → List Seen → Type 0
IsByFirst bound [] = Unit {0}
IsByFirst bound (x ∷ xs) = (1 ≤ length x.copies) × (first_of x < bound (x.generation % 2)) × HasEarlierCopy x xs
    × IsByFirst bound xs

first_push : (cs : List ℕ) (c : ℕ) → 1 ≤ length cs → get_or (cs ++ c ∷ []) 0 0 ≡ get_or cs 0 0
first_push [] c some = absurd (omega (arith, some))
first_push (x ∷ xs) c some = refl

looser : (b c : ℕ → ℕ) (xs : List Seen) → ((p : ℕ) → b p ≤ c p) → IsByFirst b xs → IsByFirst c xs
looser b c [] le by = tt
looser b c (x ∷ xs) le by =
    let low = le (x.generation % 2) in let is = by.1 in (by.0, omega (arith, low, is), by.2, looser b c xs le by.3)

more_earlier : (copy : ℕ) (s : Seen) (xs : List Seen) → 1 ≤ length s.copies → HasEarlierCopy s xs
    → HasEarlierCopy (seen_more copy s) xs
more_earlier copy s [] some is = tt
more_earlier copy s (x ∷ xs) some is =
    let same = first_push s.copies copy some in
    ((λ e. let lt = is.0 e in omega (arith, lt, same)), more_earlier copy s xs some is.1)

greater_earlier : (copy : ℕ) (t u : Text) (xs : List Seen) → u.0 < t.0 → IsAhead u xs
    → HasEarlierCopy (first_seen copy t) xs
greater_earlier copy t u [] less ahead = tt
greater_earlier copy t u (x ∷ xs) less ahead =
    ((λ e. let le = ahead.0 in absurd (omega (arith, e, le, less))), greater_earlier copy t u xs less ahead.2)

still_earlier : (bound : ℕ → ℕ) (copy : ℕ) (t : Text) (s : Seen) (xs : List Seen)
    → (t.0 ≡ s.generation → first_of s < copy)
    → IsByFirst bound xs → HasEarlierCopy s xs → HasEarlierCopy s (with_copy copy t xs)
still_earlier bound copy t s [] later by is = (later, tt)
still_earlier bound copy t s (x ∷ xs) later by is = placed copy t x xs (HasEarlierCopy s)
    (λ e. let same = first_push x.copies copy by.0 in ((λ one. let lt = is.0 one in omega (arith, lt, same)), is.1))
    (λ e less. (later, is))
    (λ e more. (is.0, still_earlier bound copy t s xs later by.3 is.1))

-- one copy more, which comes after every first copy of its parity
module _ (b c : ℕ → ℕ) (copy : ℕ) (le : (p : ℕ) → b p ≤ c p) where
  copy_by_first : (t : Text) (xs : List Seen) → b (t.0 % 2) ≤ copy → copy < c (t.0 % 2) → IsInOrder xs
      → IsByFirst b xs → IsByFirst c (with_copy copy t xs)
  copy_by_first t [] old new order by = (omega arith, new, tt, tt)
  copy_by_first t (x ∷ xs) old new order by = placed copy t x xs (IsByFirst c)
      (λ e.
      let same = first_push x.copies copy by.0 in
      let long = length-append x.copies (copy ∷ []) in
      let low = le (x.generation % 2) in
      let is = by.1 in
      let some : 1 ≤ length (x.copies ++ copy ∷ []) = long_enough (length x.copies) (length (x.copies ++ copy ∷ []))
      long in
      (some, omega (arith, same, low, is), more_earlier copy x xs by.0 by.2, looser b c xs le by.3))
      (λ e less. (
        omega arith,
        new,
        ((λ one. absurd (omega (arith, one, less))), greater_earlier copy t (text_of x) xs less order.0),
        looser b c (x ∷ xs) le by,
      ))
      (λ e more.
      let low = le (x.generation % 2) in
      let is = by.1 in (
        by.0,
        omega (arith, low, is),
        still_earlier b copy t x xs (λ one.
            let within : first_of x < b (t.0 % 2) = subst (λ (g : ℕ). first_of x < b (g % 2)) (sym one) is in
            omega (arith, within, old)) by.3 by.2,
        copy_by_first t xs old new order.1 by.3,
      ))
    where
      long_enough : (n k : ℕ) → k ≡ n + 1 → 1 ≤ k
      long_enough n k e = omega (arith, e)

  slot_by_first : (parity : ℕ) (o : Option Text) (xs : List Seen) → b parity ≤ copy → copy < c parity → IsInOrder xs
      → IsByFirst b xs → IsByFirst c (with_slot copy (of_parity parity o) xs)
  slot_by_first parity None xs old new order by = looser b c xs le by
  slot_by_first parity (Some t) xs old new order by = ⊎_elim
      (λ same.
      let is : t.0 % 2 ≡ parity = eqb-true (t.0 % 2) parity same in
      subst (λ (o : Option Text). IsByFirst c (with_slot copy o xs))
      (sym (cond-true (eqb (t.0 % 2) parity) (Some t) None same))
      (copy_by_first t xs (subst (λ (p : ℕ). b p ≤ copy) (sym is) old) (subst (λ (p : ℕ). copy < c p) (sym is) new)
      order by))
      (λ differs.
      subst (λ (o : Option Text). IsByFirst c (with_slot copy o xs))
      (sym (cond-false (eqb (t.0 % 2) parity) (Some t) None differs))
      (looser b c xs le by))
      (cases_Bool (eqb (t.0 % 2) parity))

-- after the slot for even generations of copy n + 1
middle : ℕ → ℕ → ℕ
middle n p = cond (eqb p 0) (n + 2) (n + 1)

middle_low : (n p : ℕ) → n + 1 ≤ middle n p
unfolding middle
middle_low n p = ⊎_elim
    (λ e. subst (λ (k : ℕ). n + 1 ≤ k) (sym (cond-true (eqb p 0) (n + 2) (n + 1) e)) (omega arith))
    (λ e. subst (λ (k : ℕ). n + 1 ≤ k) (sym (cond-false (eqb p 0) (n + 2) (n + 1) e)) (omega arith))
    (cases_Bool (eqb p 0))

middle_high : (n p : ℕ) → middle n p ≤ n + 2
unfolding middle
middle_high n p = ⊎_elim
    (λ e. subst (λ (k : ℕ). k ≤ n + 2) (sym (cond-true (eqb p 0) (n + 2) (n + 1) e)) (omega arith))
    (λ e. subst (λ (k : ℕ). k ≤ n + 2) (sym (cond-false (eqb p 0) (n + 2) (n + 1) e)) (omega arith))
    (cases_Bool (eqb p 0))

middle_even : (n : ℕ) → middle n 0 ≡ n + 2
unfolding middle
middle_even n = refl

middle_odd : (n : ℕ) → middle n 1 ≡ n + 1
unfolding middle
middle_odd n = refl

held_by_first : (image : Image) (place : Place) (n : ℕ) → IsByFirst (λ p. n + 1) (held_in_first image place n)
unfolding held_in_first
held_by_first image place zero = tt
held_by_first image place (suc n) =
    let even = middle_even n in
    let odd = middle_odd n in
    let one : IsByFirst (middle n) (with_slot (n + 1) (text_held image place n 0) (held_in_first image place n)) =
    slot_by_first (λ p. n + 1) (middle n) (n + 1) (middle_low n) 0 (verified (image (slot place n 0)))
    (held_in_first image place n)
    (omega arith) (omega (arith, even)) (held_in_order image place n) (held_by_first image place n) in
    slot_by_first (middle n) (λ p. suc n + 1) (n + 1) (λ p. let le = middle_high n p in omega (arith, le)) 1
    (verified (image (slot place n 1))) (with_slot (n + 1) (text_held image place n 0) (held_in_first image place n))
    (omega (arith, odd)) (omega arith)
    (with_slot_in_order (n + 1) (text_held image place n 0) (held_in_first image place n) (held_in_order image place n))
    one

earlier_at : (s : Seen) (xs : List Seen) (k : ℕ) (d : Seen) → k < length xs → HasEarlierCopy s xs
    → (get_or xs k d).generation ≡ s.generation → first_of s < first_of (get_or xs k d)
earlier_at s [] k d lt is e = absurd (omega (arith, lt))
earlier_at s (x ∷ xs) zero d lt is e = is.0 e
earlier_at s (x ∷ xs) (suc k) d lt is e = earlier_at s xs k d (omega (arith, lt)) is.1 e

firsts : (bound : ℕ → ℕ) (xs : List Seen) (i j : ℕ) (d : Seen) → i < j → j < length xs → IsByFirst bound xs
    → (get_or xs j d).generation ≡ (get_or xs i d).generation → first_of (get_or xs i d) < first_of (get_or xs j d)
firsts bound [] i j d before lt by e = absurd (omega (arith, lt))
firsts bound (x ∷ xs) i zero d before lt by e = absurd (omega (arith, before))
firsts bound (x ∷ xs) zero (suc j) d before lt by e = earlier_at x xs j d (omega (arith, lt)) by.2 e
firsts bound (x ∷ xs) (suc i) (suc j) d before lt by e =
    firsts bound xs i j d (omega (arith, before)) (omega (arith, lt)) by.3 e

some_copies : (bound : ℕ → ℕ) (xs : List Seen) → IsByFirst bound xs → All (λ seen. 1 ≤ length seen.copies) xs
some_copies bound [] by k d lt = absurd (omega (arith, lt))
some_copies bound (x ∷ xs) by zero d lt = by.0
some_copies bound (x ∷ xs) by (suc k) d lt = some_copies bound xs by.3 k d (omega (arith, lt))

-- at one generation the first copy of the earlier member is lower
pub held_firsts : (image : Image) (place : Place) (i j : ℕ) (d : Seen) → i < j → j < length (held image place)
    → (get_or (held image place) j d).generation ≡ (get_or (held image place) i d).generation
    → first_of (get_or (held image place) i d) < first_of (get_or (held image place) j d)
held_firsts image place i j d before lt e =
    firsts (λ p. place.copies + 1) (held image place) i j d before lt (held_by_first image place place.copies) e

-- each member has a copy
pub held_some : (image : Image) (place : Place) → All (λ seen. 1 ≤ length seen.copies) (held image place)
held_some image place = some_copies (λ p. place.copies + 1) (held image place)
    (held_by_first image place place.copies)

-- ---- the text that stands

earlier_in : (u : Text) (s : Seen) (xs : List Seen) → HasEarlierCopy s xs → 1 ≤ length (copies_in u xs) → u.0
    ≡ s.generation
    → first_of s < get_or (copies_in u xs) 0 0
earlier_in u s [] is some e = absurd (omega (arith, some))
earlier_in u s (x ∷ xs) is some e = ⊎_elim
    (λ same. subst (λ (cs : List ℕ). first_of s < get_or cs 0 0) (sym (has u x xs same))
    (is.0 ((alike (text_of x) u same).0 ∙ e)))
    (λ differs. subst (λ (cs : List ℕ). first_of s < get_or cs 0 0) (sym (skips u x xs differs))
    (earlier_in u s xs is.1 (subst (λ (cs : List ℕ). 1 ≤ length cs) (skips u x xs differs) some) e))
    (cases_Bool (is_seen u x))

found_first : (bound : ℕ → ℕ) (m : ℕ) (xs : List Seen) (s : Seen) (u : Text) → IsByFirst bound xs → 1 ≤ m
    → find (enough m) xs ≡ Some s
    → m ≤ length (copies_in u xs) → u.0 ≡ s.generation → ¬ (u.1 ≡ s.text) → first_of s < get_or (copies_in u xs) 0 0
found_first bound m [] s u by positive e many = λ one differ. cc
found_first bound m (x ∷ xs) s u by positive e many = ⊎_elim
    (λ yes. subst (λ (y : Seen). u.0 ≡ y.generation → ¬ (u.1 ≡ y.text)
    → first_of y < get_or (copies_in u (x ∷ xs)) 0 0) (here m x xs s e yes)
    (λ one differ. ⊎_elim
    (λ same. absurd (differ (sym (alike (text_of x) u same).1)))
    (λ apart.
    let rest : m ≤ length (copies_in u xs) = subst (λ (cs : List ℕ). m ≤ length cs) (skips u x xs apart) many in
    subst (λ (cs : List ℕ). first_of x < get_or cs 0 0) (sym (skips u x xs apart))
    (earlier_in u x xs by.2 (omega (arith, rest, positive)) one))
    (cases_Bool (is_seen u x))))
    (λ few one differ. ⊎_elim
    (λ same.
    let le : m ≤ length x.copies = subst (λ (cs : List ℕ). m ≤ length cs) (has u x xs same) many in
    absurd (never_both (enough m x) (le-leb m (length x.copies) le) few))
    (λ apart.
    subst (λ (cs : List ℕ). first_of s < get_or cs 0 0) (sym (skips u x xs apart))
    (found_first bound m xs s u by.3 positive (later m x xs (Some s) e few)
    (subst (λ (cs : List ℕ). m ≤ length cs) (skips u x xs apart) many) one differ))
    (cases_Bool (is_seen u x)))
    (cases_Bool (enough m x))

-- of the texts of its generation that at least m copies hold, what stands is the one that is held first
pub standing_first : (image : Image) (place : Place) (m : ℕ) (seen : Seen) (text : List ℕ) → 1 ≤ m
    → standing image place m ≡ Some seen
    → IsHeldBy image place m seen.generation text → ¬ (text ≡ seen.text)
    → (copy : ℕ) × (copy < place.copies) × Holds image place copy seen.generation seen.text
    × ((a : ℕ) → a ≤ copy → ¬ (Holds image place a seen.generation text))
unfolding standing
standing_first image place m seen text positive e some differ =
    let u : Text = (seen.generation, text) in
    let it = standing_copies image place m seen e in
    let it_long : m ≤ length (copies_that (λ c. holds image place c (text_of seen)) place.copies) =
    subst (λ (cs : List ℕ). m ≤ length cs) it.0 it.1 in
    let u_long = by_holding image place m u some in
    let (c, lt, holding, at, none) = first_passing (λ c. holds image place c (text_of seen)) place.copies
    (omega (arith, it_long, positive)) in
    let (b, blt, b_holding, b_at, b_none) = first_passing (λ c. holds image place c u) place.copies
    (omega (arith, u_long, positive)) in
    let before : first_of seen < get_or (copies_in u (held image place)) 0 0 =
    found_first (λ p. place.copies + 1) m (held image place) seen u (held_by_first image place place.copies) positive e
    (subst (λ (cs : List ℕ). m ≤ length cs) (sym (copies_of image place place.copies u)) u_long) refl differ in
    let its_first : first_of seen ≡ c + 1 = ap (λ (cs : List ℕ). get_or cs 0 0) it.0 ∙ at in
    let u_first : get_or (copies_in u (held image place)) 0 0 ≡ b + 1 =
    ap (λ (cs : List ℕ). get_or cs 0 0) (copies_of image place place.copies u) ∙ b_at in (
      c,
      lt,
      holds_is image place c (text_of seen) holding,
      λ a le v. never_both (holds image place a u) (is_holds image place a u v)
          (b_none a (omega (arith, le, before, its_first, u_first))),
    )
