-- Laws of texts that were seen, in a list: their order, the copies with which each stands, and the first with enough of
-- them.
use Rattle.std.proofs.Common.{◌≡◌, ℕ, zero, suc, ◌%◌, ◌<◌, ◌≤◌, List, [], ◌∷◌, ◌++◌, length, get_or, Bool, true, false}
use Rattle.std.proofs.Common.{cond, ◌&&◌, nat_eq, nat_le, nat_lt, eqb, Option, Some, None, find, if◌then◌else◌, refl}
use Rattle.std.proofs.Common.{sym, ap, ◌∙◌, subst, ⊎_elim, eq-eqb, arith}
use Rattle.std.proofs.lemmas.Bool.{cases_Bool, cond-true, cond-false, eqb-true, eqb-false, ltb-true, ltb-false, le-leb}
use Rattle.std.proofs.lemmas.Bool.{leb-true, and_parts, and_from, false_from_ne_true}
use Rattle.std.proofs.lemmas.List.{append-nil}
use Rattle.std.proofs.lemmas.Slice.Eq.{bytes_eq-Decides}
use Rattle.std.specs.Str.{bytes_eq}
use Rattle.std.specs.List.{Any, Contains}
use Rattle.guarded_cell.specs.declared.looking.Seen.{Seen}
use Rattle.guarded_cell.specs.Held.{Text, of_parity, is_seen, is_slot_text, with_copy, with_slot}

-- ---- tests of texts

-- a text that was seen, without its copies
abbrev pub text_of : Seen → Text
text_of seen = (seen.generation, seen.text)

pub alike : (a b : Text) → (nat_eq a.0 b.0 && bytes_eq a.1 b.1) ≡ true → (a.0 ≡ b.0) × (a.1 ≡ b.1)
alike a b e =
    let parts = and_parts (nat_eq a.0 b.0) (bytes_eq a.1 b.1) e in
    (eqb-true a.0 b.0 parts.0, (bytes_eq-Decides a.1 b.1).0 parts.1)

pub is_alike : (a b : Text) → a.0 ≡ b.0 → a.1 ≡ b.1 → (nat_eq a.0 b.0 && bytes_eq a.1 b.1) ≡ true
is_alike a b one two =
    and_from (nat_eq a.0 b.0) (bytes_eq a.1 b.1) (eq-eqb a.0 b.0 one) ((bytes_eq-Decides a.1 b.1).1 two)

pub unlike : (a b : Text) → (a.0 ≡ b.0 → ¬ (a.1 ≡ b.1)) → (nat_eq a.0 b.0 && bytes_eq a.1 b.1) ≡ false
unlike a b differ = false_from_ne_true (nat_eq a.0 b.0 && bytes_eq a.1 b.1)
    (λ e. let same = alike a b e in differ same.0 same.1)

pub never_both : (b : Bool) → b ≡ true → ¬ (b ≡ false)
never_both b passes fails = cc

-- ---- the order of the texts

-- a text's generation is no smaller than that of any in the list, and it stands in the list at no place
abbrev pub IsAhead : Text → List Seen → Type 0
IsAhead t [] = Unit {0}
IsAhead t (x ∷ xs) = (x.generation ≤ t.0) × (is_seen t x ≡ false) × IsAhead t xs

-- generations do not rise, and no text stands twice
abbrev pub IsInOrder : List Seen → Type 0
IsInOrder [] = Unit {0}
IsInOrder (x ∷ xs) = IsAhead (text_of x) xs × IsInOrder xs

abbrev pub first_seen : ℕ → Text → Seen
first_seen copy t = record { generation = t.0; text = t.1; copies = copy ∷ [] }

abbrev pub seen_more : ℕ → Seen → Seen
seen_more copy seen = record seen { copies = seen.copies ++ copy ∷ [] }

-- where one copy more goes
module _ (copy : ℕ) (t : Text) (x : Seen) (xs : List Seen) where
  there : is_seen t x ≡ true → with_copy copy t (x ∷ xs) ≡ seen_more copy x ∷ xs
  there e = cond-true (is_seen t x) (seen_more copy x ∷ xs)
      (cond (nat_lt x.generation t.0) (first_seen copy t ∷ x ∷ xs) (x ∷ with_copy copy t xs)) e

  before : is_seen t x ≡ false → nat_lt x.generation t.0 ≡ true → with_copy copy t (x ∷ xs) ≡ first_seen copy t ∷ x ∷ xs
  before e less =
      cond-false (is_seen t x) (seen_more copy x ∷ xs)
      (cond (nat_lt x.generation t.0) (first_seen copy t ∷ x ∷ xs) (x ∷ with_copy copy t xs)) e
      ∙ cond-true (nat_lt x.generation t.0) (first_seen copy t ∷ x ∷ xs) (x ∷ with_copy copy t xs) less

  behind : is_seen t x ≡ false → nat_lt x.generation t.0 ≡ false → with_copy copy t (x ∷ xs) ≡ x ∷ with_copy copy t xs
  behind e more =
      cond-false (is_seen t x) (seen_more copy x ∷ xs)
      (cond (nat_lt x.generation t.0) (first_seen copy t ∷ x ∷ xs) (x ∷ with_copy copy t xs)) e
      ∙ cond-false (nat_lt x.generation t.0) (first_seen copy t ∷ x ∷ xs) (x ∷ with_copy copy t xs) more

  -- what is so of each of the three is so of the list
  pub placed : (P : List Seen → Type 0) → (is_seen t x ≡ true → P (seen_more copy x ∷ xs))
      → (is_seen t x ≡ false → x.generation < t.0 → P (first_seen copy t ∷ x ∷ xs))
      → (is_seen t x ≡ false → t.0 ≤ x.generation → P (x ∷ with_copy copy t xs)) → P (with_copy copy t (x ∷ xs))
  placed P one two three = ⊎_elim
      (λ e. subst P (sym (there e)) (one e))
      (λ e. ⊎_elim
      (λ less. subst P (sym (before e less)) (two e (ltb-true x.generation t.0 less)))
      (λ more. subst P (sym (behind e more)) (three e (ltb-false x.generation t.0 more)))
      (cases_Bool (nat_lt x.generation t.0)))
      (cases_Bool (is_seen t x))

-- a text that is greater than the first is ahead of all
greater_ahead : (t u : Text) (xs : List Seen) → u.0 < t.0 → IsAhead u xs → IsAhead t xs
greater_ahead t u [] less ahead = tt
greater_ahead t u (x ∷ xs) less ahead = (
  omega (arith, less, ahead.0),
  unlike (text_of x) t (λ one two. let le = ahead.0 in omega (arith, one, less, le)),
  greater_ahead t u xs less ahead.2,
)

still_ahead : (u : Text) (copy : ℕ) (t : Text) (xs : List Seen) → t.0 ≤ u.0 → is_seen u (first_seen copy t) ≡ false
    → IsAhead u xs → IsAhead u (with_copy copy t xs)
still_ahead u copy t [] le differs ahead = (le, differs, tt)
still_ahead u copy t (x ∷ xs) le differs ahead = placed copy t x xs (IsAhead u)
    (λ e. ahead)
    (λ e less. (le, differs, ahead))
    (λ e more. (ahead.0, ahead.1, still_ahead u copy t xs le differs ahead.2))

turned : (copy : ℕ) (t : Text) (x : Seen) → is_seen t x ≡ false → is_seen (text_of x) (first_seen copy t) ≡ false
turned copy t x e = unlike t (text_of x)
    (λ one two. never_both (is_seen t x) (is_alike (text_of x) t (sym one) (sym two)) e)

pub with_copy_in_order : (copy : ℕ) (t : Text) (xs : List Seen) → IsInOrder xs → IsInOrder (with_copy copy t xs)
with_copy_in_order copy t [] order = (tt, tt)
with_copy_in_order copy t (x ∷ xs) order = placed copy t x xs IsInOrder
    (λ e. order)
    (λ e less. let le : x.generation ≤ t.0 = omega (arith, less) in
    ((le, e, greater_ahead t (text_of x) xs less order.0), order))
    (λ e more. (
      still_ahead (text_of x) copy t xs more (turned copy t x e) order.0,
      with_copy_in_order copy t xs order.1,
    ))

pub with_slot_in_order : (copy : ℕ) (o : Option Text) (xs : List Seen) → IsInOrder xs → IsInOrder (with_slot copy o xs)
with_slot_in_order copy None xs order = order
with_slot_in_order copy (Some t) xs order = with_copy_in_order copy t xs order

-- ---- the copies of a text

-- the copies with which a text stands in a list, none where it does not
abbrev pub copies_in : Text → List Seen → List ℕ
copies_in t [] = []
copies_in t (x ∷ xs) = if is_seen t x then x.copies else copies_in t xs

pub has : (t : Text) (x : Seen) (xs : List Seen) → is_seen t x ≡ true → copies_in t (x ∷ xs) ≡ x.copies
has t x xs e = cond-true (is_seen t x) x.copies (copies_in t xs) e

pub skips : (t : Text) (x : Seen) (xs : List Seen) → is_seen t x ≡ false → copies_in t (x ∷ xs) ≡ copies_in t xs
skips t x xs e = cond-false (is_seen t x) x.copies (copies_in t xs) e

none_ahead : (t : Text) (xs : List Seen) → IsAhead t xs → copies_in t xs ≡ []
none_ahead t [] ahead = refl
none_ahead t (x ∷ xs) ahead = skips t x xs ahead.1 ∙ none_ahead t xs ahead.2

-- one copy more of a text: the text has it, and every other text has what it had
gains : (copy : ℕ) (t : Text) (xs : List Seen) → IsInOrder xs
    → copies_in t (with_copy copy t xs) ≡ copies_in t xs ++ copy ∷ []
gains copy t [] order = has t (first_seen copy t) [] (is_alike t t refl refl)
gains copy t (x ∷ xs) order = placed copy t x xs (λ ys. copies_in t ys ≡ copies_in t (x ∷ xs) ++ copy ∷ [])
    (λ e. has t (seen_more copy x) xs e ∙ ap (λ (cs : List ℕ). cs ++ copy ∷ []) (sym (has t x xs e)))
    (λ e less. has t (first_seen copy t) (x ∷ xs) (is_alike t t refl refl)
    ∙ ap (λ (cs : List ℕ). cs ++ copy ∷ []) (sym (skips t x xs e
    ∙ none_ahead t xs (greater_ahead t (text_of x) xs less order.0))))
    (λ e more. skips t x (with_copy copy t xs) e ∙ gains copy t xs order.1
    ∙ ap (λ (cs : List ℕ). cs ++ copy ∷ []) (sym (skips t x xs e)))

keeps : (copy : ℕ) (t u : Text) (xs : List Seen) → is_seen u (first_seen copy t) ≡ false
    → copies_in u (with_copy copy t xs) ≡ copies_in u xs
keeps copy t u [] differs = skips u (first_seen copy t) [] differs
keeps copy t u (x ∷ xs) differs = placed copy t x xs (λ ys. copies_in u ys ≡ copies_in u (x ∷ xs))
    (λ e.
    let same = alike (text_of x) t e in
    let apart : is_seen u x ≡ false = unlike (text_of x) u
    (λ one two. never_both (is_seen u (first_seen copy t)) (is_alike t u (sym same.0 ∙ one) (sym same.1 ∙ two)) differs)
    in
    skips u (seen_more copy x) xs apart ∙ sym (skips u x xs apart))
    (λ e less. skips u (first_seen copy t) (x ∷ xs) differs)
    (λ e more. ap (λ (cs : List ℕ). cond (is_seen u x) x.copies cs) (keeps copy t u xs differs))

-- one slot more
abbrev if_text : Text → Option Text → ℕ → List ℕ
if_text u o copy = cond (is_slot_text u o) (copy ∷ []) []

slot_adds : (copy : ℕ) (o : Option Text) (u : Text) (xs : List Seen) → IsInOrder xs
    → copies_in u (with_slot copy o xs) ≡ copies_in u xs ++ if_text u o copy
slot_adds copy None u xs order = sym (append-nil (copies_in u xs))
slot_adds copy (Some t) u xs order = ⊎_elim
    (λ e.
    let same = alike t u e in
    let it : t ≡ u = ap (λ (g : ℕ). (g, t.1)) same.0 ∙ ap (λ (bs : List ℕ). (u.0, bs)) same.1 in
    subst (λ (w : Text). copies_in w (with_copy copy t xs) ≡ copies_in w xs ++ copy ∷ []) it (gains copy t xs order)
    ∙ ap (λ (cs : List ℕ). copies_in u xs ++ cs) (sym (cond-true (is_slot_text u (Some t)) (copy ∷ []) [] e)))
    (λ e. keeps copy t u xs e ∙ sym (append-nil (copies_in u xs))
    ∙ ap (λ (cs : List ℕ). copies_in u xs ++ cs) (sym (cond-false (is_slot_text u (Some t)) (copy ∷ []) [] e)))
    (cases_Bool (is_slot_text u (Some t)))

pub same_parity : (u : Text) (parity : ℕ) (o : Option Text) → u.0 % 2 ≡ parity
    → is_slot_text u (of_parity parity o) ≡ is_slot_text u o
same_parity u parity None e = refl
same_parity u parity (Some t) e = ⊎_elim
    (λ same. ap (is_slot_text u) (cond-true (eqb (t.0 % 2) parity) (Some t) None same))
    (λ differs. ap (is_slot_text u) (cond-false (eqb (t.0 % 2) parity) (Some t) None differs)
    ∙ sym (unlike t u (λ one two. eqb-false (t.0 % 2) parity differs (ap (λ (g : ℕ). g % 2) one ∙ e))))
    (cases_Bool (eqb (t.0 % 2) parity))

pub other_parity : (u : Text) (parity : ℕ) (o : Option Text) → ¬ (u.0 % 2 ≡ parity)
    → is_slot_text u (of_parity parity o) ≡ false
other_parity u parity None e = refl
other_parity u parity (Some t) e = ⊎_elim
    (λ same. ap (is_slot_text u) (cond-true (eqb (t.0 % 2) parity) (Some t) None same)
    ∙ unlike t u (λ one two. e (sym (ap (λ (g : ℕ). g % 2) one) ∙ eqb-true (t.0 % 2) parity same)))
    (λ differs. ap (is_slot_text u) (cond-false (eqb (t.0 % 2) parity) (Some t) None differs))
    (cases_Bool (eqb (t.0 % 2) parity))

-- of two slots, of which one alone can hold the text
pub low_slot : (copy : ℕ) (u : Text) (a b : Option Text) (holding : Bool) (xs : List Seen) → IsInOrder xs
    → is_slot_text u a ≡ holding → is_slot_text u b ≡ false
    → copies_in u (with_slot copy b (with_slot copy a xs)) ≡ copies_in u xs ++ cond holding (copy ∷ []) []
low_slot copy u a b holding xs order one two =
    slot_adds copy b u (with_slot copy a xs) (with_slot_in_order copy a xs order)
    ∙ ap (λ (p : Bool). copies_in u (with_slot copy a xs) ++ cond p (copy ∷ []) []) two
    ∙ append-nil (copies_in u (with_slot copy a xs))
    ∙ slot_adds copy a u xs order
    ∙ ap (λ (p : Bool). copies_in u xs ++ cond p (copy ∷ []) []) one

pub high_slot : (copy : ℕ) (u : Text) (a b : Option Text) (holding : Bool) (xs : List Seen) → IsInOrder xs
    → is_slot_text u a ≡ false → is_slot_text u b ≡ holding
    → copies_in u (with_slot copy b (with_slot copy a xs)) ≡ copies_in u xs ++ cond holding (copy ∷ []) []
high_slot copy u a b holding xs order one two =
    slot_adds copy b u (with_slot copy a xs) (with_slot_in_order copy a xs order)
    ∙ ap (λ (p : Bool). copies_in u (with_slot copy a xs) ++ cond p (copy ∷ []) []) two
    ∙ ap (λ (cs : List ℕ). cs ++ cond holding (copy ∷ []) []) (slot_adds copy a u xs order
    ∙ ap (λ (p : Bool). copies_in u xs ++ cond p (copy ∷ []) []) one ∙ append-nil (copies_in u xs))

-- ---- the members of a list

ahead_at : (t : Text) (xs : List Seen) (k : ℕ) (d : Seen) → k < length xs → IsAhead t xs
    → ((get_or xs k d).generation ≤ t.0) × (is_seen t (get_or xs k d) ≡ false)
ahead_at t [] k d lt ahead = absurd (omega (arith, lt))
ahead_at t (x ∷ xs) zero d lt ahead = (ahead.0, ahead.1)
ahead_at t (x ∷ xs) (suc k) d lt ahead = ahead_at t xs k d (omega (arith, lt)) ahead.2

pub member_copies : (xs : List Seen) (k : ℕ) (d : Seen) → k < length xs → IsInOrder xs
    → copies_in (text_of (get_or xs k d)) xs ≡ (get_or xs k d).copies
member_copies [] k d lt order = absurd (omega (arith, lt))
member_copies (x ∷ xs) zero d lt order = has (text_of x) x xs (is_alike (text_of x) (text_of x) refl refl)
member_copies (x ∷ xs) (suc k) d lt order =
    let within : k < length xs = omega (arith, lt) in
    let ahead = ahead_at (text_of x) xs k d within order.0 in
    let y : Seen = get_or xs k d in
    skips (text_of y) x xs (unlike (text_of x) (text_of y)
    (λ one two. never_both (is_seen (text_of x) y) (is_alike (text_of y) (text_of x) (sym one) (sym two)) ahead.1))
    ∙ member_copies xs k d within order.1

pub member_of : (t : Text) (xs : List Seen) → 1 ≤ length (copies_in t xs)
    → Any (λ seen. (seen.generation ≡ t.0) × (seen.text ≡ t.1)) xs
member_of t [] some = absurd (omega (arith, some))
member_of t (x ∷ xs) some = ⊎_elim
    (λ e. (0, x, omega arith, refl, alike (text_of x) t e))
    (λ e.
    let fewer : 1 ≤ length (copies_in t xs) = subst (λ (cs : List ℕ). 1 ≤ length cs) (skips t x xs e) some in
    let (k, y, lt, at, is) = member_of t xs fewer in (suc k, y, omega (arith, lt), at, is))
    (cases_Bool (is_seen t x))

pub descends : (xs : List Seen) (i j : ℕ) (d : Seen) → i < j → j < length xs → IsInOrder xs
    → ((get_or xs j d).generation ≤ (get_or xs i d).generation)
    × ((get_or xs j d).generation ≡ (get_or xs i d).generation → ¬ ((get_or xs j d).text ≡ (get_or xs i d).text))
descends [] i j d before lt order = absurd (omega (arith, lt))
descends (x ∷ xs) i zero d before lt order = absurd (omega (arith, before))
descends (x ∷ xs) zero (suc j) d before lt order =
    let it = ahead_at (text_of x) xs j d (omega (arith, lt)) order.0 in (
      it.0,
      λ one two. never_both (is_seen (text_of x) (get_or xs j d))
          (is_alike (text_of (get_or xs j d)) (text_of x) one two) it.1,
    )
descends (x ∷ xs) (suc i) (suc j) d before lt order = descends xs i j d (omega (arith, before)) (omega (arith, lt))
    order.1

-- ---- the first with enough copies

module _ (m : ℕ) where
  abbrev pub enough : Seen → Bool
  enough seen = nat_le m (length seen.copies)

  pub later : (x : Seen) (xs : List Seen) (o : Option Seen) → find enough (x ∷ xs) ≡ o → enough x ≡ false
      → find enough xs ≡ o
  later x xs o e few = sym (cond-false (enough x) (Some x) (find enough xs) few) ∙ e

  pub here : (x : Seen) (xs : List Seen) (s : Seen) → find enough (x ∷ xs) ≡ Some s → enough x ≡ true → x ≡ s
  here x xs s e many = let same : Some x ≡ Some s = sym (cond-true (enough x) (Some x) (find enough xs) many) ∙ e in cc

  pub found : (xs : List Seen) (s : Seen) → find enough xs ≡ Some s → Contains xs s × (m ≤ length s.copies)
  found [] s e = cc
  found (x ∷ xs) s e = ⊎_elim
      (λ many. subst (λ (y : Seen). Contains (x ∷ xs) y × (m ≤ length y.copies)) (here x xs s e many)
      ((0, omega arith, refl), leb-true m (length x.copies) many))
      (λ few. let ((k, lt, at), le) = found xs s (later x xs (Some s) e few) in ((suc k, omega (arith, lt), at), le))
      (cases_Bool (enough x))

  below : (t u : Text) (xs : List Seen) → IsAhead t xs → 1 ≤ length (copies_in u xs) → u.0 ≤ t.0
  below t u [] ahead some = absurd (omega (arith, some))
  below t u (x ∷ xs) ahead some = ⊎_elim
      (λ e. let same = alike (text_of x) u e in let le = ahead.0 in let one = same.0 in omega (arith, le, one))
      (λ e. below t u xs ahead.2 (subst (λ (cs : List ℕ). 1 ≤ length cs) (skips u x xs e) some))
      (cases_Bool (is_seen u x))

  -- a text that is not the first's has its copies in the rest
  pub in_rest : (u : Text) (x : Seen) (xs : List Seen) → m ≤ length (copies_in u (x ∷ xs)) → enough x ≡ false
      → m ≤ length (copies_in u xs)
  in_rest u x xs many few = ⊎_elim
      (λ e.
      let le : m ≤ length x.copies = subst (λ (cs : List ℕ). m ≤ length cs) (has u x xs e) many in
      absurd (never_both (enough x) (le-leb m (length x.copies) le) few))
      (λ e. subst (λ (cs : List ℕ). m ≤ length cs) (skips u x xs e) many)
      (cases_Bool (is_seen u x))

  pub greatest_found : (xs : List Seen) (s : Seen) (u : Text) → IsInOrder xs → 1 ≤ m → find enough xs ≡ Some s
      → m ≤ length (copies_in u xs) → u.0 ≤ s.generation
  greatest_found [] s u order positive e many = cc
  greatest_found (x ∷ xs) s u order positive e many = ⊎_elim
      (λ yes. subst (λ (y : Seen). u.0 ≤ y.generation) (here x xs s e yes)
      (⊎_elim
      (λ same. let it = (alike (text_of x) u same).0 in omega (arith, it))
      (λ differs.
      let rest : m ≤ length (copies_in u xs) = subst (λ (cs : List ℕ). m ≤ length cs) (skips u x xs differs) many in
      below (text_of x) u xs order.0 (omega (arith, rest, positive)))
      (cases_Bool (is_seen u x))))
      (λ few. greatest_found xs s u order.1 positive (later x xs (Some s) e few) (in_rest u x xs many few))
      (cases_Bool (enough x))

  pub none_found : (xs : List Seen) (u : Text) → 1 ≤ m → find enough xs ≡ None → ¬ (m ≤ length (copies_in u xs))
  none_found [] u positive e many = omega (arith, positive, many)
  none_found (x ∷ xs) u positive e many = ⊎_elim
      (λ yes. let same : Some x ≡ None = sym (cond-true (enough x) (Some x) (find enough xs) yes) ∙ e in cc)
      (λ few. none_found xs u positive (later x xs None e few) (in_rest u x xs many few))
      (cases_Bool (enough x))
