-- Copies that pass a test, however they are listed or counted: as numbers, among what each copy gives, or as that many
-- at least.
use Rattle.std.proofs.Common.{◌≡◌, ℕ, zero, suc, ◌+◌, ◌<◌, ◌≤◌, ◌⊎◌, Bool, true, false, cond, List, [], ◌∷◌, ◌++◌}
use Rattle.std.proofs.Common.{length, Option, Some, None, refl, sym, ap, subst, ◌∙◌, inl, inr, length-append, arith}
use Rattle.std.specs.Prelude.{map, count_by, nat_eq}
use Rattle.std.specs.List.{range_with_len, filter, Contains}
use Rattle.std.proofs.lemmas.Bool.{eqb-true, eq-eqb, cases_eq}
use Rattle.std.proofs.lemmas.List.Elements.{filter-append}
use Rattle.std.proofs.lemmas.List.Sums.{sum_by-append}
use Rattle.std.proofs.lemmas.List.{map-append}
use Rattle.std.proofs.lemmas.Slice.Eq.{bytes_eq-Decides}
use Rattle.disk_model.specs.Damage.{AtLeast}
use Rattle.disk_model.specs.Orders.{named_in}
use Rattle.m_of_n.specs.Vote.{is_text, holders, voted}
use Rattle.m_of_n.specs.Laws.{voted-held, voted-none, voted-only}
use Rattle.guarded_cell.specs.Held.{copies_that}
use Rattle.guarded_cell.specs.lemmas.CopyLaws.{enough_pass, passing_enough}
use Rattle.guarded_cell.specs.lemmas.StopLaws.{at_least_map, at_least_one}
use Rattle.block_files.specs.Contents.{first_content}
use Rattle.per_base.specs.declared.elements.Content.{Content}
use Rattle.per_base.specs.declared.elements.Content.TheVariants.{Good, Bad}
use Rattle.element_state.specs.Views.{content_of}
use Rattle.element_state.specs.Kept.{IsLeftOf}
use Rattle.element_laws.specs.lemmas.Lists.{In, In-Contains, Contains-In, In-map, map-In, not_none, not_false}
use Rattle.element_laws.specs.lemmas.Lists.{list_any-In}
use Rattle.element_laws.specs.lemmas.Lists.{In-list_any}

pub good_same : (v w : List ℕ) → Good v ≡ Good w → v ≡ w
good_same v w e = cc

pub bad_good : (s : Option (List ℕ)) (w : List ℕ) → Bad s ≡ Good w → ⊥
bad_good s w e = cc

-- ---- one number more

pub range_more : (a n : ℕ) → range_with_len a (suc n) ≡ range_with_len a n ++ (a + n) ∷ []
range_more a zero = let e : a ≡ a + 0 = omega arith in ap (λ (x : ℕ). x ∷ []) e
range_more a (suc n) =
    let e : a + 1 + n ≡ a + suc n = omega arith in
    ap (λ (xs : List ℕ). a ∷ xs) (range_more (a + 1) n) ∙ ap (λ (x : ℕ). a ∷ (range_with_len (a + 1) n ++ x ∷ [])) e

-- ---- numbers of copies

last_number : (p : ℕ → Bool) (n : ℕ) → map suc (filter p ((0 + n) ∷ [])) ≡ cond (p n) ((n + 1) ∷ []) []
last_number p n =
    let e : 0 + n ≡ n = omega arith in
    let f : suc n ≡ n + 1 = omega arith in
    ap (λ (x : ℕ). map suc (filter p (x ∷ []))) e
    ∙ elim (p n) as (λ b. map suc (cond b (n ∷ []) []) ≡ cond b ((n + 1) ∷ []) [])
    [ true ↦ ap (λ (x : ℕ). x ∷ []) f | false ↦ refl ]

-- the numbers that a filter keeps are those of the copies that pass
pub filtered_that : (p : ℕ → Bool) (n : ℕ) → map suc (filter p (range_with_len 0 n)) ≡ copies_that p n
filtered_that p zero = refl
filtered_that p (suc n) =
    ap (λ (xs : List ℕ). map suc (filter p xs)) (range_more 0 n)
    ∙ ap (map suc) (filter-append p (range_with_len 0 n) ((0 + n) ∷ []))
    ∙ map-append suc (filter p (range_with_len 0 n)) (filter p ((0 + n) ∷ []))
    ∙ ap (λ (xs : List ℕ). xs ++ map suc (filter p ((0 + n) ∷ []))) (filtered_that p n)
    ∙ ap (λ (xs : List ℕ). copies_that p n ++ xs) (last_number p n)

-- a number is named in a list where it stands there
pub named_Contains : (xs : List ℕ) (k : ℕ) → named_in xs k ≡ true → Contains xs k
named_Contains xs k e = let r = list_any-In (λ (n : ℕ). nat_eq n k) xs e in
    In-Contains k xs (subst (λ (x : ℕ). In x xs) (eqb-true r.0 k r.2) r.1)

pub Contains_named : (xs : List ℕ) (k : ℕ) → Contains xs k → named_in xs k ≡ true
Contains_named xs k c = In-list_any (λ (n : ℕ). nat_eq n k) k xs (Contains-In k xs c) (eq-eqb k k refl)

-- ---- what each copy gives

abbrev pub Gift : Type 0
Gift = ℕ → Option (List ℕ)

abbrev pub gifts : Gift → ℕ → List (Option (List ℕ))
gifts f n = map f (range_with_len 0 n)

abbrev pub CopyGives : Gift → ℕ → List ℕ → Type 0
CopyGives f copy text = f copy ≡ Some text

pub is_text-is : (v : List ℕ) (o : Option (List ℕ)) → is_text v o ≡ true → o ≡ Some v
is_text-is v None e = absurd (not_false e)
is_text-is v (Some x) e = ap (λ y. Some y) ((bytes_eq-Decides x v).0 e)

pub its_text : (v : List ℕ) (o : Option (List ℕ)) → o ≡ Some v → is_text v o ≡ true
its_text v o e = ap (is_text v) e ∙ (bytes_eq-Decides v v).1 refl

gifts_more : (f : Gift) (n : ℕ) → gifts f (suc n) ≡ gifts f n ++ f n ∷ []
gifts_more f n =
    let e : 0 + n ≡ n = omega arith in
    ap (map f) (range_more 0 n) ∙ map-append f (range_with_len 0 n) ((0 + n) ∷ [])
    ∙ ap (λ (x : ℕ). gifts f n ++ f x ∷ []) e

count_one : (t : Option (List ℕ) → Bool) (x : Option (List ℕ)) → count_by t (x ∷ []) ≡ cond (t x) 1 0
count_one t x = omega arith

more_that : (p : ℕ → Bool) (n : ℕ) → length (copies_that p (suc n)) ≡ length (copies_that p n) + cond (p n) 1 0
more_that p n = length-append (copies_that p n) (cond (p n) ((n + 1) ∷ []) [])
    ∙ elim (p n) as (λ b. length (copies_that p n) + length (cond b ((n + 1) ∷ []) [])
    ≡ length (copies_that p n) + cond b 1 0) [ true ↦ refl | false ↦ refl ]

counted_that : (t : Option (List ℕ) → Bool) (f : Gift) (n : ℕ)
    → count_by t (gifts f n) ≡ length (copies_that (λ c. t (f c)) n)
counted_that t f zero = refl
counted_that t f (suc n) =
    ap (count_by t) (gifts_more f n)
    ∙ sum_by-append (λ (x : Option (List ℕ)). cond (t x) 1 0) (gifts f n) (f n ∷ [])
    ∙ (let before = counted_that t f n in let one = count_one t (f n) in let more =
    more_that (λ c. t (f c)) n in omega (arith, before, one, more))

pub holders_many : (f : Gift) (n m : ℕ) (v : List ℕ) → m ≤ holders (gifts f n) v → AtLeast (λ c. CopyGives f c v) n m
holders_many f n m v le =
    let e = counted_that (is_text v) f n in
    at_least_map (λ c. is_text v (f c) ≡ true) (λ c. CopyGives f c v) n m (λ c lt is. is_text-is v (f c) is)
    (enough_pass (λ c. is_text v (f c)) n m (omega (arith, le, e)))

pub many_holders : (f : Gift) (n m : ℕ) (v : List ℕ) → AtLeast (λ c. CopyGives f c v) n m → m ≤ holders (gifts f n) v
many_holders f n m v some =
    let e = counted_that (is_text v) f n in
    let le = passing_enough (λ c. is_text v (f c)) n m (at_least_map (λ c. CopyGives f c v) (λ c. is_text v (f c)
    ≡ true) n
    m (λ c lt is. its_text v (f c) is) some) in
    omega (arith, le, e)

In_range : (x a n : ℕ) → In x (range_with_len a n) → (a ≤ x) × (x < a + n)
In_range x a zero h = absurd h
In_range x a (suc n) (inl e) = (omega (arith, e), omega (arith, e))
In_range x a (suc n) (inr h) = let r = In_range x (a + 1) n h in (omega (arith, r.0), omega (arith, r.1))

range_In : (x a n : ℕ) → a ≤ x → x < a + n → In x (range_with_len a n)
range_In x a zero le lt = absurd (omega (arith, le, lt))
range_In x a (suc n) le lt = elim (cases_eq a x) [
  | inl e ↦ inl e
  | inr ne ↦ inr (range_In x (a + 1) n (omega (arith, le, ne)) (omega (arith, lt)))
]

first_In : (xs : List (Option (List ℕ))) (s : List ℕ) → first_content xs ≡ Some s → In (Some s) xs
first_In [] s e = absurd (not_none s (sym e))
first_In (None ∷ xs) s e = inr (first_In xs s e)
first_In (Some x ∷ xs) s e = inl e

no_first : (xs : List (Option (List ℕ))) (s : List ℕ) → In (Some s) xs → first_content xs ≡ None → ⊥
no_first [] s h e = h
no_first (None ∷ xs) s (inl h) e = not_none s (sym h)
no_first (None ∷ xs) s (inr h) e = no_first xs s h e
no_first (Some x ∷ xs) s h e = not_none x e

-- the first content is one that a copy gives
pub first_given : (f : Gift) (n : ℕ) (s : List ℕ) → first_content (gifts f n) ≡ Some s → (c : ℕ) × (c < n)
    × CopyGives f c s
first_given f n s e =
    let r = In-map f (Some s) (range_with_len 0 n) (first_In (gifts f n) s e) in
    let within = In_range r.0 0 n r.1 in
    (r.0, omega (arith, within.1), r.2)

-- where there is no first content, no copy gives any
pub none_given : (f : Gift) (n : ℕ) → first_content (gifts f n) ≡ None → (c : ℕ) (s : List ℕ) → c < n → CopyGives f c s
    → ⊥
none_given f n e c s lt gives =
    no_first (gifts f n) s (subst (λ o. In o (gifts f n)) gives
    (map-In f c (range_with_len 0 n) (range_In c 0 n (omega arith) (omega (arith, lt))))) e

-- ---- a content, beside what the copies give

-- they give its value alone; or its salvage alone, and too few; or nothing
abbrev pub Backed : (m n : ℕ) → Gift → Content → Type 0
Backed m n f (Good v) = (c : ℕ) (w : List ℕ) → c < n → CopyGives f c w → w ≡ v
Backed m n f (Bad (Some u)) = ((c : ℕ) (w : List ℕ) → c < n → CopyGives f c w → w ≡ u)
    × ((w : List ℕ) → AtLeast (λ c. CopyGives f c w) n m → ⊥)
Backed m n f (Bad None) = (c : ℕ) (w : List ℕ) → c < n → CopyGives f c w → ⊥

abbrev pub AreAlike : Gift → ℕ → Type 0
AreAlike f n = (a b : ℕ) (s t : List ℕ) → a < n → b < n → CopyGives f a s → CopyGives f b t → s ≡ t

module _ (m n : ℕ) (positive : 1 ≤ m) where
  pub voted_given : (f : Gift) (v : List ℕ) → voted m (gifts f n) ≡ Some v → (c : ℕ) × (c < n) × CopyGives f c v
  voted_given f v e = at_least_one (λ c. CopyGives f c v) n m positive
      (holders_many f n m v (voted-held m (gifts f n) v e))

  left : (f : Gift) (there : Content) → Backed m n f there → (a s : Option (List ℕ)) → voted m (gifts f n) ≡ a
      → first_content (gifts f n) ≡ s
      → IsLeftOf (content_of a s) there
  left f (Good u) b (Some v) s va fs = let r = voted_given f v va in ap (λ x. Good x) (sym (b r.0 v r.1 r.2))
  left f (Bad (Some u)) b (Some v) s va fs = absurd (b.1 v (holders_many f n m v (voted-held m (gifts f n) v va)))
  left f (Bad None) b (Some v) s va fs = let r = voted_given f v va in absurd (b r.0 v r.1 r.2)
  left f there b None None va fs = tt
  left f (Good u) b None (Some s) va fs = let r = first_given f n s fs in inl (ap (λ x. Good x) (sym (b r.0 s r.1 r.2)))
  left f (Bad (Some u)) b None (Some s) va fs = let r =
      first_given f n s fs in inr (ap (λ x. Bad (Some x)) (sym (b.0 r.0 s r.1 r.2)))
  left f (Bad None) b None (Some s) va fs = let r = first_given f n s fs in absurd (b r.0 s r.1 r.2)

  -- what is read is left of it
  pub left_of : (f : Gift) (there : Content) → Backed m n f there
      → IsLeftOf (content_of (voted m (gifts f n)) (first_content (gifts f n))) there
  left_of f there b = left f there b (voted m (gifts f n)) (first_content (gifts f n)) refl refl

  backed : (f : Gift) → AreAlike f n → (a s : Option (List ℕ)) → voted m (gifts f n) ≡ a → first_content (gifts f n) ≡ s
      → Backed m n f (content_of a s)
  backed f alike (Some v) s va fs = λ c w lt gives. let r = voted_given f v va in alike c r.0 w v lt r.1 gives r.2
  backed f alike None (Some u) va fs = (
    λ c w lt gives. let r = first_given f n u fs in alike c r.0 w u lt r.1 gives r.2,
    λ w some. let few = voted-none m (gifts f n) positive va w in let many =
        many_holders f n m w some in omega (arith, few, many),
  )
  backed f alike None None va fs = none_given f n fs

  -- where copies give no two texts, what is read is backed
  pub backed_now : (f : Gift) → AreAlike f n → Backed m n f
      (content_of (voted m (gifts f n)) (first_content (gifts f n)))
  backed_now f alike = backed f alike (voted m (gifts f n)) (first_content (gifts f n)) refl refl

  -- where copies give less, or the value
  pub backed_less : (f g : Gift) (there : Content) → ((c : ℕ) (w : List ℕ) → c < n → CopyGives g c w
      → CopyGives f c w ⊎ (there ≡ Good w)) → Backed m n f there → Backed m n g there
  backed_less f g (Good v) less b = λ c w lt gives. elim (less c w lt gives)
      [ inl was ↦ b c w lt was | inr is ↦ sym (good_same v w is) ]
  backed_less f g (Bad (Some u)) less b = (
    λ c w lt gives. elim (less c w lt gives) [ inl was ↦ b.0 c w lt was | inr is ↦ absurd (bad_good (Some u) w is) ],
    λ w some. b.1 w (at_least_map (λ c. CopyGives g c w) (λ c. CopyGives f c w) n m
        (λ c lt gives. elim (less c w lt gives) [ inl was ↦ was | inr is ↦ absurd (bad_good (Some u) w is) ]) some),
  )
  backed_less f g (Bad None) less b = λ c w lt gives. elim (less c w lt gives)
      [ inl was ↦ b c w lt was | inr is ↦ absurd (bad_good None w is) ]

  -- enough copies give the value: it is the vote
  pub good_now : (f : Gift) (v : List ℕ) → Backed m n f (Good v) → AtLeast (λ c. CopyGives f c v) n m
      → voted m (gifts f n) ≡ Some v
  good_now f v b some = voted-only m (gifts f n) v positive (many_holders f n m v some)
      (λ other many. let r = at_least_one (λ c. CopyGives f c other) n m positive (holders_many f n m other many) in
      b r.0 other r.1 r.2)

-- copies that back a content give no two texts
pub backed_alike : (m n : ℕ) (f : Gift) (there : Content) → Backed m n f there → AreAlike f n
backed_alike m n f (Good v) back a b s t la lb ga gb = back a s la ga ∙ sym (back b t lb gb)
backed_alike m n f (Bad (Some u)) back a b s t la lb ga gb = back.0 a s la ga ∙ sym (back.0 b t lb gb)
backed_alike m n f (Bad None) back a b s t la lb ga gb = absurd (back a s la ga)
