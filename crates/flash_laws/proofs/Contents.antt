-- What every copy of a content gives is the vote when one copy gives anything.
use Rattle.std.proofs.Common.{◌≡◌, ◌≢◌, ℕ, zero, suc, ◌+◌, ◌<◌, ◌≤◌, Bool, true, false, cond, List, [], ◌∷◌, ◌++◌}
use Rattle.std.proofs.Common.{length, length-append, refl, sym, ap, ◌∙◌, arith}
use Rattle.std.specs.Prelude.{Option, Some, None, map, count_by}
use Rattle.std.specs.List.{range_with_len}
use Rattle.std.proofs.lemmas.List.{map-append}
use Rattle.std.proofs.lemmas.List.Sums.{sum_by-append}
use Rattle.std.proofs.lemmas.Option.{same_Some}
use Rattle.std.proofs.lemmas.Slice.Eq.{bytes_eq-Decides}
use Rattle.disk_model.specs.Image.{Image}
use Rattle.disk_model.specs.Damage.{AtLeast}
use Rattle.disk_model.specs.Place.{area}
use Rattle.disk_model.specs.declared.place.Place.{Place}
use Rattle.block_files.specs.Contents.{contents, counting}
use Rattle.m_of_n.specs.Vote.{is_text, voted, holders}
use Rattle.m_of_n.specs.Laws.{voted-only}
use Rattle.guarded_cell.specs.Held.{copies_that}
use Rattle.guarded_cell.specs.lemmas.CopyLaws.{enough_pass, passing_enough}
use Rattle.guarded_cell.specs.lemmas.StopLaws.{at_least_map, at_least_one}
use Rattle.flash_laws.proofs.Outvoted.{at_least_but, another_of}

-- ---- how many of some copies give a text

abbrev Gift : Type 0
Gift = ℕ → Option (List ℕ)

abbrev gifts : Gift → ℕ → List (Option (List ℕ))
gifts f n = map f (range_with_len 0 n)

abbrev Gives : Gift → List ℕ → ℕ → Type 0
Gives f text copy = f copy ≡ Some text

is_its_text : (v : List ℕ) (o : Option (List ℕ)) → is_text v o ≡ true → o ≡ Some v
is_its_text v None e = cc
is_its_text v (Some x) e = ap (λ y. Some y) ((bytes_eq-Decides x v).0 e)

its_text : (v : List ℕ) (o : Option (List ℕ)) → o ≡ Some v → is_text v o ≡ true
its_text v o e = ap (is_text v) e ∙ (bytes_eq-Decides v v).1 refl

range_more : (a n : ℕ) → range_with_len a (suc n) ≡ range_with_len a n ++ (a + n) ∷ []
range_more a zero = let e : a ≡ a + 0 = omega arith in ap (λ (x : ℕ). x ∷ []) e
range_more a (suc n) =
    let e : a + 1 + n ≡ a + suc n = omega arith in
    ap (λ (xs : List ℕ). a ∷ xs) (range_more (a + 1) n) ∙ ap (λ (x : ℕ). a ∷ (range_with_len (a + 1) n ++ x ∷ [])) e

gifts_more : (f : Gift) (n : ℕ) → gifts f (suc n) ≡ gifts f n ++ f n ∷ []
gifts_more f n =
    let e : 0 + n ≡ n = omega arith in
    ap (map f) (range_more 0 n) ∙ map-append f (range_with_len 0 n) ((0 + n) ∷ [])
    ∙ ap (λ (x : ℕ). gifts f n ++ f x ∷ []) e

count_one : (t : Option (List ℕ) → Bool) (x : Option (List ℕ)) → count_by t (x ∷ []) ≡ cond (t x) 1 0
count_one t x = omega arith

more_that : (p : ℕ → Bool) (n : ℕ) → length (copies_that p (suc n)) ≡ length (copies_that p n) + cond (p n) 1 0
more_that p n = length-append (copies_that p n) (cond (p n) ((n + 1) ∷ []) [])
    ∙ elim (p n) as (λ b. length (copies_that p n) + length (cond b ((n + 1) ∷ []) [])
    ≡ length (copies_that p n) + cond b 1 0) [ true ↦ refl | false ↦ refl ]

counted_that : (t : Option (List ℕ) → Bool) (f : Gift) (n : ℕ)
    → count_by t (gifts f n) ≡ length (copies_that (λ c. t (f c)) n)
counted_that t f zero = refl
counted_that t f (suc n) =
    ap (count_by t) (gifts_more f n)
    ∙ sum_by-append (λ (x : Option (List ℕ)). cond (t x) 1 0) (gifts f n) (f n ∷ [])
    ∙ (let before = counted_that t f n in let one = count_one t (f n) in let more =
    more_that (λ c. t (f c)) n in omega (arith, before, one, more))

givers : (f : Gift) (n m : ℕ) (v : List ℕ) → m ≤ holders (gifts f n) v → AtLeast (Gives f v) n m
givers f n m v le =
    let e = counted_that (is_text v) f n in
    at_least_map (λ c. is_text v (f c) ≡ true) (Gives f v) n m (λ c lt is. is_its_text v (f c) is)
    (enough_pass (λ c. is_text v (f c)) n m (omega (arith, le, e)))

given : (f : Gift) (n m : ℕ) (v : List ℕ) → AtLeast (Gives f v) n m → m ≤ holders (gifts f n) v
given f n m v some =
    let e = counted_that (is_text v) f n in
    let le = passing_enough (λ c. is_text v (f c)) n m
    (at_least_map (Gives f v) (λ c. is_text v (f c) ≡ true) n m (λ c lt is. its_text v (f c) is) some) in
    omega (arith, le, e)

-- ---- the vote

module _ (old new : Image) (place : Place) (lost len : ℕ) (blocks hash content : List ℕ)
    (same : (c : ℕ) → c < place.copies → c ≢ lost → new (area place c) ≡ old (area place c))
    (all : (c : ℕ) → c < place.copies → counting (old (area place c)) blocks len hash ≡ Some content) where
  abbrev gift : Gift
  gift c = counting (new (area place c)) blocks len hash

  still_gives : (c : ℕ) → c < place.copies → c ≢ lost → gift c ≡ Some content
  still_gives c inside apart = ap (λ file. counting file blocks len hash) (same c inside apart) ∙ all c inside

  vote : (m : ℕ) → 1 ≤ m → m < place.copies
      → ((other : List ℕ) → AtLeast (Gives gift other) place.copies m → other ≡ content)
      → voted m (contents place blocks len hash new) ≡ Some content
  vote m positive few only = voted-only m (contents place blocks len hash new) content positive
      (given gift place.copies m content (at_least_but (Gives gift content) lost place.copies m still_gives few))
      (λ other many. only other (givers gift place.copies m other many))

  pub content_outvoted : (m : ℕ) → 2 ≤ m → m < place.copies
      → voted m (contents place blocks len hash new) ≡ Some content
  content_outvoted m two few = vote m (omega (arith, two)) few
      (λ other many.
      let found = another_of (Gives gift other) lost place.copies m two many in
      same_Some other content (sym found.3 ∙ still_gives found.0 found.1 found.2))

  -- also where one copy is enough, unless one gives another content under the hash
  pub content_stands : (m : ℕ) → 1 ≤ m → m < place.copies
      → ((c : ℕ) (other : List ℕ) → c < place.copies → gift c ≡ Some other → other ≡ content)
      → voted m (contents place blocks len hash new) ≡ Some content
  content_stands m positive few alike = vote m positive few
      (λ other many.
      let found = at_least_one (Gives gift other) place.copies m positive many in
      alike found.0 other found.1 found.2)
