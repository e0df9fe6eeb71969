-- Items in the order of their names: what is found under a name after one is put in, taken out or changed, and when two
-- lists are the same.
use Rattle.std.proofs.Common.{◌≡◌, ℕ, ◌+◌, ◌≤◌, Bool, true, false, cond, List, [], ◌∷◌, map, Option, Some, None, refl}
use Rattle.std.proofs.Common.{sym, ap, subst, ◌∙◌, inl, inr, arith}
use Rattle.std.specs.Prelude.{option_map, sum_by}
use Rattle.std.specs.List.{AllByRecursion, IsDistinct}
use Rattle.std.specs.List.Sorted.{IsStrictlySortedBy}
use Rattle.std.specs.Ordering.{is_lt}
use Rattle.std.specs.declared.cmp.Ordering.{Ordering}
use Rattle.std.specs.declared.cmp.Ordering.TheVariants.{Less, Equal, Greater}
use Rattle.std.specs.Str.{bytes_eq}
use Rattle.std.proofs.lemmas.Bool.{cases_Bool}
use Rattle.std.proofs.lemmas.List.Sums.{sum_by-cons}
use Rattle.std.proofs.lemmas.Map.Keys.{IsDistinct-cons}
use Rattle.per_base.specs.Names.{name_cmp, NamesAscend}
use Rattle.element_state.specs.Changes.{item_at, insert_item, without_item}
use Rattle.element_maps.specs.lemmas.Names.{same_names, eq_names, eq_itself, eq_back, false_true, tied_names}
use Rattle.element_maps.specs.lemmas.Names.{less_apart}
use Rattle.element_maps.specs.lemmas.Names.{greater_less, less_less, less_from, above_from}

-- each of these names comes after this one
abbrev pub ComesBeforeAll : List ℕ → List (List ℕ) → Type 0
ComesBeforeAll name names = AllByRecursion (λ y. name_cmp name y ≡ Less) names

above_all : (a b : List ℕ) (names : List (List ℕ)) → name_cmp a b ≡ Less → ComesBeforeAll b names
    → ComesBeforeAll a names
above_all a b [] less above = tt
above_all a b (n ∷ ns) less above = (less_less a b n less above.0, above_all a b ns less above.1)

apart_above : (name : List ℕ) (names : List (List ℕ)) → ComesBeforeAll name names
    → AllByRecursion (λ y. bytes_eq name y ≡ false) names
apart_above name [] above = tt
apart_above name (n ∷ ns) above = (less_apart name n above.0, apart_above name ns above.1)

-- names in order differ
pub names_apart : (names : List (List ℕ)) → IsStrictlySortedBy name_cmp names → IsDistinct bytes_eq names
unfolding IsStrictlySortedBy IsDistinct
names_apart [] sorted = tt
names_apart (n ∷ ns) sorted = IsDistinct-cons bytes_eq n ns (apart_above n ns sorted.0) (names_apart ns sorted.1)

module _ {X : Type 0} (name_of : X → List ℕ) where
  pub first : (x : X) (xs : List X) → NamesAscend name_of (x ∷ xs) → ComesBeforeAll (name_of x) (map name_of xs)
  unfolding IsStrictlySortedBy
  first x xs sorted = sorted.0

  pub rest : (x : X) (xs : List X) → NamesAscend name_of (x ∷ xs) → NamesAscend name_of xs
  unfolding IsStrictlySortedBy
  rest x xs sorted = sorted.1

  ascends_more : (x : X) (xs : List X) → ComesBeforeAll (name_of x) (map name_of xs) → NamesAscend name_of xs
      → NamesAscend name_of (x ∷ xs)
  unfolding IsStrictlySortedBy
  ascends_more x xs above sorted = (above, sorted)

  -- ---- what is found

  pub item_named : (name : List ℕ) (xs : List X) (x : X) → item_at name_of name xs ≡ Some x → name_of x ≡ name
  item_named name [] x e = absurd cc
  item_named name (y ∷ ys) x e = elim (cases_Bool (bytes_eq (name_of y) name)) [
    | inl t ↦ let s : Some y ≡ Some x = rw t at e in let is : y ≡ x =
        cc in ap name_of (sym is) ∙ same_names (name_of y) name t
    | inr f ↦ item_named name ys x (rw f at e)
  ]

  pub item_above : (name : List ℕ) (xs : List X) → ComesBeforeAll name (map name_of xs) → item_at name_of name xs ≡ None
  item_above name [] above = refl
  item_above name (y ∷ ys) above = rw (eq_back (name_of y) name ∙ less_apart name (name_of y) above.0)
      (item_above name ys above.1)

  pub item_first : (x : X) (xs : List X) → item_at name_of (name_of x) (x ∷ xs) ≡ Some x
  item_first x xs = rw (eq_itself (name_of x)) refl

  -- a later one is found in the whole too
  pub item_later : (name : List ℕ) (x : X) (xs : List X) (z : X) → NamesAscend name_of (x ∷ xs)
      → item_at name_of name xs ≡ Some z → item_at name_of name (x ∷ xs) ≡ Some z
  item_later name x xs z sorted e = elim (cases_Bool (bytes_eq (name_of x) name)) [
    | inl t ↦
        let none : item_at name_of name xs ≡ None = subst (λ (n : List ℕ). item_at name_of n xs ≡ None)
        (same_names (name_of x) name t) (item_above (name_of x) xs (first x xs sorted)) in
        absurd cc
    | inr f ↦ rw f e
  ]

  pub item_each : (P : X → Type 0) (name : List ℕ) (xs : List X) (x : X) → AllByRecursion P xs
      → item_at name_of name xs ≡ Some x → P x
  item_each P name [] x all e = absurd cc
  item_each P name (y ∷ ys) x all e = elim (cases_Bool (bytes_eq (name_of y) name)) [
    | inl t ↦ let s : Some y ≡ Some x = rw t at e in let is : y ≡ x = cc in subst P is all.0
    | inr f ↦ item_each P name ys x all.1 (rw f at e)
  ]

  -- what holds of each that is found holds of all
  pub each_item : (P : X → Type 0) (xs : List X) → NamesAscend name_of xs
      → ((name : List ℕ) (x : X) → item_at name_of name xs ≡ Some x → P x) → AllByRecursion P xs
  each_item P [] sorted found = tt
  each_item P (x ∷ xs) sorted found = (
    found (name_of x) x (item_first x xs),
    each_item P xs (rest x xs sorted)
        (λ name z e. found name z (item_later name x xs z sorted e)),
  )

  -- ---- one taken out, one put in

  pub item_without : (name other : List ℕ) (xs : List X)
      → item_at name_of name (without_item name_of other xs) ≡ cond (bytes_eq other name) None (item_at name_of name xs)
  item_without name other [] = by (bytes_eq other name)
    where
      by : (b : Bool) → let none : Option X = None in none ≡ cond b none none
      by true = refl
      by false = refl
  item_without name other (x ∷ xs) = elim (cases_Bool (bytes_eq (name_of x) other)) [
    | inl t ↦ rw t (item_without name other xs ∙ by (bytes_eq other name) refl (same_names (name_of x) other t))
    | inr f ↦ rw f (ap (λ found. cond (bytes_eq (name_of x) name) (Some x) found) (item_without name other xs)
        ∙ apart (bytes_eq (name_of x) name) refl (bytes_eq other name) refl f)
  ]
    where
      by : (b : Bool) → bytes_eq other name ≡ b → name_of x ≡ other
          → cond b None (item_at name_of name xs) ≡ cond b None
          (cond (bytes_eq (name_of x) name) (Some x) (item_at name_of name xs))
      by true e is = refl
      by false e is = rw (ap (λ n. bytes_eq n name) is ∙ e) refl

      apart : (a : Bool) → bytes_eq (name_of x) name ≡ a → (b : Bool) → bytes_eq other name ≡ b
          → bytes_eq (name_of x) other ≡ false
          → cond a (Some x) (cond b None (item_at name_of name xs))
          ≡ cond b None (cond a (Some x) (item_at name_of name xs))
      apart true e true g f = absurd (false_true (bytes_eq (name_of x) other) f
          (eq_names (name_of x) other (same_names (name_of x) name e ∙ sym (same_names other name g))))
      apart true e false g f = refl
      apart false e true g f = refl
      apart false e false g f = refl

  abbrev pub Apart : List ℕ → List X → Type 0
  Apart name xs = AllByRecursion (λ (y : X). bytes_eq (name_of y) name ≡ false) xs

  pub apart_without : (name : List ℕ) (xs : List X) → Apart name (without_item name_of name xs)
  apart_without name [] = tt
  apart_without name (y ∷ ys) = elim (cases_Bool (bytes_eq (name_of y) name)) [
    | inl t ↦ rw t (apart_without name ys)
    | inr f ↦ rw f (f, apart_without name ys)
  ]

  pub item_insert : (name : List ℕ) (x : X) (xs : List X) → Apart (name_of x) xs
      → item_at name_of name (insert_item name_of x xs) ≡ cond (bytes_eq (name_of x) name) (Some x)
      (item_at name_of name xs)
  item_insert name x [] apart = refl
  item_insert name x (y ∷ ys) apart = elim (cases_Bool (is_lt (name_cmp (name_of y) (name_of x)))) [
    | inl t ↦ rw t (ap (λ found. cond (bytes_eq (name_of y) name) (Some y) found) (item_insert name x ys apart.1)
        ∙ by (bytes_eq (name_of y) name) refl (bytes_eq (name_of x) name) refl apart.0)
    | inr f ↦ rw f refl
  ]
    where
      by : (a : Bool) → bytes_eq (name_of y) name ≡ a → (b : Bool) → bytes_eq (name_of x) name ≡ b
          → bytes_eq (name_of y) (name_of x) ≡ false
          → cond a (Some y) (cond b (Some x) (item_at name_of name ys))
          ≡ cond b (Some x) (cond a (Some y) (item_at name_of name ys))
      by true e true g f = absurd (false_true (bytes_eq (name_of y) (name_of x)) f
          (eq_names (name_of y) (name_of x) (same_names (name_of y) name e ∙ sym (same_names (name_of x) name g))))
      by true e false g f = refl
      by false e true g f = refl
      by false e false g f = refl

  pub item_put : (name : List ℕ) (x : X) (xs : List X)
      → item_at name_of name (insert_item name_of x (without_item name_of (name_of x) xs))
      ≡ cond (bytes_eq (name_of x) name) (Some x) (item_at name_of name xs)
  item_put name x xs = item_insert name x (without_item name_of (name_of x) xs) (apart_without (name_of x) xs)
      ∙ ap (λ found. cond (bytes_eq (name_of x) name) (Some x) found) (item_without name (name_of x) xs)
      ∙ by (bytes_eq (name_of x) name)
    where
      by : (b : Bool) → cond b (Some x) (cond b None (item_at name_of name xs))
          ≡ cond b (Some x) (item_at name_of name xs)
      by true = refl
      by false = refl

  -- ---- order is kept

  each_insert : (P : X → Type 0) (x : X) (xs : List X) → P x → AllByRecursion P xs
      → AllByRecursion P (insert_item name_of x xs)
  each_insert P x [] is all = (is, tt)
  each_insert P x (y ∷ ys) is all = elim (cases_Bool (is_lt (name_cmp (name_of y) (name_of x)))) [
    | inl t ↦ rw t (all.0, each_insert P x ys is all.1)
    | inr f ↦ rw f (is, all)
  ]

  each_without : (P : X → Type 0) (name : List ℕ) (xs : List X) → AllByRecursion P xs
      → AllByRecursion P (without_item name_of name xs)
  each_without P name [] all = tt
  each_without P name (y ∷ ys) all = elim (cases_Bool (bytes_eq (name_of y) name)) [
    | inl t ↦ rw t (each_without P name ys all.1)
    | inr f ↦ rw f (all.0, each_without P name ys all.1)
  ]

  names_each : (P : List ℕ → Type 0) (xs : List X) → AllByRecursion P (map name_of xs)
      → AllByRecursion (λ x. P (name_of x)) xs
  names_each P [] all = tt
  names_each P (x ∷ xs) all = (all.0, names_each P xs all.1)

  each_names : (P : List ℕ → Type 0) (xs : List X) → AllByRecursion (λ x. P (name_of x)) xs
      → AllByRecursion P (map name_of xs)
  each_names P [] all = tt
  each_names P (x ∷ xs) all = (all.0, each_names P xs all.1)

  pub ascends_without : (name : List ℕ) (xs : List X) → NamesAscend name_of xs
      → NamesAscend name_of (without_item name_of name xs)
  ascends_without name [] sorted = sorted
  ascends_without name (y ∷ ys) sorted = elim (cases_Bool (bytes_eq (name_of y) name)) [
    | inl t ↦ rw t (ascends_without name ys (rest y ys sorted))
    | inr f ↦ rw f (
        let P : List ℕ → Type 0 = λ z. name_cmp (name_of y) z ≡ Less in
        ascends_more y (without_item name_of name ys)
        (each_names P (without_item name_of name ys) (each_without (λ z. P (name_of z)) name ys
        (names_each P ys (first y ys sorted))))
        (ascends_without name ys (rest y ys sorted)))
  ]

  pub ascends_insert : (x : X) (xs : List X) → Apart (name_of x) xs → NamesAscend name_of xs
      → NamesAscend name_of (insert_item name_of x xs)
  ascends_insert x [] apart sorted = ascends_more x [] tt sorted
  ascends_insert x (y ∷ ys) apart sorted = elim (cases_Bool (is_lt (name_cmp (name_of y) (name_of x)))) [
    | inl t ↦ rw t (
        let P : List ℕ → Type 0 = λ z. name_cmp (name_of y) z ≡ Less in
        ascends_more y (insert_item name_of x ys)
        (each_names P (insert_item name_of x ys) (each_insert (λ z. P (name_of z)) x ys (less_from _ t)
        (names_each P ys (first y ys sorted))))
        (ascends_insert x ys apart.1 (rest y ys sorted)))
    | inr f ↦ rw f (
        let less : name_cmp (name_of x) (name_of y) ≡ Less = above_from (name_of y) (name_of x) f apart.0 in
        ascends_more x (y ∷ ys) (less, above_all (name_of x) (name_of y) (map name_of ys) less (first y ys sorted))
        sorted)
  ]

  pub ascends_put : (x : X) (xs : List X) → NamesAscend name_of xs
      → NamesAscend name_of (insert_item name_of x (without_item name_of (name_of x) xs))
  ascends_put x xs sorted = ascends_insert x (without_item name_of (name_of x) xs) (apart_without (name_of x) xs)
      (ascends_without (name_of x) xs sorted)

  -- ---- two lists are the same where they find the same

  pub same_lists : (xs ys : List X) → NamesAscend name_of xs → NamesAscend name_of ys
      → ((name : List ℕ) → item_at name_of name xs ≡ item_at name_of name ys) → xs ≡ ys
  same_lists [] [] up also found = refl
  same_lists [] (y ∷ ys) up also found = let e : None ≡ Some y = found (name_of y) ∙ item_first y ys in absurd cc
  same_lists (x ∷ xs) [] up also found = let e : Some x ≡ None = sym (item_first x xs) ∙ found (name_of x) in absurd cc
  same_lists (x ∷ xs) (y ∷ ys) up also found = by (name_cmp (name_of x) (name_of y)) refl
      (λ later. same_lists xs ys (rest x xs up) (rest y ys also) later)
    where
      here : item_at name_of (name_of x) (y ∷ ys) ≡ Some x
      here = sym (found (name_of x)) ∙ item_first x xs

      there : item_at name_of (name_of y) (x ∷ xs) ≡ Some y
      there = found (name_of y) ∙ item_first y ys

      tails : name_of x ≡ name_of y → (name : List ℕ) → item_at name_of name xs ≡ item_at name_of name ys
      tails is name = elim (cases_Bool (bytes_eq (name_of x) name)) [
        | inl t ↦
            let named : name_of x ≡ name = same_names (name_of x) name t in
            let one : item_at name_of name xs ≡ None = subst (λ (n : List ℕ). item_at name_of n xs ≡ None) named
            (item_above (name_of x) xs (first x xs up)) in
            let two : item_at name_of name ys ≡ None = subst (λ (n : List ℕ). item_at name_of n ys ≡ None)
            (sym is ∙ named) (item_above (name_of y) ys (first y ys also)) in
            one ∙ sym two
        | inr f ↦
            let g : bytes_eq (name_of y) name ≡ false = ap (λ n. bytes_eq n name) (sym is) ∙ f in
            let one : item_at name_of name (x ∷ xs) ≡ item_at name_of name xs = rw f refl in
            let two : item_at name_of name (y ∷ ys) ≡ item_at name_of name ys = rw g refl in
            sym one ∙ found name ∙ two
      ]

      by : (o : Ordering) → name_cmp (name_of x) (name_of y) ≡ o
          → (((name : List ℕ) → item_at name_of name xs ≡ item_at name_of name ys) → xs ≡ ys) → x ∷ xs ≡ y ∷ ys
      by Less e later = let none : item_at name_of (name_of x) (y ∷ ys) ≡ None =
          item_above (name_of x) (y ∷ ys) (e, above_all (name_of x) (name_of y) (map name_of ys) e (first y ys also)) in
          let no : Some x ≡ None = sym here ∙ none in absurd cc
      by Greater e later =
          let less : name_cmp (name_of y) (name_of x) ≡ Less = greater_less (name_of x) (name_of y) e in
          let none : item_at name_of (name_of y) (x ∷ xs) ≡ None =
          item_above (name_of y) (x ∷ xs) (
            less,
            above_all (name_of y) (name_of x) (map name_of xs) less
                (first x xs up),
          ) in
          let no : Some y ≡ None = sym there ∙ none in absurd cc
      by Equal e later =
          let is : name_of x ≡ name_of y = same_names (name_of x) (name_of y) (tied_names (name_of x) (name_of y) e) in
          let t : bytes_eq (name_of y) (name_of x) ≡ true = eq_names (name_of y) (name_of x) (sym is) in
          let s : Some y ≡ Some x = rw t at here in
          let same : x ≡ y = cc in
          let tail : xs ≡ ys = later (tails is) in
          ap (λ z. z ∷ xs) same ∙ ap (λ zs. y ∷ zs) tail

-- ---- a list mapped to another of the same names

module _ {X Y : Type 0} (name_of : X → List ℕ) (title_of : Y → List ℕ) (f : X → Y)
    (named : (x : X) → title_of (f x) ≡ name_of x) where
  pub names_map : (xs : List X) → map title_of (map f xs) ≡ map name_of xs
  names_map [] = refl
  names_map (x ∷ xs) = ap (λ n. n ∷ map title_of (map f xs)) (named x) ∙ ap (λ ns. name_of x ∷ ns) (names_map xs)

  pub ascends_map : (xs : List X) → NamesAscend name_of xs → NamesAscend title_of (map f xs)
  ascends_map xs sorted = subst (λ (ns : List (List ℕ)). IsStrictlySortedBy name_cmp ns) (sym (names_map xs)) sorted

  pub item_map : (name : List ℕ) (xs : List X) → item_at title_of name (map f xs)
      ≡ option_map f (item_at name_of name xs)
  item_map name [] = refl
  item_map name (x ∷ xs) = rw (ap (λ n. bytes_eq n name) (named x)) (by (bytes_eq (name_of x) name) (item_map name xs))
    where
      by : (b : Bool) → item_at title_of name (map f xs) ≡ option_map f (item_at name_of name xs)
          → cond b (Some (f x)) (item_at title_of name (map f xs))
          ≡ option_map f (cond b (Some x) (item_at name_of name xs))
      by true later = refl
      by false later = later

-- ---- sums over two lists, by their names

abbrev pub weight_of : {Y : Type 0} → (Y → ℕ) → Option Y → ℕ
weight_of g None = 0
weight_of g (Some y) = g y

module _ {Y : Type 0} (title_of : Y → List ℕ) (g : Y → ℕ) where
  sum_without_le : (name : List ℕ) (ys : List Y) → sum_by g (without_item title_of name ys) ≤ sum_by g ys
  sum_without_le name [] = omega arith
  sum_without_le name (y ∷ ys) = elim (cases_Bool (bytes_eq (title_of y) name)) [
    | inl t ↦ rw t (omega (arith, sum_by-cons g y ys, sum_without_le name ys))
    | inr f ↦ rw f (omega (
      arith,
      sum_by-cons g y ys,
      sum_by-cons g y (without_item title_of name ys),
      sum_without_le name ys,
    ))
  ]

  -- an item weighs what its removal takes, at most
  sum_without : (name : List ℕ) (ys : List Y) → weight_of g (item_at title_of name ys)
      + sum_by g (without_item title_of name ys) ≤ sum_by g ys
  sum_without name [] = omega arith
  sum_without name (y ∷ ys) = elim (cases_Bool (bytes_eq (title_of y) name)) [
    | inl t ↦ rw t (omega (arith, sum_by-cons g y ys, sum_without_le name ys))
    | inr f ↦ rw f (omega (
      arith,
      sum_by-cons g y ys,
      sum_by-cons g y (without_item title_of name ys),
      sum_without name ys,
    ))
  ]

  -- what weighs no more name by name weighs no more in all
  pub sum_by_names : {X : Type 0} (name_of : X → List ℕ) (f : X → ℕ) (xs : List X) (ys : List Y)
      → NamesAscend name_of xs
      → ((name : List ℕ) (x : X) → item_at name_of name xs ≡ Some x → f x ≤ weight_of g (item_at title_of name ys))
      → sum_by f xs ≤ sum_by g ys
  sum_by_names name_of f [] ys up found = omega arith
  sum_by_names {X = X} name_of f (x ∷ xs) ys up found =
      let here : f x ≤ weight_of g (item_at title_of (name_of x) ys) = found (name_of x) x (item_first name_of x xs) in
      let later : sum_by f xs ≤ sum_by g (without_item title_of (name_of x) ys) =
      sum_by_names name_of f xs (without_item title_of (name_of x) ys) (rest name_of x xs up) left in
      omega (arith, here, later, sum_by-cons f x xs, sum_without (name_of x) ys)
    where
      left : (name : List ℕ) (z : X) → item_at name_of name xs ≡ Some z
          → f z ≤ weight_of g (item_at title_of name (without_item title_of (name_of x) ys))
      left name z e = elim (cases_Bool (bytes_eq (name_of x) name)) [
        | inl t ↦
            let none : item_at name_of name xs ≡ None = subst (λ (n : List ℕ). item_at name_of n xs ≡ None)
            (same_names (name_of x) name t) (item_above name_of (name_of x) xs (first name_of x xs up)) in
            absurd cc
        | inr h ↦
            let is : item_at title_of name (without_item title_of (name_of x) ys) ≡ item_at title_of name ys =
            item_without title_of name (name_of x) ys ∙ rw h refl in
            rw is (found name z (item_later name_of name x xs z up e))
      ]
