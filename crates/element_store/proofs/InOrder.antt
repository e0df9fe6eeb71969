-- Items in the order of their names: searching, putting one in and taking one out.
use Rattle.std.proofs.Common.{◌≡◌, ◌≢◌, ℕ, zero, suc, ◌+◌, ◌<◌, ◌≤◌, true, false, List, [], ◌∷◌, ◌++◌, length, get_or}
use Rattle.std.proofs.Common.{set, map, take, drop, Result, Ok, Err, Some, None, refl, sym, ap, subst, ◌∙◌, inl, inr}
use Rattle.std.proofs.Common.{arith}
use Rattle.std.specs.Fn.{Called, ComputesKey, ReturnsEach}
use denote.Param.Members.{Mut}
use denote.Ref.{Bor}
use Rattle.std.specs.List.{AllByRecursion, AllZip}
use Rattle.std.specs.List.Sorted.{IsStrictlySortedBy, IsSearchInRange, IsBinarySearchResult, IsPartitionPoint}
use Rattle.std.specs.Ordering.{is_lt, is_eq, ordering_reverse}
use Rattle.std.specs.declared.cmp.Ordering.{Ordering}
use Rattle.std.specs.declared.cmp.Ordering.TheVariants.{Less, Equal, Greater}
use Rattle.std.specs.Str.{bytes_eq}
use Rattle.std.proofs.lemmas.Bool.{cases_lt, cases_Bool}
use Rattle.std.proofs.lemmas.Cmp.{nat_list_cmp_total}
use Rattle.std.proofs.lemmas.Map.Text.{is_eq-slice_cmp}
use Rattle.std.proofs.lemmas.Slice.Eq.{bytes_eq-Decides}
use Rattle.std.proofs.lemmas.List.Sorted.{searchable_from_sorted}
use Rattle.per_base.specs.Names.{name_cmp, NamesAscend}
use Rattle.std.specs.Prelude.{cond}
use Rattle.element_state.specs.Changes.{item_at, insert_item, without_item}
use Rattle.element_store.specs.Named.{IsSearchResult}

-- names that differ by their order differ
pub differs : (a b : List ℕ) → name_cmp a b ≢ Equal → bytes_eq a b ≡ false
differs a b apart = sym (is_eq-slice_cmp a b) ∙ not_equal (name_cmp a b) apart
  where
    not_equal : (o : Ordering) → o ≢ Equal → is_eq o ≡ false
    not_equal Less h = refl
    not_equal Equal h = absurd (h refl)
    not_equal Greater h = refl

equal_from : (o : Ordering) → is_eq o ≡ true → o ≡ Equal
equal_from Less e = absurd cc
equal_from Equal e = refl
equal_from Greater e = absurd cc

pub same_names : (a b : List ℕ) → name_cmp a b ≡ Equal → a ≡ b
same_names a b e = (bytes_eq-Decides a b).0 (sym (is_eq-slice_cmp a b) ∙ ap is_eq e)

pub eq_names : (a b : List ℕ) → a ≡ b → bytes_eq a b ≡ true
eq_names a b e = subst (λ (x : List ℕ). bytes_eq a x ≡ true) e (sym (is_eq-slice_cmp a a) ∙ ap is_eq (tied a))
  where
    reversed : (o : Ordering) → o ≡ ordering_reverse o → o ≡ Equal
    reversed Less e = absurd cc
    reversed Equal e = refl
    reversed Greater e = absurd cc

    tied : (x : List ℕ) → name_cmp x x ≡ Equal
    tied x = reversed (name_cmp x x) (nat_list_cmp_total.antisymm x x)

less_is_not_equal : (o : Ordering) → o ≡ Less → o ≢ Equal
less_is_not_equal o less equal = let e : Less ≡ Equal = sym less ∙ equal in cc

greater_is_not_equal : (o : Ordering) → o ≡ Greater → o ≢ Equal
greater_is_not_equal o greater equal = let e : Greater ≡ Equal = sym greater ∙ equal in cc

not_back : (a b : List ℕ) → name_cmp a b ≡ Less → is_lt (name_cmp b a) ≡ false
not_back a b less = rw (nat_list_cmp_total.antisymm b a, less) refl

turned : (a b : List ℕ) → name_cmp a b ≡ Less → name_cmp b a ≡ Greater
turned a b less = rw (nat_list_cmp_total.antisymm b a, less) refl

-- neither below nor equal is above
above_from : (a b : List ℕ) → is_lt (name_cmp a b) ≡ false → name_cmp a b ≢ Equal → name_cmp b a ≡ Less
above_from a b not_less apart = nat_list_cmp_total.antisymm b a ∙ by (name_cmp a b) not_less apart
  where
    by : (o : Ordering) → is_lt o ≡ false → o ≢ Equal → ordering_reverse o ≡ Less
    by Less e h = absurd cc
    by Equal e h = absurd (h refl)
    by Greater e h = refl

less_from : (o : Ordering) → is_lt o ≡ true → o ≡ Less
less_from Less e = refl
less_from Equal e = absurd cc
less_from Greater e = absurd cc

-- a comparison that keeps what it captured answers alike at each call
module _ {F X : Type 0} (g : Mut F (Bor X × Unit {0}) Ordering) (f : F) (order : X → Ordering)
    (each : (a : Bor X × Unit {0}) (r : Ordering) (f' : F) → Called g f a r f' → (r ≡ order a.0.now) × (f' ≡ f)) where
  answers_on : (xs : List (Bor X × Unit {0})) (q : F) → q ≡ f → ReturnsEach g (λ a r. r ≡ order a.0.now) q xs
  answers_on [] q is = tt
  answers_on (a ∷ xs) q is = λ r q' called.
      let P : F → Type 0 = λ p. Called g p a r q' in
      let now = each a r q' (subst P is called) in
      (now.0, answers_on xs q' now.1)

  pub answers_so : ComputesKey g order f
  answers_so = record { at = λ xs. answers_on xs f refl }

module _ {X : Type 0} (name_of : X → List ℕ) where
  -- ---- what ascends

  pub below : (P : List ℕ → Type 0) (xs : List X) → AllByRecursion P (map name_of xs) → (i : ℕ) → i < length xs
      → (d : X) → P (name_of (get_or xs i d))
  below P [] all i lt d = absurd (omega (arith, lt))
  below P (x ∷ xs) all zero lt d = all.0
  below P (x ∷ xs) all (suc i) lt d = below P xs all.1 i (omega (arith, lt)) d

  pub first : (x : X) (xs : List X) → NamesAscend name_of (x ∷ xs)
      → AllByRecursion (λ y. name_cmp (name_of x) y ≡ Less) (map name_of xs)
  unfolding IsStrictlySortedBy
  first x xs sorted = sorted.0

  pub rest : (x : X) (xs : List X) → NamesAscend name_of (x ∷ xs) → NamesAscend name_of xs
  unfolding IsStrictlySortedBy
  rest x xs sorted = sorted.1

  pub ascends_more : (x : X) (xs : List X) → AllByRecursion (λ y. name_cmp (name_of x) y ≡ Less) (map name_of xs)
      → NamesAscend name_of xs → NamesAscend name_of (x ∷ xs)
  unfolding IsStrictlySortedBy
  ascends_more x xs all sorted = (all, sorted)

  rises : (xs : List X) → NamesAscend name_of xs → (k : ℕ) (d : X) → k + 1 < length xs
      → is_lt (name_cmp (name_of (get_or xs (k + 1) d)) (name_of (get_or xs k d))) ≡ false
  rises [] sorted k d lt = absurd (omega (arith, lt))
  rises (a ∷ xs) sorted zero d lt = not_back (name_of a) (name_of (get_or xs 0 d))
      (below (λ y. name_cmp (name_of a) y ≡ Less) xs (first a xs sorted) 0 (omega (arith, lt)) d)
  rises (a ∷ xs) sorted (suc k) d lt =
      let more = rises xs (rest a xs sorted) k d (omega (arith, lt)) in
      let next : suc k + 1 ≡ suc (k + 1) = omega arith in
      rw next more

  -- where a search by halves ends
  pub placed_by : (name : List ℕ) (xs : List X) → NamesAscend name_of xs → (r : Result ℕ ℕ)
      → IsSearchInRange r (length xs)
      → IsBinarySearchResult (λ x. name_cmp (name_of x) name) xs r → IsSearchResult name_of name xs r
  placed_by name xs sorted (Ok i) within equal = (within, λ d. same_names (name_of (get_or xs i d)) name (equal d))
  placed_by name xs sorted (Err i) within parted = (
    within,
    parted (searchable_from_sorted nat_list_cmp_total name_of xs name (λ k d low lt. rises xs sorted k d lt)),
  )

  pub place_moved : (xs ys : List X) (m n : List ℕ) (r : Result ℕ ℕ) → ys ≡ xs → m ≡ n → IsSearchResult name_of m ys r
      → IsSearchResult name_of n xs r
  place_moved xs ys m n r lists is place =
      subst (λ (k : List ℕ). IsSearchResult name_of k xs r) is
      (subst (λ (zs : List X). IsSearchResult name_of m zs r) lists place)

  pub ascends_as : (xs ys : List X) → xs ≡ ys → NamesAscend name_of ys → NamesAscend name_of xs
  ascends_as xs ys e sorted = subst (λ (zs : List X). NamesAscend name_of zs) (sym e) sorted

  -- ---- an item that is there

  abbrev Apart : List ℕ → List X → Type 0
  Apart name xs = (k : ℕ) (d : X) → k < length xs → name_cmp (name_of (get_or xs k d)) name ≢ Equal

  pub without_none : (name : List ℕ) (xs : List X) → Apart name xs → without_item name_of name xs ≡ xs
  without_none name [] apart = refl
  without_none name (x ∷ xs) apart =
      rw (differs (name_of x) name (apart 0 x (omega arith)))
      (ap (λ (ys : List X). x ∷ ys) (without_none name xs (λ k d lt. apart (suc k) d (omega (arith, lt)))))

  -- those after a name are apart from it
  after_first : (x : X) (xs : List X) (name : List ℕ) → NamesAscend name_of (x ∷ xs) → name_of x ≡ name → Apart name xs
  after_first x xs name sorted is k d lt equal =
      let less : name_cmp (name_of x) (name_of (get_or xs k d)) ≡ Less =
      below (λ y. name_cmp (name_of x) y ≡ Less) xs (first x xs sorted) k lt d in
      greater_is_not_equal _ (turned name (name_of (get_or xs k d))
      (subst (λ (n : List ℕ). name_cmp n (name_of (get_or xs k d)) ≡ Less) is less)) equal

  -- the first comes before a later one of the name
  before_later : (x : X) (xs : List X) (name : List ℕ) (i : ℕ) → NamesAscend name_of (x ∷ xs) → i < length xs
      → ((d : X) → name_of (get_or xs i d) ≡ name) → name_cmp (name_of x) name ≡ Less
  before_later x xs name i sorted lt is = subst (λ (n : List ℕ). name_cmp (name_of x) n ≡ Less) (is x)
      (below (λ y. name_cmp (name_of x) y ≡ Less) xs (first x xs sorted) i lt x)

  insert_first : (x : X) (xs : List X) → ((d : X) → 0 < length xs
      → is_lt (name_cmp (name_of (get_or xs 0 d)) (name_of x)) ≡ false) → insert_item name_of x xs ≡ x ∷ xs
  insert_first x [] h = refl
  insert_first x (y ∷ ys) h = rw (h y (omega arith)) refl

  pub put_here : (x : X) (xs : List X) (i : ℕ) → NamesAscend name_of xs → i < length xs
      → ((d : X) → name_of (get_or xs i d) ≡ name_of x)
      → set xs i x ≡ insert_item name_of x (without_item name_of (name_of x) xs)
  put_here x [] i sorted lt is = absurd (omega (arith, lt))
  put_here x (y ∷ ys) zero sorted lt is =
      rw (eq_names (name_of y) (name_of x) (is y)) (sym (ap (insert_item name_of x)
      (without_none (name_of x) ys (after_first y ys (name_of x) sorted (is y))) ∙ insert_first x ys (λ d some.
      not_back (name_of x) (name_of (get_or ys 0 d)) (subst
      (λ (n : List ℕ). name_cmp n (name_of (get_or ys 0 d)) ≡ Less) (is y)
      (below (λ z. name_cmp (name_of y) z ≡ Less) ys (first y ys sorted) 0 some d)))))
  put_here x (y ∷ ys) (suc i) sorted lt is =
      let less : i < length ys = omega (arith, lt) in
      let before = before_later y ys (name_of x) i sorted less is in
      rw (differs (name_of y) (name_of x) (less_is_not_equal _ before))
      (rw (ap is_lt before) (ap (λ (zs : List X). y ∷ zs) (put_here x ys i (rest y ys sorted) less is)))

  pub take_here : (name : List ℕ) (xs : List X) (i : ℕ) → NamesAscend name_of xs → i < length xs
      → ((d : X) → name_of (get_or xs i d) ≡ name)
      → take i xs ++ drop (suc i) xs ≡ without_item name_of name xs
  take_here name [] i sorted lt is = absurd (omega (arith, lt))
  take_here name (y ∷ ys) zero sorted lt is = rw (eq_names (name_of y) name (is y))
      (sym (without_none name ys (after_first y ys name sorted (is y))))
  take_here name (y ∷ ys) (suc i) sorted lt is =
      let less : i < length ys = omega (arith, lt) in
      rw (differs (name_of y) name (less_is_not_equal _ (before_later y ys name i sorted less is)))
      (ap (λ (zs : List X). y ∷ zs) (take_here name ys i (rest y ys sorted) less is))

  -- ---- an item that is not there

  abbrev Parted : List ℕ → List X → ℕ → Type 0
  Parted name xs i = IsPartitionPoint (λ x. name_cmp (name_of x) name ≡ Less) (λ x. name_cmp (name_of x) name ≡ Greater)
      xs i

  pub parted_apart : (name : List ℕ) (xs : List X) (i : ℕ) → Parted name xs i → Apart name xs
  parted_apart name xs i parted k d lt = elim (cases_lt k i) [
    | inl before ↦ less_is_not_equal _ (parted.0 k d (omega arith) before)
    | inr from ↦ greater_is_not_equal _ (parted.1 k d from lt)
  ]

  greater_is_not_less : (o : Ordering) → o ≡ Greater → is_lt o ≡ false
  greater_is_not_less o e = ap is_lt e

  pub put_there : (x : X) (xs : List X) (i : ℕ) → i ≤ length xs → Parted (name_of x) xs i
      → take i xs ++ x ∷ drop i xs ≡ insert_item name_of x xs
  put_there x [] zero le parted = refl
  put_there x [] (suc i) le parted = absurd (omega (arith, le))
  put_there x (y ∷ ys) zero le parted = rw (greater_is_not_less _ (parted.1 0 y (omega arith) (omega arith))) refl
  put_there x (y ∷ ys) (suc i) le parted =
      rw (ap is_lt (parted.0 0 y (omega arith) (omega arith)))
      (ap (λ (zs : List X). y ∷ zs) (put_there x ys i (omega (arith, le)) (
        (λ k d low lt. parted.0 (suc k) d (omega arith) (omega (arith, lt))),
        (λ k d low lt. parted.1 (suc k) d (omega (arith, low)) (omega (arith, lt))),
      )))

  -- ---- an item that is changed in its place

  abbrev Changed : (X → X) → List ℕ → X → X
  Changed t name x = cond (bytes_eq (name_of x) name) (t x) x

  pub touch_none : (t : X → X) (name : List ℕ) (xs : List X) → Apart name xs → xs ≡ map (Changed t name) xs
  touch_none t name [] apart = refl
  touch_none t name (x ∷ xs) apart =
      rw (differs (name_of x) name (apart 0 x (omega arith)))
      (ap (λ (ys : List X). x ∷ ys) (touch_none t name xs (λ k d lt. apart (suc k) d (omega (arith, lt)))))

  pub touch_here : (t : X → X) (name : List ℕ) (xs : List X) (i : ℕ) (d : X) → NamesAscend name_of xs → i < length xs
      → ((e : X) → name_of (get_or xs i e) ≡ name)
      → set xs i (t (get_or xs i d)) ≡ map (Changed t name) xs
  touch_here t name [] i d sorted lt is = absurd (omega (arith, lt))
  touch_here t name (y ∷ ys) zero d sorted lt is =
      rw (eq_names (name_of y) name (is y)) (ap (λ (zs : List X). t y ∷ zs)
      (touch_none t name ys (after_first y ys name sorted (is y))))
  touch_here t name (y ∷ ys) (suc i) d sorted lt is =
      let less : i < length ys = omega (arith, lt) in
      rw (differs (name_of y) name (less_is_not_equal _ (before_later y ys name i sorted less is)))
      (ap (λ (zs : List X). y ∷ zs) (touch_here t name ys i d (rest y ys sorted) less is))

  changed_name : (t : X → X) (name : List ℕ) (x : X) → name_of (t x) ≡ name_of x
      → name_of (Changed t name x) ≡ name_of x
  changed_name t name x same = elim (cases_Bool (bytes_eq (name_of x) name)) [ inl y ↦ rw y same | inr n ↦ rw n refl ]

  changed_names : (t : X → X) → ((x : X) → name_of (t x) ≡ name_of x) → (name : List ℕ) (xs : List X)
      → map name_of (map (Changed t name) xs) ≡ map name_of xs
  changed_names t same name [] = refl
  changed_names t same name (x ∷ xs) =
      ap (λ (n : List ℕ). n ∷ map name_of (map (Changed t name) xs)) (changed_name t name x (same x))
      ∙ ap (λ (ns : List (List ℕ)). name_of x ∷ ns) (changed_names t same name xs)

  pub ascends_touched : (t : X → X) → ((x : X) → name_of (t x) ≡ name_of x) → (name : List ℕ) (xs : List X)
      → NamesAscend name_of xs → NamesAscend name_of (map (Changed t name) xs)
  ascends_touched t same name xs sorted = subst (λ (ns : List (List ℕ)). IsStrictlySortedBy name_cmp ns)
      (sym (changed_names t same name xs)) sorted

  -- the item of a name
  pub found_here : (name : List ℕ) (xs : List X) (i : ℕ) (x : X) → NamesAscend name_of xs → i < length xs
      → ((e : X) → name_of (get_or xs i e) ≡ name)
      → x ≡ get_or xs i x → item_at name_of name xs ≡ Some x
  found_here name [] i x sorted lt is e = absurd (omega (arith, lt))
  found_here name (y ∷ ys) zero x sorted lt is e = rw (eq_names (name_of y) name (is y))
      (ap (λ (z : X). Some z) (sym e))
  found_here name (y ∷ ys) (suc i) x sorted lt is e =
      let less : i < length ys = omega (arith, lt) in
      rw (differs (name_of y) name (less_is_not_equal _ (before_later y ys name i sorted less is)))
      (found_here name ys i x (rest y ys sorted) less is e)

  pub found_none : (name : List ℕ) (xs : List X) → Apart name xs → item_at name_of name xs ≡ None
  found_none name [] apart = refl
  found_none name (x ∷ xs) apart = rw (differs (name_of x) name (apart 0 x (omega arith)))
      (found_none name xs (λ k d lt. apart (suc k) d (omega (arith, lt))))

  -- ---- what holds of each stays so

  pub each_insert : (P : X → Type 0) (x : X) (xs : List X) → P x → AllByRecursion P xs
      → AllByRecursion P (insert_item name_of x xs)
  each_insert P x [] is all = (is, tt)
  each_insert P x (y ∷ ys) is all = elim (cases_Bool (is_lt (name_cmp (name_of y) (name_of x)))) [
    | inl t ↦ rw t (all.0, each_insert P x ys is all.1)
    | inr f ↦ rw f (is, all)
  ]

  pub each_without : (P : X → Type 0) (name : List ℕ) (xs : List X) → AllByRecursion P xs
      → AllByRecursion P (without_item name_of name xs)
  each_without P name [] all = tt
  each_without P name (y ∷ ys) all = elim (cases_Bool (bytes_eq (name_of y) name)) [
    | inl t ↦ rw t (each_without P name ys all.1)
    | inr f ↦ rw f (all.0, each_without P name ys all.1)
  ]

  names_each : (P : List ℕ → Type 0) (xs : List X) → AllByRecursion P (map name_of xs)
      → AllByRecursion (λ x. P (name_of x)) xs
  names_each P [] all = tt
  names_each P (x ∷ xs) all = (all.0, names_each P xs all.1)

  each_names : (P : List ℕ → Type 0) (xs : List X) → AllByRecursion (λ x. P (name_of x)) xs
      → AllByRecursion P (map name_of xs)
  each_names P [] all = tt
  each_names P (x ∷ xs) all = (all.0, each_names P xs all.1)

  pub ascends_without : (name : List ℕ) (xs : List X) → NamesAscend name_of xs
      → NamesAscend name_of (without_item name_of name xs)
  ascends_without name [] sorted = sorted
  ascends_without name (y ∷ ys) sorted = elim (cases_Bool (bytes_eq (name_of y) name)) [
    | inl t ↦ rw t (ascends_without name ys (rest y ys sorted))
    | inr f ↦ rw f (
        let P : List ℕ → Type 0 = λ z. name_cmp (name_of y) z ≡ Less in
        ascends_more y (without_item name_of name ys)
        (each_names P (without_item name_of name ys) (each_without (λ z. P (name_of z)) name ys
        (names_each P ys (first y ys sorted))))
        (ascends_without name ys (rest y ys sorted)))
  ]

  -- none is left of the name
  pub apart_without : (name : List ℕ) (xs : List X) → AllByRecursion (λ (y : X). bytes_eq (name_of y) name ≡ false)
      (without_item name_of name xs)
  apart_without name [] = tt
  apart_without name (y ∷ ys) = elim (cases_Bool (bytes_eq (name_of y) name)) [
    | inl t ↦ rw t (apart_without name ys)
    | inr f ↦ rw f (f, apart_without name ys)
  ]

  not_equal_from : (a b : List ℕ) → bytes_eq a b ≡ false → name_cmp a b ≢ Equal
  not_equal_from a b f e = let t : true ≡ false = sym (sym (is_eq-slice_cmp a b) ∙ ap is_eq e) ∙ f in cc

  below_all : (a b : List ℕ) (xs : List X) → name_cmp a b ≡ Less
      → AllByRecursion (λ y. name_cmp b y ≡ Less) (map name_of xs)
      → AllByRecursion (λ y. name_cmp a y ≡ Less) (map name_of xs)
  below_all a b [] less all = tt
  below_all a b (x ∷ xs) less all = (nat_list_cmp_total.trans a b (name_of x) less all.0, below_all a b xs less all.1)

  pub ascends_insert : (x : X) (xs : List X) → AllByRecursion (λ (y : X). bytes_eq (name_of y) (name_of x) ≡ false) xs
      → NamesAscend name_of xs → NamesAscend name_of (insert_item name_of x xs)
  ascends_insert x [] apart sorted = ascends_more x [] tt sorted
  ascends_insert x (y ∷ ys) apart sorted = elim (cases_Bool (is_lt (name_cmp (name_of y) (name_of x)))) [
    | inl t ↦ rw t (
        let P : List ℕ → Type 0 = λ z. name_cmp (name_of y) z ≡ Less in
        ascends_more y (insert_item name_of x ys)
        (each_names P (insert_item name_of x ys) (each_insert (λ z. P (name_of z)) x ys (less_from _ t)
        (names_each P ys (first y ys sorted))))
        (ascends_insert x ys apart.1 (rest y ys sorted)))
    | inr f ↦ rw f (
        let less = above_from (name_of y) (name_of x) f (not_equal_from (name_of y) (name_of x) apart.0) in
        ascends_more x (y ∷ ys) (less, below_all (name_of x) (name_of y) ys less (first y ys sorted)) sorted)
  ]

  pub ascends_put : (x : X) (xs : List X) → NamesAscend name_of xs
      → NamesAscend name_of (insert_item name_of x (without_item name_of (name_of x) xs))
  ascends_put x xs sorted = ascends_insert x (without_item name_of (name_of x) xs) (apart_without (name_of x) xs)
      (ascends_without (name_of x) xs sorted)

-- ---- two lists of the same names

module _ {X Y : Type 0} (name_of : X → List ℕ) (title_of : Y → List ℕ) (R : X → Y → Type 0)
    (names : (x : X) (y : Y) → R x y → name_of x ≡ title_of y) where
  pub zip_insert : (x : X) (y : Y) (xs : List X) (ys : List Y) → R x y → AllZip R xs ys
      → AllZip R (insert_item name_of x xs) (insert_item title_of y ys)
  zip_insert x y [] [] is zip = (is, tt)
  zip_insert x y [] (b ∷ ys) is zip = absurd zip
  zip_insert x y (a ∷ xs) [] is zip = absurd zip
  zip_insert x y (a ∷ xs) (b ∷ ys) is zip =
      let e : is_lt (name_cmp (title_of b) (title_of y)) ≡ is_lt (name_cmp (name_of a) (name_of x)) =
      ap (λ (n : List ℕ). is_lt (name_cmp n (title_of y))) (sym (names a b zip.0))
      ∙ ap (λ (n : List ℕ). is_lt (name_cmp (name_of a) n)) (sym (names x y is)) in
      elim (cases_Bool (is_lt (name_cmp (name_of a) (name_of x)))) [
        | inl t ↦ rw (t, e ∙ t) (zip.0, zip_insert x y xs ys is zip.1)
        | inr f ↦ rw (f, e ∙ f) (is, zip)
      ]

  pub zip_without : (name : List ℕ) (xs : List X) (ys : List Y) → AllZip R xs ys
      → AllZip R (without_item name_of name xs) (without_item title_of name ys)
  zip_without name [] [] zip = tt
  zip_without name [] (b ∷ ys) zip = absurd zip
  zip_without name (a ∷ xs) [] zip = absurd zip
  zip_without name (a ∷ xs) (b ∷ ys) zip =
      let e : bytes_eq (title_of b) name ≡ bytes_eq (name_of a) name =
      ap (λ (n : List ℕ). bytes_eq n name) (sym (names a b zip.0)) in
      elim (cases_Bool (bytes_eq (name_of a) name)) [
        | inl t ↦ rw (t, e ∙ t) (zip_without name xs ys zip.1)
        | inr f ↦ rw (f, e ∙ f) (zip.0, zip_without name xs ys zip.1)
      ]

  pub zip_names : (xs : List X) (ys : List Y) → AllZip R xs ys → map name_of xs ≡ map title_of ys
  zip_names [] [] zip = refl
  zip_names [] (b ∷ ys) zip = absurd zip
  zip_names (a ∷ xs) [] zip = absurd zip
  zip_names (a ∷ xs) (b ∷ ys) zip = ap (λ (n : List ℕ). n ∷ map name_of xs) (names a b zip.0)
      ∙ ap (λ (ns : List (List ℕ)). title_of b ∷ ns) (zip_names xs ys zip.1)
