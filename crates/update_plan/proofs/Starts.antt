-- What a storage has at the start keeps the limits of a storage.
use Rattle.std.proofs.Common.{◌≡◌, ℕ, suc, zero, ◌+◌, ◌<◌, ◌≤◌, List, [], ◌∷◌, ◌++◌, length, map, drop, get_or, true}
use Rattle.std.proofs.Common.{Option, Some, None, refl, sym, ap, subst, ◌∙◌, arith, append_assoc, append-nil, inl, inr}
use Rattle.std.specs.Prelude.{◌⊎◌, filter_map, sum_by}
use Rattle.std.proofs.lemmas.List.{drop_all}
use Rattle.std.proofs.lemmas.List.Sums.{sum_by-cons}
use Rattle.std.specs.List.{AllByRecursion, cons_option}
use Rattle.std.specs.List.Sorted.{IsStrictlySortedBy}
use Rattle.std.specs.declared.cmp.Ordering.TheVariants.{Less}
use Rattle.per_base.specs.declared.elements.Cause.{Cause}
use Rattle.per_base.specs.declared.elements.Fresh.{Fresh}
use Rattle.per_base.specs.declared.elements.StoreKind.{StoreKind}
use Rattle.per_base.specs.declared.elements.StoreKind.TheVariants.{Keys, Files}
use Rattle.per_base.specs.Names.{name_cmp}
use Rattle.index_text.specs.Rules.{has_info, max_len}
use Rattle.value_model.specs.Kinds.{Kind}
use Rattle.deployment_model.specs.Conditions.{IsElement, IsInitial, IsStorage, StartsAs, initial_size, start_size}
use Rattle.deployment_model.specs.Data.{ElementData, StorageData}
use Rattle.deployment_model.specs.declared.configs.CollectionStrategy.{CollectionStrategy}
use Rattle.deployment_model.specs.declared.configs.ElementStrategy.{ElementStrategy}
use Rattle.deployment_model.specs.declared.configs.ElementStrategy.TheVariants as own
use Rattle.index_text.specs.Contents.{AreContents, SuitsKind, fresh_size}
use Rattle.update_plan.specs.Rows.{row_by, initial_or, made_info, started, start_of, initial_contents}

-- an item of a list, and what is left from there, as their images
pub item_at : {A B : Type 0} (f : A → B) (xs : List A) (i : ℕ) (x : A) → i < length xs → x ≡ get_or xs i x
    → drop i (map f xs) ≡ f x ∷ drop (suc i) (map f xs)
item_at f [] i x lt e = absurd (omega (arith, lt))
item_at f (y ∷ ys) zero x lt e = ap (λ z. f z ∷ map f ys) (sym e)
item_at f (y ∷ ys) (suc i) x lt e = item_at f ys i x (omega (arith, lt)) e

front : {B : Type 0} (o : Option B) (r : List B) → cons_option o [] ++ r ≡ cons_option o r
front None r = refl
front (Some y) r = refl

-- one item more of what is left
pub filter_next : {A B : Type 0} (f : A → Option B) (xs : List A) (i : ℕ) (x : A) (done longer whole : List B)
    → drop i xs ≡ x ∷ drop (suc i) xs
    → ((y : B) × (f x ≡ Some y) × (longer ≡ done ++ y ∷ [])) ⊎ ((f x ≡ None) × (longer ≡ done))
    → done ++ filter_map f (drop i xs) ≡ whole → longer ++ filter_map f (drop (i + 1) xs) ≡ whole
filter_next f xs i x done longer whole here step known =
    let next : suc i ≡ i + 1 = omega arith in
    let before : done ++ cons_option (f x) (filter_map f (drop (suc i) xs)) ≡ whole =
    ap (λ ys. done ++ filter_map f ys) (sym here) ∙ known in
    ap (λ j. longer ++ filter_map f (drop j xs)) (sym next) ∙ elim step [
      | inl y ↦ ap (λ m. m ++ filter_map f (drop (suc i) xs)) y.2
          ∙ append_assoc done (y.0 ∷ []) (filter_map f (drop (suc i) xs))
          ∙ ap (λ o. done ++ cons_option o (filter_map f (drop (suc i) xs))) (sym y.1) ∙ before
      | inr n ↦ ap (λ m. m ++ filter_map f (drop (suc i) xs)) n.1
          ∙ ap (λ o. done ++ cons_option o (filter_map f (drop (suc i) xs))) (sym n.0) ∙ before
    ]

pub filter_done : {A B : Type 0} (f : A → Option B) (xs : List A) (i : ℕ) (done whole : List B) → length xs ≤ i
    → done ++ filter_map f (drop i xs) ≡ whole → done ≡ whole
filter_done f xs i done whole past known = sym (append-nil done)
    ∙ ap (λ ys. done ++ filter_map f ys) (sym (drop_all i xs past)) ∙ known

-- ---- what one element starts with

pub record Starts (kind : StoreKind) (name : List ℕ) (initial : Option (List ℕ)) (x : Fresh) : Type 0 where
  pub named : x.name ≡ name
  pub fresh : SuitsKind kind x
  pub small : fresh_size x ≤ start_size name initial

abbrev pub StartsWith : StoreKind → List ℕ → Option (List ℕ) → Option Fresh → Type 0
StartsWith kind name initial None = Unit {0}
StartsWith kind name initial (Some x) = Starts kind name initial x

le-refl : (n : ℕ) → n ≤ n
le-refl n = omega arith

initial_small : (kind : StoreKind) (t : Option Kind) (bytes : List ℕ) → IsInitial kind t bytes
    → length bytes ≤ max_len kind
initial_small Keys None bytes h = absurd h
initial_small Keys (Some k) bytes h = subst (λ b. length b ≤ 65536) (sym h.encoded) h.is_value.short
initial_small Files t bytes h = h

info_made : (kind : StoreKind) (cause : Cause) (now : ℕ) → has_info kind (made_info kind cause now) ≡ true
info_made Keys cause now = refl
info_made Files cause now = refl

pub given : (kind : StoreKind) (cause : Cause) (now : ℕ) (name : List ℕ) (t : Option Kind) (initial : Option (List ℕ))
    → StartsAs kind t initial
    → StartsWith kind name initial (started kind cause now name (initial_or initial))
given kind cause now name t None h = tt
given kind cause now name t (Some bytes) h = record {
  named = refl;
  fresh = record { info = info_made kind cause now; small = initial_small kind t bytes h };
  small = le-refl (length name + length bytes);
}

by_strategy : (kind : StoreKind) (cause : Cause) (now : ℕ) (name : List ℕ) (t : Option Kind) (initial : Option (List ℕ))
    (c : CollectionStrategy) (strategy : Option ElementStrategy) → StartsAs kind t initial
    → StartsWith kind name initial (started kind cause now name (row_by strategy c initial None))
by_strategy kind cause now name t initial c (Some own.Delete) h = tt
by_strategy kind cause now name t initial c (Some own.Overwrite) h = given kind cause now name t initial h
by_strategy kind cause now name t initial c (Some own.KeepExisting) h = given kind cause now name t initial h
by_strategy kind cause now name t initial c None h = given kind cause now name t initial h

-- ---- what all start with

module _ (kind : StoreKind) (f : ElementData → Option Fresh)
    (starts : (e : ElementData) → IsElement kind e → StartsWith kind e.name e.initial (f e)) where
  each_fresh : (es : List ElementData) → AllByRecursion (IsElement kind) es
      → AllByRecursion (SuitsKind kind) (filter_map f es)
  each_fresh [] h = tt
  each_fresh (e ∷ es) h = elim (f e) as (λ o. StartsWith kind e.name e.initial o
      → AllByRecursion (SuitsKind kind) (cons_option o (filter_map f es))) [
        | None ↦ λ s. each_fresh es h.1
        | Some x ↦ λ s. (s.fresh, each_fresh es h.1)
      ] (starts e h.0)

  below : (n : List ℕ) (es : List ElementData) → AllByRecursion (IsElement kind) es
      → AllByRecursion (λ y. name_cmp n y ≡ Less) (map (λ (e : ElementData). e.name) es)
      → AllByRecursion (λ y. name_cmp n y ≡ Less) (map (λ (x : Fresh). x.name) (filter_map f es))
  below n [] h less = tt
  below n (e ∷ es) h less = elim (f e) as (λ o. StartsWith kind e.name e.initial o
      → AllByRecursion (λ y. name_cmp n y ≡ Less) (map (λ (x : Fresh). x.name) (cons_option o (filter_map f es)))) [
        | None ↦ λ s. below n es h.1 less.1
        | Some x ↦ λ s. (subst (λ y. name_cmp n y ≡ Less) (sym s.named) less.0, below n es h.1 less.1)
      ] (starts e h.0)

  ascend : (es : List ElementData) → AllByRecursion (IsElement kind) es
      → IsStrictlySortedBy name_cmp (map (λ (e : ElementData). e.name) es)
      → IsStrictlySortedBy name_cmp (map (λ (x : Fresh). x.name) (filter_map f es))
  unfolding IsStrictlySortedBy
  ascend [] h sorted = tt
  ascend (e ∷ es) h sorted = elim (f e) as (λ o. StartsWith kind e.name e.initial o
      → IsStrictlySortedBy name_cmp (map (λ (x : Fresh). x.name) (cons_option o (filter_map f es)))) [
        | None ↦ λ s. ascend es h.1 sorted.1
        | Some x ↦ λ s. (
          subst (λ n. AllByRecursion (λ y. name_cmp n y ≡ Less)
              (map (λ (z : Fresh). z.name) (filter_map f es))) (sym s.named) (below e.name es h.1 sorted.0),
          ascend es h.1 sorted.1,
        )
      ] (starts e h.0)

  counts : (es : List ElementData) → length (filter_map f es) ≤ length es
  counts [] = omega arith
  counts (e ∷ es) =
      let rest = counts es in
      elim (f e) as (λ o. length (cons_option o (filter_map f es)) ≤ suc (length es)) [
        | None ↦ omega (arith, rest)
        | Some x ↦ omega (arith, rest)
      ]

  sizes : (es : List ElementData) → AllByRecursion (IsElement kind) es
      → sum_by fresh_size (filter_map f es) ≤ sum_by initial_size es
  sizes [] h = omega arith
  sizes (e ∷ es) h =
      let rest = sizes es h.1 in
      let more : sum_by initial_size (e ∷ es) ≡ initial_size e + sum_by initial_size es =
      sum_by-cons initial_size e es in
      subst (λ n. sum_by fresh_size (cons_option (f e) (filter_map f es)) ≤ n) (sym more)
      (with_first e (filter_map f es) (f e) (sum_by initial_size es) (starts e h.0) rest)
    where
      with_first : (e : ElementData) (xs : List Fresh) (o : Option Fresh) (n : ℕ) → StartsWith kind e.name e.initial o
          → sum_by fresh_size xs ≤ n → sum_by fresh_size (cons_option o xs) ≤ initial_size e + n
      with_first e xs None n s le = omega (arith, le)
      with_first e xs (Some x) n s le = let first = sum_by-cons fresh_size x xs in let small =
          s.small in omega (arith, le, first, small)

pub starts_within : (s : StorageData) (cause : Cause) (now : ℕ) → IsStorage s
    → AreContents s.kind s.maximum (initial_contents s cause now)
starts_within s cause now h =
    let starts : (e : ElementData) → IsElement s.kind e → StartsWith s.kind e.name e.initial (start_of s cause now e) =
    λ e k. by_strategy s.kind cause now e.name e.value_type e.initial s.strategy e.strategy k.initial in
    let few = counts s.kind (start_of s cause now) starts s.elements in
    let small = sizes s.kind (start_of s cause now) starts s.elements h.each in
    record {
      each = each_fresh s.kind (start_of s cause now) starts s.elements h.each;
      names_ascend = ascend s.kind (start_of s cause now) starts s.elements h.each h.ascends;
      few = omega (arith, few, h.few);
      small = omega (arith, small, h.fits);
    }
