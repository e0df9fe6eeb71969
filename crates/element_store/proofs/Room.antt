-- The blocks that changes take at most, beside those of what comes of them.
use Rattle.std.proofs.Common.{◌≡◌, ℕ, suc, ◌+◌, ◌/◌, ◌≤◌, List, [], ◌∷◌, length, map, Bool, true, false, refl, sym, ap}
use Rattle.std.proofs.Common.{◌∙◌, inl, inr, arith}
use Rattle.std.specs.Prelude.{sum_by, cond, ◌||◌}
use Rattle.std.specs.List.{AllByRecursion, IsDistinct}
use Rattle.std.specs.Str.{bytes_eq}
use Rattle.std.specs.Ordering.{is_lt}
use Rattle.std.proofs.lemmas.Bool.{cases_Bool}
use Rattle.std.proofs.lemmas.List.Sums.{sum_by-cons}
use Rattle.std.proofs.lemmas.Slice.Eq.{bytes_eq-Decides}
use Rattle.per_base.specs.declared.elements.Entry.{Entry}
use Rattle.per_base.specs.declared.elements.FileInfo.{FileInfo}
use Rattle.per_base.specs.Names.{name_cmp}
use Rattle.per_base.specs.declared.elements.Change.{Change}
use Rattle.per_base.specs.declared.elements.Change.TheVariants.{Put, Remove, Touch}
use Rattle.per_base.specs.Changes.{changed_name}
use Rattle.per_base.specs.Contents.{blocks_for}
use Rattle.element_state.specs.declared.shapes.Shape.{Shape}
use Rattle.element_state.specs.declared.shapes.View.{View}
use Rattle.element_state.specs.Changes.{insert_item, without_item, entry_name, touched, after_change, after_changes}
use Rattle.element_state.specs.Conditions.{AreCommittable, size_of}
use Rattle.element_state.specs.States.{fresh_entry, fresh_element}
use Rattle.element_store.specs.Changing.{change_blocks, blocks_of_changes}
use Rattle.element_store.proofs.InOrder.{eq_names}

-- the blocks of the elements whose names pass
abbrev weight : (List ℕ → Bool) → Entry → ℕ
weight p f = cond (p f.name) (blocks_for f.len) 0

abbrev weights : (List ℕ → Bool) → List Entry → ℕ
weights p fs = sum_by (weight p) fs

abbrev or_named : List ℕ → (List ℕ → Bool) → List ℕ → Bool
or_named name p n = bytes_eq n name || p n

weights_insert : (p : List ℕ → Bool) (f : Entry) (fs : List Entry)
    → weights p (insert_item entry_name f fs) ≡ weight p f + weights p fs
weights_insert p f [] = sum_by-cons (weight p) f []
weights_insert p f (g ∷ fs) = elim (cases_Bool (is_lt (name_cmp g.name f.name))) [
  | inl t ↦ rw t (let a = sum_by-cons (weight p) g (insert_item entry_name f fs) in let b =
      weights_insert p f fs in let c = sum_by-cons (weight p) g fs in omega (arith, a, b, c))
  | inr n ↦ rw n (sum_by-cons (weight p) f (g ∷ fs))
]

-- those of a name that does not pass weigh nothing
weights_without : (p : List ℕ → Bool) (name : List ℕ) (fs : List Entry) → p name ≡ false
    → weights p (without_item entry_name name fs) ≡ weights p fs
weights_without p name [] none = refl
weights_without p name (g ∷ fs) none = elim (cases_Bool (bytes_eq g.name name)) [
  | inl t ↦ rw t (
      let w : weight p g ≡ 0 = ap (λ (b : Bool). cond b (blocks_for g.len) 0)
      (ap p ((bytes_eq-Decides g.name name).0 t) ∙ none) in
      let a = weights_without p name fs none in
      let c = sum_by-cons (weight p) g fs in
      omega (arith, w, a, c))
  | inr n ↦ rw n (let a = weights_without p name fs none in let b =
      sum_by-cons (weight p) g (without_item entry_name name fs) in let c =
      sum_by-cons (weight p) g fs in omega (arith, a, b, c))
]

weight_more : (p : List ℕ → Bool) (name : List ℕ) (f : Entry) → weight p f ≤ weight (or_named name p) f
weight_more p name f = elim (cases_Bool (bytes_eq f.name name)) [
  | inl t ↦ rw t (at_most (p f.name) (blocks_for f.len))
  | inr n ↦ rw n (omega arith)
]
  where
    at_most : (b : Bool) (n : ℕ) → cond b n 0 ≤ n
    at_most true n = omega arith
    at_most false n = omega arith

weights_more : (p : List ℕ → Bool) (name : List ℕ) (fs : List Entry) → weights p fs ≤ weights (or_named name p) fs
weights_more p name [] = omega arith
weights_more p name (f ∷ fs) =
    let a = weight_more p name f in
    let b = weights_more p name fs in
    let c = sum_by-cons (weight p) f fs in
    let d = sum_by-cons (weight (or_named name p)) f fs in
    omega (arith, a, b, c, d)

weight_touched : (p : List ℕ → Bool) (generation : ℕ) (name : List ℕ) (info : FileInfo) (f : Entry)
    → weight p (touched generation name info f) ≡ weight p f
weight_touched p generation name info f = elim (cases_Bool (bytes_eq f.name name))
    [ inl t ↦ rw t refl | inr n ↦ rw n refl ]

weights_touched : (p : List ℕ → Bool) (generation : ℕ) (name : List ℕ) (info : FileInfo) (fs : List Entry)
    → weights p (map (touched generation name info) fs) ≡ weights p fs
weights_touched p generation name info [] = refl
weights_touched p generation name info (f ∷ fs) =
    let a = weight_touched p generation name info f in
    let b = weights_touched p generation name info fs in
    let c = sum_by-cons (weight p) f fs in
    let d = sum_by-cons (weight p) (touched generation name info f) (map (touched generation name info) fs) in
    omega (arith, a, b, c, d)

-- a change adds at most its blocks to those of the names that were changed
one_more : (p : List ℕ → Bool) (generation : ℕ) (fs : List Entry) (change : Change) → p (changed_name change) ≡ false
    → weights p fs + change_blocks change ≤ weights (or_named (changed_name change) p)
    (after_change generation fs change)
one_more p generation fs (Put f) none =
    let q : List ℕ → Bool = or_named f.name p in
    let new = fresh_entry generation (fresh_element f) in
    let a = weights_insert (or_named f.name p) (fresh_entry generation (fresh_element f))
    (without_item entry_name f.name fs) in
    let b = weights_more p f.name (without_item entry_name f.name fs) in
    let c = weights_without p f.name fs none in
    let w : weight (or_named f.name p) (fresh_entry generation (fresh_element f)) ≡ blocks_for (length f.bytes) =
    ap (λ (b : Bool). cond (b || p f.name) (blocks_for (length f.bytes)) 0) (eq_names f.name f.name refl) in
    omega (arith, a, b, c, w)
one_more p generation fs (Remove name) none =
    let b = weights_more p name (without_item entry_name name fs) in
    let c = weights_without p name fs none in
    omega (arith, b, c)
one_more p generation fs (Touch name info) none =
    let b = weights_more p name (map (touched generation name info) fs) in
    let c = weights_touched p generation name info fs in
    omega (arith, b, c)

-- the changes that are left have none of the names that were changed
abbrev AreLeft : (List ℕ → Bool) → List Change → Type 0
AreLeft p changes = AllByRecursion (λ (c : Change). p (changed_name c) ≡ false) changes

left_more : (p : List ℕ → Bool) (name : List ℕ) (changes : List Change)
    → AllByRecursion (λ (m : List ℕ). bytes_eq name m ≡ false) (map changed_name changes) → AreLeft p changes
    → AreLeft (or_named name p) changes
left_more p name [] apart left = tt
left_more p name (c ∷ changes) apart left = (
  both (bytes_eq (changed_name c) name) (p (changed_name c))
      (turned (changed_name c) name apart.0) left.0,
  left_more p name changes apart.1 left.1,
)
  where
    both : (a b : Bool) → a ≡ false → b ≡ false → (a || b) ≡ false
    both a b one two = rw (one, two) refl

    turned : (m n : List ℕ) → bytes_eq n m ≡ false → bytes_eq m n ≡ false
    turned m n isnt = elim (cases_Bool (bytes_eq m n)) [
      | inl t ↦ (let y : bytes_eq n m ≡ true = eq_names n m (sym ((bytes_eq-Decides m n).0 t)) in cc)
      | inr f ↦ f
    ]

weights_all : (p : List ℕ → Bool) (fs : List Entry) → weights p fs ≤ sum_by (λ (f : Entry). blocks_for f.len) fs
weights_all p [] = omega arith
weights_all p (f ∷ fs) =
    let a = at_most (p f.name) (blocks_for f.len) in
    let b = weights_all p fs in
    let c = sum_by-cons (weight p) f fs in
    let d = sum_by-cons (λ (g : Entry). blocks_for g.len) f fs in
    omega (arith, a, b, c, d)
  where
    at_most : (b : Bool) (n : ℕ) → cond b n 0 ≤ n
    at_most true n = omega arith
    at_most false n = omega arith

all_more : (p : List ℕ → Bool) (generation : ℕ) (fs : List Entry) (changes : List Change)
    → IsDistinct bytes_eq (map changed_name changes) → AreLeft p changes
    → weights p fs + blocks_of_changes changes ≤ sum_by (λ (f : Entry). blocks_for f.len)
    (after_changes generation fs changes)
unfolding IsDistinct
all_more p generation fs [] apart left = let a = weights_all p fs in omega (arith, a)
all_more p generation fs (c ∷ changes) apart left =
    let a = one_more p generation fs c left.0 in
    let b = all_more (or_named (changed_name c) p) generation (after_change generation fs c) changes apart.1
    (left_more p (changed_name c) changes apart.0 left.1) in
    let d = sum_by-cons change_blocks c changes in
    omega (arith, a, b, d)

few_blocks : (fs : List Entry) → sum_by (λ (f : Entry). blocks_for f.len) fs ≤ size_of fs / 256 + length fs
few_blocks [] = omega arith
few_blocks (f ∷ fs) =
    let rest = few_blocks fs in
    let l = sum_by-cons (λ (x : Entry). blocks_for x.len) f fs in
    let r = sum_by-cons (λ (x : Entry). length x.name + x.len) f fs in
    few (length f.name) f.len (size_of fs) (length fs) (sum_by (λ (x : Entry). blocks_for x.len) fs)
    (sum_by (λ (x : Entry). blocks_for x.len) (f ∷ fs)) (size_of (f ∷ fs)) l r rest
  where
    few : (n b s k x y t : ℕ) → y ≡ (b + 255) / 256 + x → t ≡ n + b + s → x ≤ s / 256 + k → y ≤ t / 256 + suc k
    few n b s k x y t l r rest = omega (arith, l, r, rest)

none_left : (changes : List Change) → AreLeft (λ (n : List ℕ). false) changes
none_left [] = tt
none_left (c ∷ changes) = (refl, none_left changes)

-- what changes put takes no more blocks than a storage of the allowed size
pub changes_fit : (shape : Shape) (v : View) (changes : List Change) → AreCommittable shape v changes
    → blocks_of_changes changes ≤ shape.allowed / 256 + 1024
changes_fit shape v changes are =
    let after = after_changes (v.generation + 1) v.entries changes in
    let a = all_more (λ (n : List ℕ). false) (v.generation + 1) v.entries changes are.names_apart (none_left changes) in
    let b = few_blocks (after_changes (v.generation + 1) v.entries changes) in
    let c = are.few in
    let d = are.small in
    enough (size_of (after_changes (v.generation + 1) v.entries changes))
    (length (after_changes (v.generation + 1) v.entries changes)) shape.allowed (blocks_of_changes changes)
    (sum_by (λ (f : Entry). blocks_for f.len) (after_changes (v.generation + 1) v.entries changes))
    (weights (λ (n : List ℕ). false) v.entries) a b c d
  where
    enough : (s k allowed x y w : ℕ) → w + x ≤ y → y ≤ s / 256 + k → k ≤ 1024 → s ≤ allowed → x ≤ allowed / 256 + 1024
    enough s k allowed x y w a b c d = omega (arith, a, b, c, d)
