-- The index of a plan keeps the rules and fits the storage.
use Rattle.std.proofs.Common.{◌≡◌, ℕ, zero, suc, ◌+◌, ◌-◌, ◌/◌, ◌<◌, ◌≤◌, List, [], ◌∷◌, ◌++◌, length, get_or, Bool}
use Rattle.std.proofs.Common.{true, false, eqb, refl, sym, ap, ◌∙◌, subst, arith, ⊎_elim, length-append, eq-eqb, ne_eqb}
use Rattle.std.specs.Prelude.{map, sum_by, nat_eq, nat_lt, nat_le, IsTrue, ◌&&◌}
use Rattle.std.specs.List.{All, AllZip, AllByRecursion, IsDistinct, list_all}
use Rattle.std.specs.List.Sorted.{IsStrictlySortedBy}
use Rattle.std.proofs.lemmas.Bool.{cases_lt, le-leb, lt-ltb, and_from}
use Rattle.sha2.proofs.Facts256.{length-sha256}
use Rattle.std.proofs.lemmas.List.{get_or_append_left, get_or-append_right, get_or_past}
use Rattle.std.proofs.lemmas.List.Sums.{sum_by-cons}
use Rattle.std.proofs.lemmas.Map.Keys.{apart_from_distinct, IsDistinct-from_apart}
use Rattle.per_base.specs.declared.elements.Fresh.{Fresh}
use Rattle.per_base.specs.declared.elements.StoreKind.{StoreKind}
use Rattle.per_base.specs.declared.elements.StoreKind.TheVariants.{Keys, Files}
use Rattle.per_base.specs.Names.{name_cmp}
use Rattle.per_base.specs.Contents.{blocks_for}
use Rattle.block_files.specs.BlockSets.{contains, AreDistinct}
use Rattle.index_text.specs.declared.entries.IndexEntry.{IndexEntry}
use Rattle.index_text.specs.Rules.{IsEntry, IsIndex, blocks_of, names_of, max_len, has_info}
use Rattle.index_text.specs.Sizes.{size_of, area_blocks, fits}
use Rattle.index_text.specs.Spelling.{store_kind_code}
use Rattle.element_state.specs.declared.shapes.Shape.{Shape}
use Rattle.index_text.specs.Contents.{AreContents, SuitsKind}
use Rattle.element_store.specs.declared.jobs.Job.{Job}
use Rattle.element_store.specs.Plans.{HasAll, AreDisjoint, AreLaidApart, IsWrittenEntry, IsPlanOf, blocks_of_all}
use Rattle.element_store.specs.Spelled.{index_with}
use Rattle.element_store.proofs.PlanSteps.{both_ways}

-- ---- no block twice

distinct_join : (xs ys : List ℕ) → AreDistinct xs → IsDistinct nat_eq ys → AreDisjoint xs ys
    → IsDistinct nat_eq (xs ++ ys)
distinct_join xs ys one two apart = IsDistinct-from_apart nat_eq (xs ++ ys) (λ i j d less lt.
    let long = length-append xs ys in
    ⊎_elim
    (λ j_in. ne_eqb (get_or (xs ++ ys) i d) (get_or (xs ++ ys) j d)
    (λ e. one i j less j_in (sym (left i d (omega (arith, less, j_in))) ∙ e ∙ left j d j_in)))
    (λ j_out. ⊎_elim
    (λ i_in. ne_eqb (get_or (xs ++ ys) i d) (get_or (xs ++ ys) j d)
    (λ e. apart i (j - length xs) i_in (omega (arith, lt, long, j_out))
    (sym (left i d i_in) ∙ e ∙ right j d j_out lt)))
    (λ i_out. subst (λ (a : ℕ). nat_eq a (get_or (xs ++ ys) j d) ≡ false)
    (sym (get_or-append_right xs ys (length xs) i d refl i_out))
    (subst (λ (b : ℕ). nat_eq (get_or ys (i - length xs) d) b ≡ false)
    (sym (get_or-append_right xs ys (length xs) j d refl j_out))
    (apart_from_distinct nat_eq ys (i - length xs) (j - length xs) d two (omega (arith, less, i_out))
    (omega (arith, lt, long, j_out)))))
    (cases_lt i (length xs)))
    (cases_lt j (length xs)))
  where
    same_default : (zs : List ℕ) (i d : ℕ) → i < length zs → get_or zs i d ≡ get_or zs i 0
    same_default (z ∷ zs) zero d lt = refl
    same_default (z ∷ zs) (suc i) d lt = same_default zs i d (omega (arith, lt))
    same_default [] i d lt = absurd (omega (arith, lt))

    left : (i d : ℕ) → i < length xs → get_or (xs ++ ys) i d ≡ get_or xs i 0
    left i d lt = get_or_append_left xs ys d i lt ∙ same_default xs i d lt

    right : (i d : ℕ) → length xs ≤ i → i < length (xs ++ ys) → get_or (xs ++ ys) i d ≡ get_or ys (i - length xs) 0
    right i d out lt = let long = length-append xs ys in
        get_or-append_right xs ys (length xs) i d refl out
        ∙ same_default ys (i - length xs) d (omega (arith, lt, long, out))

disjoint_all : (xs : List ℕ) (es : List IndexEntry) → AllByRecursion (λ (f : IndexEntry). AreDisjoint xs f.blocks) es
    → AreDisjoint xs (blocks_of es)
disjoint_all xs [] all i j lt less same = absurd (omega (arith, less))
disjoint_all xs (e ∷ es) all i j lt less same = ⊎_elim
    (λ inside. all.0 i j lt inside (same ∙ get_or_append_left e.blocks (blocks_of es) 0 j inside))
    (λ out.
    let long = length-append e.blocks (blocks_of es) in
    disjoint_all xs es all.1 i (j - length e.blocks) lt (omega (arith, less, long, out))
    (same ∙ get_or-append_right e.blocks (blocks_of es) (length e.blocks) j 0 refl out))
    (cases_lt j (length e.blocks))

pub laid_distinct : (es : List IndexEntry) → AreLaidApart es → IsDistinct nat_eq (blocks_of es)
laid_distinct [] laid = IsDistinct-from_apart nat_eq [] (λ i j d less lt. absurd (omega (arith, lt)))
laid_distinct (e ∷ es) laid = distinct_join e.blocks (blocks_of es) laid.0 (laid_distinct es laid.2)
    (disjoint_all e.blocks es laid.1)

-- every block is below the capacity
list_all_from : (p : ℕ → Bool) (xs : List ℕ) → ((i : ℕ) → i < length xs → p (get_or xs i 0) ≡ true)
    → list_all p xs ≡ true
list_all_from p [] each = refl
list_all_from p (x ∷ xs) each = and_from (p x) (list_all p xs) (each 0 (omega arith))
    (list_all_from p xs (λ i lt. each (suc i) (omega (arith, lt))))

has_below : (set : List Bool) (b : ℕ) → contains set b ≡ true → b < length set
has_below set b is = ⊎_elim (λ lt. lt) (λ past. absurd (both_ways (contains set b) is (get_or_past set b false past)))
    (cases_lt b (length set))

pub has_joined : (set : List Bool) (es : List IndexEntry) → AllByRecursion (λ (e : IndexEntry). HasAll set e.blocks) es
    → HasAll set (blocks_of es)
has_joined set [] all i lt = absurd (omega (arith, lt))
has_joined set (e ∷ es) all i lt = ⊎_elim
    (λ inside. ap (contains set) (get_or_append_left e.blocks (blocks_of es) 0 i inside) ∙ all.0 i inside)
    (λ out.
    let long = length-append e.blocks (blocks_of es) in
    ap (contains set) (get_or-append_right e.blocks (blocks_of es) (length e.blocks) i 0 refl out)
    ∙ has_joined set es all.1 (i - length e.blocks) (omega (arith, lt, long, out)))
    (cases_lt i (length e.blocks))

pub blocks_below : (set : List Bool) (n : ℕ) (es : List IndexEntry) → length set ≡ n
    → AllByRecursion (λ (e : IndexEntry). HasAll set e.blocks) es
    → list_all (λ b. nat_lt b n) (blocks_of es) ≡ true
blocks_below set n es long all = list_all_from (λ b. nat_lt b n) (blocks_of es) (λ i lt.
    let below = has_below set (get_or (blocks_of es) i 0) (has_joined set es all i lt) in
    lt-ltb (get_or (blocks_of es) i 0) n (omega (arith, below, long)))

-- ---- the index of contents

kind_small : (kind : StoreKind) (n : ℕ) → n ≤ max_len kind → n ≤ 1048576
kind_small Keys n le = omega (arith, le)
kind_small Files n le = omega (arith, le)

pub all_small : (kind : StoreKind) (contents : List Fresh) → AllByRecursion (SuitsKind kind) contents
    → All (λ (f : Fresh). length f.bytes ≤ 1048576) contents
all_small kind [] all k d lt = absurd (omega (arith, lt))
all_small kind (f ∷ fs) all zero d lt = kind_small kind (length f.bytes) all.0.small
all_small kind (f ∷ fs) all (suc k) d lt = all_small kind fs all.1 k d (omega (arith, lt))

module _ (generation : ℕ) (kind : StoreKind) where
  made_rules : (f : Fresh) (e : IndexEntry) → SuitsKind kind f → IsWrittenEntry generation f e → (length e.hash ≡ 32)
      → IsEntry 2 kind e
  made_rules f e fresh made hash = record {
    name = made.named;
    info = subst (λ i. IsTrue (has_info kind i)) (sym made.info) fresh.info;
    changed = refl;
    len = (let a = made.len in let b = fresh.small in omega (arith, a, b));
    hash = hash;
    blocks = made.count ∙ ap blocks_for (sym made.len);
  }

  pub each_rules : (fs : List Fresh) (es : List IndexEntry) → AllByRecursion (SuitsKind kind) fs
      → AllZip (IsWrittenEntry generation) fs es → AllByRecursion (IsEntry 2 kind) es
  each_rules [] [] fresh made = tt
  each_rules [] (e ∷ es) fresh made = absurd made
  each_rules (f ∷ fs) [] fresh made = absurd made
  each_rules (f ∷ fs) (e ∷ es) fresh made =
      (made_rules f e fresh.0 made.0 (ap length made.0.hash ∙ length-sha256 f.bytes), each_rules fs es fresh.1 made.1)

  pub made_names : (fs : List Fresh) (es : List IndexEntry) → AllZip (IsWrittenEntry generation) fs es
      → names_of es ≡ map (λ (f : Fresh). f.name) fs
  made_names [] [] made = refl
  made_names [] (e ∷ es) made = absurd made
  made_names (f ∷ fs) [] made = absurd made
  made_names (f ∷ fs) (e ∷ es) made = ap (λ (n : List ℕ). n ∷ names_of es) made.0.name
      ∙ ap (λ (ns : List (List ℕ)). f.name ∷ ns) (made_names fs es made.1)

  pub made_length : (fs : List Fresh) (es : List IndexEntry) → AllZip (IsWrittenEntry generation) fs es → length es
      ≡ length fs
  made_length [] [] made = refl
  made_length [] (e ∷ es) made = absurd made
  made_length (f ∷ fs) [] made = absurd made
  made_length (f ∷ fs) (e ∷ es) made = ap suc (made_length fs es made.1)

  pub made_size : (fs : List Fresh) (es : List IndexEntry) → AllZip (IsWrittenEntry generation) fs es
      → size_of es ≡ sum_by (λ (f : Fresh). length f.name + length f.bytes) fs
  made_size [] [] made = refl
  made_size [] (e ∷ es) made = absurd made
  made_size (f ∷ fs) [] made = absurd made
  made_size (f ∷ fs) (e ∷ es) made =
      let a = ap length made.0.name in
      let b = made.0.len in
      let rest = made_size fs es made.1 in
      let l = sum_by-cons (λ (x : IndexEntry). length x.name + x.len) e es in
      let r = sum_by-cons (λ (x : Fresh). length x.name + length x.bytes) f fs in
      omega (arith, a, b, rest, l, r)

module _ (shape : Shape) (generation : ℕ) (contents : List Fresh) (start now : List Bool) (entries : List IndexEntry)
    (jobs : List Job)
    (are : AreContents shape.kind shape.allowed contents) (plan : IsPlanOf generation contents start now entries jobs)
  where
    pub plan_rules : IsIndex (index_with shape.kind entries)
    plan_rules = record {
      known_format = refl;
      few = (let a = made_length generation shape.kind contents entries plan.made in let b =
          are.few in omega (arith, a, b));
      each = each_rules generation shape.kind contents entries are.each plan.made;
      names_ascend = subst (λ (ns : List (List ℕ)). IsStrictlySortedBy name_cmp ns)
          (sym (made_names generation shape.kind contents entries plan.made)) are.names_ascend;
      blocks_apart = laid_distinct entries plan.laid;
    }

    pub plan_fits : length start ≡ area_blocks shape.allowed
        → fits shape.kind shape.allowed (index_with shape.kind entries) ≡ true
    plan_fits long =
        let size = made_size generation shape.kind contents entries plan.made in
        let small = are.small in
        and_from (eqb (store_kind_code shape.kind) (store_kind_code shape.kind)
        && nat_le (size_of entries) shape.allowed)
        (list_all (λ b. nat_lt b (area_blocks shape.allowed)) (blocks_of entries))
        (and_from (eqb (store_kind_code shape.kind) (store_kind_code shape.kind))
        (nat_le (size_of entries) shape.allowed)
        (eq-eqb (store_kind_code shape.kind) (store_kind_code shape.kind) refl)
        (le-leb (size_of entries) shape.allowed (omega (arith, size, small))))
        (blocks_below now (area_blocks shape.allowed) entries (plan.capacity ∙ long) plan.taken)

-- ---- blocks never run out

pub blocks_few : (contents : List Fresh) → blocks_of_all contents
    ≤ sum_by (λ (f : Fresh). length f.name + length f.bytes) contents / 256 + length contents
blocks_few [] = omega arith
blocks_few (f ∷ fs) =
    let rest = blocks_few fs in
    let l = sum_by-cons (λ (x : Fresh). blocks_for (length x.bytes)) f fs in
    let r = sum_by-cons (λ (x : Fresh). length x.name + length x.bytes) f fs in
    few (length f.name) (length f.bytes) (sum_by (λ (x : Fresh). length x.name + length x.bytes) fs) (length fs)
    (blocks_of_all fs)
    (blocks_of_all (f ∷ fs)) (sum_by (λ (x : Fresh). length x.name + length x.bytes) (f ∷ fs)) l r rest
  where
    few : (n b s k x y t : ℕ) → y ≡ (b + 255) / 256 + x → t ≡ n + b + s → x ≤ s / 256 + k → y ≤ t / 256 + suc k
    few n b s k x y t l r rest = omega (arith, l, r, rest)

pub blocks_enough : (shape : Shape) (contents : List Fresh) → AreContents shape.kind shape.allowed contents
    → blocks_of_all contents ≤ shape.allowed / 256 + 1024
blocks_enough shape contents are =
    let few = blocks_few contents in
    let a = are.few in
    let b = are.small in
    enough (sum_by (λ (f : Fresh). length f.name + length f.bytes) contents) (length contents) shape.allowed
    (blocks_of_all contents) few a b
  where
    enough : (s k allowed x : ℕ) → x ≤ s / 256 + k → k ≤ 1024 → s ≤ allowed → x ≤ allowed / 256 + 1024
    enough s k allowed x few a b = omega (arith, few, a, b)
