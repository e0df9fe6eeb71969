-- What a change leaves of the entries of other names and of the blocks of all.
use Rattle.std.proofs.Common.{◌≡◌, ◌≢◌, ◌⊎◌, ℕ, zero, suc, ◌<◌, List, [], ◌∷◌, ◌++◌, length, get_or, map, take, Bool}
use Rattle.std.proofs.Common.{true, false, Some, refl, sym, ap, ◌∙◌, subst, arith, inl, inr, ⊎_elim}
use Rattle.std.specs.Prelude.{◌||◌, ◌==◌}
use Rattle.std.specs.List.{All, AllByRecursion, Contains, IsDistinct}
use Rattle.std.specs.Str.{bytes_eq}
use Rattle.std.specs.Ordering.{is_lt}
use Rattle.std.proofs.lemmas.Bool.{cases_Bool}
use Rattle.std.proofs.lemmas.List.{get_or-map, get_or-take, length-map, length-take}
use Rattle.std.proofs.lemmas.List.Folds.{list_any-append}
use Rattle.std.proofs.lemmas.Map.Keys.{apart_from_distinct}
use Rattle.std.proofs.lemmas.Slice.Eq.{bytes_eq-Decides}
use Rattle.disk_model.specs.Orders.{named_in}
use Rattle.block_files.specs.BlockSets.{contains, IsAdded}
use Rattle.index_text.specs.declared.entries.IndexEntry.{IndexEntry}
use Rattle.index_text.specs.Rules.{blocks_of}
use Rattle.per_base.specs.Names.{name_cmp, NamesAscend}
use Rattle.per_base.specs.declared.elements.FileInfo.{FileInfo}
use Rattle.per_base.specs.declared.elements.Change.{Change}
use Rattle.per_base.specs.Changes.{changed_name}
use Rattle.element_state.specs.Changes.{item_at, insert_item, without_item}
use Rattle.element_store.specs.Plans.{HasAll}
use Rattle.element_store.specs.Changing.{named_by, entry_of_name, AreOfOthers, KeepsOthers, IsGrownBy, IsTraced}
use Rattle.element_store.specs.Changing.{touched_entry}
use Rattle.element_store.proofs.InOrder.{eq_names, found_here}
use Rattle.element_store.proofs.Places.{same_default}
use Rattle.element_store.proofs.PlanSteps.{all_front, all_last}
use Rattle.element_store.proofs.Ruled.{has_joined}
use Rattle.element_store.proofs.Taken.{cases_apart, named_at, unnamed}

pub apart_eq : (a b : List ℕ) → a ≢ b → bytes_eq a b ≡ false
apart_eq a b apart = elim (cases_Bool (bytes_eq a b)) [
  | inl t ↦ absurd (apart ((bytes_eq-Decides a b).0 t))
  | inr f ↦
      f
]

-- ---- an item of another name

module _ {X : Type 0} (name_of : X → List ℕ) (n : List ℕ) where
  skipped : (x : X) (xs : List X) → name_of x ≢ n → item_at name_of n (x ∷ xs) ≡ item_at name_of n xs
  skipped x xs apart = rw (apart_eq (name_of x) n apart) refl

  behind : (x : X) (xs ys : List X) → item_at name_of n xs ≡ item_at name_of n ys
      → item_at name_of n (x ∷ xs) ≡ item_at name_of n (x ∷ ys)
  behind x xs ys same = elim (cases_Bool (bytes_eq (name_of x) n)) [ inl t ↦ rw t refl | inr f ↦ rw f same ]

  pub other_without : (name : List ℕ) (xs : List X) → name ≢ n
      → item_at name_of n (without_item name_of name xs) ≡ item_at name_of n xs
  other_without name [] apart = refl
  other_without name (x ∷ xs) apart = elim (cases_Bool (bytes_eq (name_of x) name)) [
    | inl t ↦ rw t (other_without name xs apart ∙ sym (skipped x xs
        (λ e. apart (sym ((bytes_eq-Decides (name_of x) name).0 t) ∙ e))))
    | inr f ↦ rw f (behind x (without_item name_of name xs) xs (other_without name xs apart))
  ]

  pub other_insert : (x : X) (xs : List X) → name_of x ≢ n
      → item_at name_of n (insert_item name_of x xs) ≡ item_at name_of n xs
  other_insert x [] apart = skipped x [] apart
  other_insert x (y ∷ xs) apart = elim (cases_Bool (is_lt (name_cmp (name_of y) (name_of x)))) [
    | inl t ↦ rw t (behind y (insert_item name_of x xs) xs (other_insert x xs apart))
    | inr f ↦ rw f (skipped x (y ∷ xs) apart)
  ]

pub other_touched : (generation : ℕ) (name : List ℕ) (info : FileInfo) (n : List ℕ) (es : List IndexEntry) → name ≢ n
    → entry_of_name n (map (touched_entry generation name info) es) ≡ entry_of_name n es
other_touched generation name info n [] apart = refl
other_touched generation name info n (e ∷ es) apart = elim (cases_Bool (bytes_eq e.name name)) [
  | inl t ↦ rw (t, apart_eq e.name n (λ same. apart (sym ((bytes_eq-Decides e.name name).0 t) ∙ same)))
      (other_touched generation name info n es apart)
  | inr f ↦ rw f (behind named_by n e (map (touched_entry generation name info) es) es
      (other_touched generation name info n es apart))
]

-- ---- blocks and their entries

pub block_entry : (es : List IndexEntry) (b : ℕ) → named_in (blocks_of es) b ≡ true
    → (e : IndexEntry) × Contains es e × (named_in e.blocks b ≡ true)
block_entry [] b is = absurd cc
block_entry (e ∷ es) b is =
    let split : (named_in e.blocks b || named_in (blocks_of es) b) ≡ true =
    sym (list_any-append (λ n. n == b) e.blocks (blocks_of es)) ∙ is in
    elim (cases_Bool (named_in e.blocks b)) [
      | inl t ↦ (e, (0, omega arith, refl), t)
      | inr f ↦ (
          let rest = block_entry es b (subst (λ (t : Bool). (t || named_in (blocks_of es) b) ≡ true) f split) in
          let there = rest.1 in
          (rest.0, (suc there.0, (let lt = there.1 in omega (arith, lt)), there.2), rest.2))
    ]

pub entry_block : (n : List ℕ) (es : List IndexEntry) (e : IndexEntry) (b : ℕ) → entry_of_name n es ≡ Some e
    → named_in e.blocks b ≡ true → named_in (blocks_of es) b ≡ true
entry_block n [] e b found has = absurd cc
entry_block n (x ∷ es) e b found has = elim (cases_Bool (bytes_eq x.name n)) [
  | inl t ↦ (
      let same : Some x ≡ Some e = sym (found_first t) ∙ found in
      let is : x ≡ e = cc in
      joined (ap (λ (y : IndexEntry). named_in y.blocks b) is ∙ has))
  | inr f ↦ after (entry_block n es e b (sym (found_later f) ∙ found) has)
]
  where
    found_first : bytes_eq x.name n ≡ true → entry_of_name n (x ∷ es) ≡ Some x
    found_first t = rw t refl

    found_later : bytes_eq x.name n ≡ false → entry_of_name n (x ∷ es) ≡ entry_of_name n es
    found_later f = rw f refl

    joined : named_in x.blocks b ≡ true → named_in (blocks_of (x ∷ es)) b ≡ true
    joined t = list_any-append (λ k. k == b) x.blocks (blocks_of es)
        ∙ ap (λ (u : Bool). u || named_in (blocks_of es) b) t

    after : named_in (blocks_of es) b ≡ true → named_in (blocks_of (x ∷ es)) b ≡ true
    after t = list_any-append (λ k. k == b) x.blocks (blocks_of es) ∙ ap (λ (u : Bool). named_in x.blocks b || u) t
        ∙ last (named_in x.blocks b)
      where
        last : (u : Bool) → (u || true) ≡ true
        last true = refl
        last false = refl

there_found : (es : List IndexEntry) (e : IndexEntry) → NamesAscend named_by es → Contains es e
    → entry_of_name e.name es ≡ Some e
there_found es e ascend there = found_here named_by e.name es there.0 e ascend there.1
    (λ d. ap named_by (same_default es there.0 d e there.1 ∙ there.2)) (sym there.2)

pub insert_block : (e : IndexEntry) (es : List IndexEntry) (b : ℕ) → named_in e.blocks b ≡ true
    → named_in (blocks_of (insert_item named_by e es)) b ≡ true
insert_block e [] b has = list_any-append (λ k. k == b) e.blocks [] ∙ ap (λ (u : Bool). u || false) has
insert_block e (x ∷ es) b has = elim (cases_Bool (is_lt (name_cmp x.name e.name))) [
  | inl t ↦ rw t (list_any-append (λ k. k == b) x.blocks (blocks_of (insert_item named_by e es))
      ∙ ap (λ (u : Bool). named_in x.blocks b || u) (insert_block e es b has) ∙ last (named_in x.blocks b))
  | inr f ↦ rw f (list_any-append (λ k. k == b) e.blocks (blocks_of (x ∷ es))
      ∙ ap (λ (u : Bool). u || named_in (blocks_of (x ∷ es)) b) has)
]
  where
    last : (u : Bool) → (u || true) ≡ true
    last true = refl
    last false = refl

pub named_held : (set : List Bool) (blocks : List ℕ) (b : ℕ) → HasAll set blocks → named_in blocks b ≡ true
    → contains set b ≡ true
named_held set blocks b all is = ⊎_elim
    (λ found. let (i, lt, at) = found in subst (λ (k : ℕ). contains set k ≡ true) at (all i lt))
    (λ apart. absurd (let e : true ≡ false = sym is ∙ unnamed blocks b apart in cc))
    (cases_apart blocks b)

-- ---- one change

all_one : {X : Type 0} (P : X → Type 0) (x : X) → P x → All P (x ∷ [])
all_one P x is zero d lt = is
all_one P x is (suc k) d lt = absurd (omega (arith, lt))

pub put_others : (c : Change) (e : IndexEntry) (es : List IndexEntry) → e.name ≡ changed_name c
    → KeepsOthers (c ∷ []) es (insert_item named_by e (without_item named_by e.name es))
put_others c e es named n apart =
    let differ : e.name ≢ n = λ same. apart 0 c (omega arith) (sym named ∙ same) in
    other_insert named_by n e (without_item named_by e.name es) differ ∙ other_without named_by n e.name es differ

pub put_grown : (e : IndexEntry) (es : List IndexEntry) (blocks : List ℕ) (old new : List Bool) → e.blocks ≡ blocks
    → IsAdded blocks old new
    → IsGrownBy (insert_item named_by e es) old new
put_grown e es blocks old new there added b is = ⊎_elim
    (λ found. let (i, lt, at) = found in inr (insert_block e es b
    (ap (λ (bs : List ℕ). named_in bs b) there ∙ named_at blocks b i lt at)))
    (λ apart. inl (sym (added.kept b apart) ∙ is))
    (cases_apart blocks b)

pub traced_more : (standing es ns : List IndexEntry) (start old new : List Bool) (done : List Change) (c : Change)
    → AreOfOthers done (changed_name c) → NamesAscend named_by es
    → AllByRecursion (λ (e : IndexEntry). HasAll start e.blocks) standing
    → IsTraced standing start old done es → KeepsOthers (c ∷ []) es ns → IsGrownBy ns old new
    → IsTraced standing start new (done ++ c ∷ []) ns
traced_more standing es ns start old new done c apart ascend taken traced others grown = record {
  others = λ n none. others n (all_one (λ (x : Change). changed_name x ≢ n) c (all_last_of n none))
      ∙ traced.others n (all_front (λ (x : Change). changed_name x ≢ n) done c none);
  grown = λ b is. ⊎_elim (λ was. ⊎_elim (λ s. inl s) (λ n. from_old b n) (traced.grown b was)) (λ n. inr n)
      (grown b is);
}
  where
    all_last_of : (n : List ℕ) → AreOfOthers (done ++ c ∷ []) n → changed_name c ≢ n
    all_last_of n none = all_last (λ (x : Change). changed_name x ≢ n) done c none

    from_old : (b : ℕ) → named_in (blocks_of es) b ≡ true → (contains start b ≡ true) ⊎
        (named_in (blocks_of ns) b ≡ true)
    from_old b n =
        let (e, there, has) = block_entry es b n in
        let found = there_found es e ascend there in
        elim (cases_Bool (bytes_eq e.name (changed_name c))) [
          | inl t ↦ inl (named_held start (blocks_of standing) b (has_joined start standing taken)
              (entry_block (changed_name c) standing e b
              (sym (traced.others (changed_name c) apart) ∙ subst (λ (m : List ℕ). entry_of_name m es ≡ Some e)
              ((bytes_eq-Decides e.name (changed_name c)).0 t) found) has))
          | inr f ↦ inr (entry_block e.name ns e b
              (others e.name (all_one (λ (x : Change). changed_name x ≢ e.name) c
              (λ same. let y : bytes_eq e.name (changed_name c) ≡ true =
              eq_names e.name (changed_name c) (sym same) in let z : true ≡ false = sym y ∙ f in cc)) ∙ found)
              has)
        ]

-- no name comes twice
pub names_apart : (changes : List Change) (i : ℕ) (c : Change) → IsDistinct bytes_eq (map changed_name changes)
    → i < length changes → c ≡ get_or changes i c
    → AreOfOthers (take i changes) (changed_name c)
names_apart changes i c distinct lt is k d less same =
    let before : k < i = (let l = length-take i changes in omega (arith, less, l)) in
    let long = length-map changes changed_name in
    let apart = apart_from_distinct bytes_eq (map changed_name changes) k i [] distinct before (omega (arith, lt, long))
    in
    let one = get_or-map changed_name changes k d [] (omega (arith, before, lt)) in
    let two = get_or-map changed_name changes i c [] lt in
    let here : changed_name (get_or changes k d) ≡ changed_name (get_or changes i c) =
    ap changed_name (sym (get_or-take i changes k d before)) ∙ same ∙ ap changed_name is in
    let t = eq_names (get_or (map changed_name changes) k []) (get_or (map changed_name changes) i [])
    (one ∙ here ∙ sym two) in
    let e : true ≡ false = sym t ∙ apart in
    absurd cc
