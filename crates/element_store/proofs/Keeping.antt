-- States of the hasher that are kept, and what changes leave of them.
use Rattle.std.proofs.Common.{◌≡◌, ◌≢◌, ℕ, zero, suc, ◌+◌, ◌<◌, List, [], ◌∷◌, ◌++◌, length, get_or, map, take}
use Rattle.std.proofs.Common.{drop, Vec, Global, Some}
use Rattle.std.proofs.Common.{true, false, refl, sym, ap, ◌∙◌, subst, arith, inl, inr}
use Rattle.std.specs.Prelude.{filter, not}
use Rattle.std.specs.List.{All, AllByRecursion, AllZip}
use Rattle.std.specs.Str.{bytes_eq}
use Rattle.std.specs.Ordering.{is_lt}
use Rattle.std.proofs.lemmas.Bool.{cases_Bool}
use Rattle.std.proofs.lemmas.List.{take_more}
use Rattle.per_base.specs.Names.{name_cmp}
use Rattle.per_base.specs.declared.elements.Content.TheVariants.{Good}
use Rattle.per_base.specs.declared.elements.Entry.{Entry}
use Rattle.per_base.specs.declared.elements.FileInfo.{FileInfo}
use Rattle.per_base.specs.declared.elements.Fresh.{Fresh}
use Rattle.per_base.specs.declared.elements.Change.{Change}
use Rattle.per_base.specs.declared.elements.Change.TheVariants.{Put}
use Rattle.element_state.specs.Changes.{item_at, insert_item, without_item, entry_name, entry_by_name, after_change}
use Rattle.element_state.specs.Changes.{touched}
use Rattle.element_state.specs.Changes.{after_changes}
use Rattle.element_state.specs.States.{fresh_entry, fresh_element}
use Rattle.block_files.specs.declared.hashing.Hashed.{Hashed}
use Rattle.element_store.specs.declared.hashing.KeptStates.{KeptStates}
use Rattle.block_files.specs.States.{AreStatesOf}
use Rattle.element_store.specs.Hashing.{AreOfElement}
use Rattle.element_store.proofs.InOrder.{eq_names, apart_without}
use Rattle.element_store.proofs.Places.{fold_push}
use Rattle.element_store.proofs.Traced.{other_without, other_insert}

pub none_kept_of : (entries : List Entry) (kept : Vec KeptStates Global) → kept.items ≡ []
    → All (AreOfElement entries) kept.items
none_kept_of entries kept none k d lt = absurd (let l = ap length none in omega (arith, lt, l))

-- ---- the entry of a name

inserted_here : {X : Type 0} (name_of : X → List ℕ) (x : X) (xs : List X)
    → AllByRecursion (λ (y : X). bytes_eq (name_of y) (name_of x) ≡ false) xs
    → item_at name_of (name_of x) (insert_item name_of x xs) ≡ Some x
inserted_here name_of x [] apart = rw (eq_names (name_of x) (name_of x) refl) refl
inserted_here name_of x (y ∷ ys) apart = elim (cases_Bool (is_lt (name_cmp (name_of y) (name_of x)))) [
  | inl t ↦ rw t (rw apart.0 (inserted_here name_of x ys apart.1))
  | inr f ↦ rw f (rw (eq_names (name_of x) (name_of x) refl) refl)
]

-- an entry with another info has the content that it had
touched_content : (generation : ℕ) (name : List ℕ) (info : FileInfo) (n : List ℕ) (es : List Entry) (f : Entry)
    → entry_by_name n (map (touched generation name info) es) ≡ Some f
    → (was : Entry) × (entry_by_name n es ≡ Some was) × (was.content ≡ f.content)
touched_content generation name info n [] f found = absurd cc
touched_content generation name info n (e ∷ es) f found = elim (cases_Bool (bytes_eq e.name n)) [
  | inl t ↦ (
      let one : Some (touched generation name info e) ≡ Some f = sym (first_touched t) ∙ found in
      let same : touched generation name info e ≡ f = cc in
      (e, first t, sym same_content ∙ ap (λ (x : Entry). x.content) same))
  | inr other ↦ (
      let rest = touched_content generation name info n es f (sym (later other) ∙ found) in
      (rest.0, skipped other ∙ rest.1, rest.2))
]
  where
    same_content : (touched generation name info e).content ≡ e.content
    same_content = elim (cases_Bool (bytes_eq e.name name)) [ inl t ↦ rw t refl | inr other ↦ rw other refl ]

    first : bytes_eq e.name n ≡ true → entry_by_name n (e ∷ es) ≡ Some e
    first t = rw t refl

    skipped : bytes_eq e.name n ≡ false → entry_by_name n (e ∷ es) ≡ entry_by_name n es
    skipped other = rw other refl

    first_touched : bytes_eq e.name n ≡ true
        → entry_by_name n (map (touched generation name info) (e ∷ es)) ≡ Some (touched generation name info e)
    first_touched t =
        elim (cases_Bool (bytes_eq e.name name)) [ inl y ↦ rw (y, t) refl | inr other ↦ rw (other, t) refl ]

    later : bytes_eq e.name n ≡ false → entry_by_name n (map (touched generation name info) (e ∷ es))
        ≡ entry_by_name n (map (touched generation name info) es)
    later f = elim (cases_Bool (bytes_eq e.name name)) [ inl y ↦ rw (y, f) refl | inr other ↦ rw (other, f) refl ]

-- ---- one change

pub kept_put : (generation : ℕ) (es : List Entry) (f : Fresh) (k : KeptStates) → k.name ≡ f.name
    → AreStatesOf f.bytes k.states.items → AreOfElement (after_change generation es (Put f)) k
kept_put generation es f k named states e bytes found content =
    let here = inserted_here entry_name (fresh_entry generation (fresh_element f))
    (without_item entry_name f.name es) (apart_without entry_name f.name es) in
    let there = subst (λ (n : List ℕ). entry_by_name n (after_change generation es (Put f)) ≡ Some e) named found in
    let one : Some (fresh_entry generation (fresh_element f)) ≡ Some e = sym here ∙ there in
    let same : fresh_entry generation (fresh_element f) ≡ e = cc in
    let all : Good f.bytes ≡ Good bytes = ap (λ (x : Entry). x.content) same ∙ content in
    let is : f.bytes ≡ bytes = cc in
    subst (λ (bs : List ℕ). AreStatesOf bs k.states.items) is states

kept_beside : (generation : ℕ) (es : List Entry) (f : Fresh) (k : KeptStates) → k.name ≢ f.name → AreOfElement es k
    → AreOfElement (after_change generation es (Put f)) k
kept_beside generation es f k apart kept e bytes found content =
    let same = other_insert entry_name k.name (fresh_entry generation (fresh_element f))
    (without_item entry_name f.name es) (λ s. apart (sym s))
    ∙ other_without entry_name k.name f.name es (λ s. apart (sym s)) in
    kept e bytes (sym same ∙ found) content

kept_without : (name : List ℕ) (es : List Entry) (k : KeptStates) → k.name ≢ name → AreOfElement es k
    → AreOfElement (without_item entry_name name es) k
kept_without name es k apart kept e bytes found content =
    kept e bytes (sym (other_without entry_name k.name name es (λ s. apart (sym s))) ∙ found) content

kept_touched : (generation : ℕ) (name : List ℕ) (info : FileInfo) (es : List Entry) (k : KeptStates)
    → AreOfElement es k → AreOfElement (map (touched generation name info) es) k
kept_touched generation name info es k kept e bytes found content =
    let was = touched_content generation name info k.name es e found in
    kept was.0 bytes was.1 (was.2 ∙ content)

-- ---- all that are kept

all_more : (P : KeptStates → Type 0) (k : KeptStates) (ks : List KeptStates) → P k → All P ks → All P (k ∷ ks)
all_more P k ks is all zero d lt = is
all_more P k ks is all (suc i) d lt = all i d (omega (arith, lt))

forgotten : (P Q : KeptStates → Type 0) (name : List ℕ) (ks : List KeptStates)
    → ((k : KeptStates) → k.name ≢ name → P k → Q k)
    → All P ks → All Q (filter (λ (k : KeptStates). not (bytes_eq k.name name)) ks)
forgotten P Q name [] to all = λ i d lt. absurd (omega (arith, lt))
forgotten P Q name (k ∷ ks) to all =
    let rest = forgotten P Q name ks to (λ i d lt. all (suc i) d (omega (arith, lt))) in
    elim (cases_Bool (bytes_eq k.name name)) [
      | inl t ↦ rw t rest
      | inr f ↦ rw f (all_more Q k _ (to k (λ same. apart same f) (all 0 k (omega arith))) rest)
    ]
  where
    apart : k.name ≡ name → bytes_eq k.name name ≡ false → ⊥
    apart same f = let e : true ≡ false = sym (eq_names k.name name same) ∙ f in cc

pub forgotten_put : (generation : ℕ) (es : List Entry) (f : Fresh) (ks : List KeptStates) → All (AreOfElement es) ks
    → All (AreOfElement (after_change generation es (Put f)))
    (filter (λ (k : KeptStates). not (bytes_eq k.name f.name)) ks)
forgotten_put generation es f ks all = forgotten (AreOfElement es) (AreOfElement (after_change generation es (Put f)))
    f.name ks (λ k apart is. kept_beside generation es f k apart is) all

pub forgotten_remove : (name : List ℕ) (es : List Entry) (ks : List KeptStates) → All (AreOfElement es) ks
    → All (AreOfElement (without_item entry_name name es)) (filter (λ (k : KeptStates). not (bytes_eq k.name name)) ks)
forgotten_remove name es ks all = forgotten (AreOfElement es) (AreOfElement (without_item entry_name name es)) name ks
    (λ k apart is. kept_without name es k apart is) all

pub touched_kept : (generation : ℕ) (name : List ℕ) (info : FileInfo) (es : List Entry) (ks : List KeptStates)
    → All (AreOfElement es) ks → All (AreOfElement (map (touched generation name info) es)) ks
touched_kept generation name info es ks all i d lt = kept_touched generation name info es (get_or ks i d) (all i d lt)

-- ---- two lists side by side, from one place on

pub zip_from : {A B : Type 0} (R : A → B → Type 0) (xs : List A) (at : ℕ) (one : B) (rest : List B)
    → AllZip R (drop at xs) (one ∷ rest)
    → (at < length xs) × ((d : A) → R (get_or xs at d) one) × AllZip R (drop (suc at) xs) rest
zip_from R [] zero one rest zip = absurd zip
zip_from R [] (suc at) one rest zip = absurd zip
zip_from R (c ∷ cs) zero one rest zip = (omega arith, (λ d. zip.0), zip.1)
zip_from R (c ∷ cs) (suc at) one rest zip =
    let more = zip_from R cs at one rest zip in
    (let lt = more.0 in omega (arith, lt), more.1, more.2)

pub zip_done : (R : Change → Hashed → Type 0) (changes : List Change) (at : ℕ) → AllZip R (drop at changes) []
    → take at changes ≡ changes
zip_done R [] zero zip = refl
zip_done R [] (suc at) zip = refl
zip_done R (c ∷ cs) zero zip = absurd zip
zip_done R (c ∷ cs) (suc at) zip = ap (λ (xs : List Change). c ∷ xs) (zip_done R cs at zip)

-- what is kept after one change more
pub kept_more : (changes : List Change) (at : ℕ) (c : Change) (before now next : List KeptStates) → at < length changes
    → c ≡ get_or changes at c
    → ((g : ℕ) (es : List Entry) → All (AreOfElement es) before
    → All (AreOfElement (after_changes g es (take at changes))) now)
    → ((g : ℕ) (es : List Entry) → All (AreOfElement es) now → All (AreOfElement (after_change g es c)) next)
    → (g : ℕ) (es : List Entry) → All (AreOfElement es) before
    → All (AreOfElement (after_changes g es (take (at + 1) changes))) next
kept_more changes at c before now next lt is so_far step g es all =
    let more : take (at + 1) changes ≡ take at changes ++ c ∷ [] = take_more changes at c lt
    ∙ ap (λ (x : Change). take at changes ++ x ∷ []) (sym is) in
    let after : after_changes g es (take (at + 1) changes) ≡ after_change g (after_changes g es (take at changes)) c =
    ap (after_changes g es) more ∙ fold_push (after_change g) es (take at changes) c in
    subst (λ (fs : List Entry). All (AreOfElement fs) next) (sym after) (step g (after_changes g es (take at changes))
    (so_far g es all))
