-- The greatest length that the entries of a table say for a file.
use Rattle.std.proofs.Common.{◌≡◌, ◌⊎◌, ℕ, ◌+◌, ◌*◌, ◌<◌, ◌≤◌, List, [], ◌∷◌, Bool, true, false, cond, refl, sym, ap}
use Rattle.std.proofs.Common.{subst, ◌∙◌, inl, inr, ⊎_elim, arith, eq-eqb, true≢false}
use Rattle.std.specs.Prelude.{Some, None, nat_eq, max, slice_index, ◌||◌}
use Rattle.std.specs.List.{IsDistinct, AllByRecursion, list_any}
use Rattle.std.specs.Map.{keys_of, values_of, lookup}
use Rattle.std.proofs.lemmas.Bool.{cases_lt, eqb-true}
use Rattle.std.proofs.lemmas.Option.{same_Some, none-some}
use Rattle.flash_disk.specs.declared.table.FilePage.{FilePage}
use Rattle.flash_disk.specs.declared.table.Newest.{Newest}
use Rattle.std.specs.HashMap.{HashMap}
use Rattle.flash_disk.specs.Known.{same_page, len_in, IsFilledUpTo}
use Rattle.flash_disk.specs.Apart.{copy_of}
use Rattle.flash_disk.proofs.Learning.{same_page_is, same_page_refl}

abbrev pub Entry : Type 0
Entry = FilePage × Newest

-- the greatest length that one of these entries says for a page of the file
abbrev pub longest : ℕ → List Entry → ℕ
longest file [] = 0
longest file (e ∷ es) = cond (nat_eq file e.0.file) (max e.1.len (longest file es)) (longest file es)

-- a key that differs from all keys is not found
pub not_found : (k : FilePage) (es : List Entry) → AllByRecursion (λ y. same_page k y ≡ false) (keys_of es)
    → lookup (same_page k) es ≡ None
not_found k [] none = refl
not_found k (e ∷ es) none = rw none.0 (not_found k es none.1)

-- what is found among the later entries is found among all, since their keys differ
pub lift_by : (e : Entry) (es : List Entry) → AllByRecursion (λ y. same_page e.0 y ≡ false) (keys_of es)
    → (key : FilePage) (entry : Newest)
    → lookup (same_page key) es ≡ Some entry → (b : Bool) → same_page key e.0 ≡ b
    → cond b (Some e.1) (lookup (same_page key) es) ≡ Some entry
lift_by e es apart key entry found true same = absurd (none-some entry
    (sym (not_found e.0 es apart) ∙ subst (λ k. lookup (same_page k) es ≡ Some entry) (same_page_is key e.0 same)
    found))
lift_by e es apart key entry found false other = found

module _ (file : ℕ) where
  rest_by : (len rest : ℕ) (b : Bool) → rest ≤ cond b (max len rest) rest
  rest_by len rest true = omega arith
  rest_by len rest false = omega arith

  own_by : (e : Entry) (rest : ℕ) → e.0.file ≡ file → e.1.len ≤ cond (nat_eq file e.0.file) (max e.1.len rest) rest
  own_by e rest is = rw (eq-eqb file e.0.file (sym is)) (omega arith)

  most_step : (e : Entry) (es : List Entry) (key : FilePage) (entry : Newest) (b : Bool) → same_page key e.0 ≡ b
      → (lookup (same_page key) es ≡ Some entry → entry.len ≤ longest file es) → key.file ≡ file
      → cond b (Some e.1) (lookup (same_page key) es) ≡ Some entry → entry.len ≤ longest file (e ∷ es)
  most_step e es key entry true same less of_file found =
      let own = own_by e (longest file es) (ap (λ k. k.file) (sym (same_page_is key e.0 same)) ∙ of_file) in
      subst (λ (w : Newest). w.len ≤ longest file (e ∷ es)) (same_Some e.1 entry found) own
  most_step e es key entry false other less of_file found =
      let le = less found in let more = rest_by e.1.len (longest file es) (nat_eq file e.0.file) in
      omega (arith, le, more)

  pub most : (es : List Entry) (key : FilePage) (entry : Newest) → lookup (same_page key) es ≡ Some entry
      → key.file ≡ file → entry.len ≤ longest file es
  most [] key entry found of_file = absurd (none-some entry found)
  most (e ∷ es) key entry found of_file = most_step e es key entry (same_page key e.0) refl
      (λ there. most es key entry there of_file) of_file found

  abbrev pub Says : List Entry → ℕ → Type 0
  Says es len = (len ≡ 0) ⊎ ((key : FilePage) × (entry : Newest) × (lookup (same_page key) es ≡ Some entry)
      × (key.file ≡ file) × (len ≡ entry.len))

  lift : (e : Entry) (es : List Entry) → AllByRecursion (λ y. same_page e.0 y ≡ false) (keys_of es) → (len : ℕ)
      → Says es len → Says (e ∷ es) len
  lift e es apart len says = ⊎_elim
      (λ none. inl none)
      (λ some. inr (
        some.0,
        some.1,
        lift_by e es apart some.0 some.1 some.2 (same_page some.0 e.0) refl,
        some.3,
        some.4,
      ))
      says

  one_step : (e : Entry) (es : List Entry) → AllByRecursion (λ y. same_page e.0 y ≡ false) (keys_of es)
      → Says es (longest file es)
      → (b : Bool) → nat_eq file e.0.file ≡ b → Says (e ∷ es) (cond b (max e.1.len (longest file es)) (longest file es))
  one_step e es apart says false other = lift e es apart (longest file es) says
  one_step e es apart says true of_file = ⊎_elim
      (λ less. let same : longest file es ≡ max e.1.len (longest file es) =
      omega arith in subst (Says (e ∷ es)) same (lift e es apart (longest file es) says))
      (λ more. let same : e.1.len ≡ max e.1.len (longest file es) = omega arith in subst (Says (e ∷ es)) same
      (inr (e.0, e.1, rw (same_page_refl e.0) refl, sym (eqb-true file e.0.file of_file), refl)))
      (cases_lt e.1.len (longest file es))

  pub one : (es : List Entry) → IsDistinct same_page (keys_of es) → Says es (longest file es)
  unfolding IsDistinct
  one [] distinct = inl refl
  one (e ∷ es) distinct = one_step e es distinct.0 (one es distinct.1) (nat_eq file e.0.file) refl

-- one entry more is taken
taken_by : (was now len rest : ℕ) (b : Bool) → now ≡ cond b (max was len) was
    → max now rest ≡ max was (cond b (max len rest) rest)
taken_by was now len rest true is = omega (arith, is)
taken_by was now len rest false is = omega (arith, is)

pub taken : (f was now : ℕ) (e : Entry) (es : List Entry) → now ≡ cond (nat_eq f e.0.file) (max was e.1.len) was
    → max now (longest f es) ≡ max was (longest f (e ∷ es))
taken f was now e es is = taken_by was now e.1.len (longest f es) (nat_eq f e.0.file) is

-- an entry that is not among those that are left was among those before
pub passed : (key k : FilePage) (entry e : Newest) (es all : List Entry) → all ≡ (k, e) ∷ es
    → lookup (same_page key) all ≡ Some entry
    → ((key ≡ k) × (e ≡ entry)) ⊎ (lookup (same_page key) es ≡ Some entry)
passed key k entry e es all is found = by_test (same_page key k) refl
    (subst (λ l. lookup (same_page key) l ≡ Some entry) is found)
  where
    by_test : (b : Bool) → same_page key k ≡ b → cond b (Some e) (lookup (same_page key) es) ≡ Some entry
        → ((key ≡ k) × (e ≡ entry)) ⊎ (lookup (same_page key) es ≡ Some entry)
    by_test true same there = inl (same_page_is key k same, same_Some e entry there)
    by_test false other there = inr there

-- no value passes the test where none of the list does
pub none_passes : (test : Newest → Bool) (key : FilePage) (entry : Newest) (es : List Entry)
    → list_any test (values_of es) ≡ false
    → lookup (same_page key) es ≡ Some entry → test entry ≡ false
none_passes test key entry [] none found = absurd (none-some entry found)
none_passes test key entry (e ∷ es) none found = ⊎_elim
    (λ here. subst (λ w. test w ≡ false) here.1 (neither (test e.1) (list_any test (values_of es)) none).0)
    (λ there. none_passes test key entry es (neither (test e.1) (list_any test (values_of es)) none).1 there)
    (passed key e.0 entry e.1 es (e ∷ es) refl found)
  where
    neither : (a b : Bool) → (a || b) ≡ false → (a ≡ false) × (b ≡ false)
    neither true b is = absurd (true≢false is)
    neither false b is = (refl, is)

-- an entry is found that passes the test
abbrev pub Passes : (Newest → Bool) → List Entry → Type 0
Passes test es = (key : FilePage) × (entry : Newest) × (lookup (same_page key) es ≡ Some entry) × (test entry ≡ true)

passes_by : (test : Newest → Bool) (e : Entry) (es : List Entry)
    → AllByRecursion (λ y. same_page e.0 y ≡ false) (keys_of es)
    → (list_any test (values_of es) ≡ true → Passes test es) → (b : Bool) → test e.1 ≡ b
    → (b || list_any test (values_of es)) ≡ true → Passes test (e ∷ es)
passes_by test e es apart later true here some = (e.0, e.1, rw (same_page_refl e.0) refl, here)
passes_by test e es apart later false here some = let there = later some in
    (there.0, there.1, lift_by e es apart there.0 there.1 there.2 (same_page there.0 e.0) refl, there.3)

-- where one of the list does, one is found
pub one_passes : (test : Newest → Bool) (es : List Entry) → IsDistinct same_page (keys_of es)
    → list_any test (values_of es) ≡ true → Passes test es
unfolding IsDistinct
one_passes test [] distinct some = absurd (true≢false (sym some))
one_passes test (e ∷ es) distinct some = passes_by test e es distinct.0 (one_passes test es distinct.1) (test e.1) refl
    some

-- one entry more is taken into where the last byte of all ends
pub ends_more : {S : Type 0} (lens : HashMap ℕ ℕ S) (key k : FilePage) (entry e : Newest) (es all : List Entry)
    (stray next end : ℕ) → all ≡ (k, e) ∷ es
    → (k.page < 4294967296 → 0 < e.filled → end ≡ 256 * k.page + e.filled) → stray ≤ next
    → (end ≤ len_in lens k.file) ⊎ (end ≤ next)
    → (lookup (same_page key) all ≡ Some entry) ⊎ IsFilledUpTo lens key entry stray
    → (lookup (same_page key) es ≡ Some entry) ⊎ IsFilledUpTo lens key entry next
ends_more lens key k entry e es all stray next end is end_is more within before = ⊎_elim
    (λ left. ⊎_elim
    (λ here. inr (subst (λ q. IsFilledUpTo lens q entry next) (sym here.0)
    (subst (λ w. IsFilledUpTo lens k w next) here.1
    (λ page filled. (let same = end_is page filled in ⊎_elim (λ a. inl (omega (arith, a, same)))
    (λ b. inr (omega (arith, b, same))) within)))))
    (λ there. inl there)
    (passed key k entry e es all is left))
    (λ ends. inr (λ page filled. ⊎_elim (λ a. inl a) (λ b. inr (omega (arith, b, more))) (ends page filled)))
    before

-- one entry more is in a block of its copy
pub owns_more : (copies : List ℕ) (key k : FilePage) (entry e : Newest) (es all : List Entry) → all ≡ (k, e) ∷ es
    → slice_index copies e.place.block ≡ copy_of k.file
    → (lookup (same_page key) all ≡ Some entry) ⊎ (slice_index copies entry.place.block ≡ copy_of key.file)
    → (lookup (same_page key) es ≡ Some entry) ⊎ (slice_index copies entry.place.block ≡ copy_of key.file)
owns_more copies key k entry e es all is own before = ⊎_elim
    (λ left. ⊎_elim
    (λ here. inr (subst (λ (q : FilePage). slice_index copies entry.place.block ≡ copy_of q.file) (sym here.0)
    (subst (λ (w : Newest). slice_index copies w.place.block ≡ copy_of k.file) here.1 own)))
    (λ there. inl there)
    (passed key k entry e es all is left))
    (λ owns. inr owns)
    before
