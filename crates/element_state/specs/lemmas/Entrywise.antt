-- Lists of two kinds of things, place by place.
use Rattle.std.proofs.Common.{◌≡◌, ℕ, zero, suc, ◌+◌, ◌<◌, List, [], ◌∷◌, ◌++◌, length, get_or, take, map, Bool, true}
use Rattle.std.proofs.Common.{false, ◌&&◌, Option, Some, None, refl, sym, ap, ◌∙◌, subst, arith}
use Rattle.std.specs.List.{AllZip, AllByRecursion, list_all, cons_option}
use Rattle.std.proofs.lemmas.Bool.{cond-true, cond-false}
use Rattle.guarded_cell.specs.declared.looking.Seen.{Seen}
use Rattle.index_text.specs.Reading.{index_of}
use Rattle.element_state.specs.declared.shapes.Shape.{Shape}
use Rattle.element_state.specs.Fit.{if_fits, fit_index, with_index, fit_among}
use Rattle.std.specs.Prelude.{flat_map, nat_lt, nat_le, ◌==◌}
use Rattle.std.proofs.lemmas.List.{take_more, map_more}
use Rattle.std.proofs.lemmas.List.Folds.{list_all-append}
use Rattle.per_base.specs.declared.elements.StoreKind.{StoreKind}
use Rattle.index_text.specs.declared.entries.Index.{Index}
use Rattle.index_text.specs.declared.entries.IndexEntry.{IndexEntry}
use Rattle.index_text.specs.Rules.{blocks_of}
use Rattle.index_text.specs.Sizes.{size_of, area_blocks, fits}
use Rattle.index_text.specs.Spelling.{store_kind_code}
use Rattle.disk_model.specs.Medium.{Medium, IsLawful, Elapses, OnlyReads}
use Rattle.disk_model.specs.Laws.{reads_none, reads_on, elapses_none, elapses_on}

-- ---- calls that only read, in a row

pub record IsRead (old now : Medium) : Type 0 where
  pub reads : OnlyReads old now
  pub time : Elapses old now
  pub passes : now.faults ≡ old.faults

pub read_none : {told : Bool} {m : Medium} → IsLawful told m → IsRead m m
read_none law = record { reads = reads_none law; time = elapses_none law; passes = refl }

pub read_on : {a b c : Medium} → IsRead a b → OnlyReads b c → Elapses b c → c.faults ≡ b.faults → IsRead a c
read_on first reads time passes = record {
  reads = reads_on first.time first.reads time reads;
  time = elapses_on first.time time;
  passes = passes ∙ first.passes;
}

-- ---- place by place

module _ {A B : Type 0} (R : A → B → Type 0) where
  pub zip_push : (xs : List A) (ys : List B) (x : A) (y : B) → AllZip R xs ys → R x y
      → AllZip R (xs ++ x ∷ []) (ys ++ y ∷ [])
  zip_push [] [] x y all here = (here, tt)
  zip_push [] (b ∷ ys) x y all here = absurd all
  zip_push (a ∷ xs) [] x y all here = absurd all
  zip_push (a ∷ xs) (b ∷ ys) x y all here = (all.0, zip_push xs ys x y all.1 here)

  pub zip_more : (xs : List A) (ys : List B) (i : ℕ) (x : A) (y : B) → i < length xs → x ≡ get_or xs i x
      → AllZip R (take i xs) ys → R x y
      → AllZip R (take (i + 1) xs) (ys ++ y ∷ [])
  zip_more xs ys i x y lt is all here =
      let same : take i xs ++ x ∷ [] ≡ take (i + 1) xs = ap (λ z. take i xs ++ z ∷ []) is ∙ sym (take_more xs i x lt) in
      subst (λ l. AllZip R l (ys ++ y ∷ [])) same (zip_push (take i xs) ys x y all here)

  pub zip_at : (xs : List A) (ys : List B) (i : ℕ) (d : A) (e : B) → AllZip R xs ys → i < length xs
      → R (get_or xs i d) (get_or ys i e)
  zip_at [] ys i d e all lt = absurd (omega (arith, lt))
  zip_at (x ∷ xs) [] i d e all lt = absurd all
  zip_at (x ∷ xs) (y ∷ ys) zero d e all lt = all.0
  zip_at (x ∷ xs) (y ∷ ys) (suc i) d e all lt = zip_at xs ys i d e all.1 (omega (arith, lt))

  pub length_zip : (xs : List A) (ys : List B) → AllZip R xs ys → length ys ≡ length xs
  length_zip [] [] all = refl
  length_zip [] (y ∷ ys) all = absurd all
  length_zip (x ∷ xs) [] all = absurd all
  length_zip (x ∷ xs) (y ∷ ys) all = ap suc (length_zip xs ys all.1)

pub all_at : {A : Type 0} (P : A → Type 0) (xs : List A) (i : ℕ) (d : A) → AllByRecursion P xs → i < length xs
    → P (get_or xs i d)
all_at P [] i d all lt = absurd (omega (arith, lt))
all_at P (x ∷ xs) zero d all lt = all.0
all_at P (x ∷ xs) (suc i) d all lt = all_at P xs i d all.1 (omega (arith, lt))

pub map_push : {A B : Type 0} (f : A → B) (xs : List A) (ys : List B) (i : ℕ) (x : A) (y : B) → i < length xs
    → x ≡ get_or xs i x
    → ys ≡ map f (take i xs) → y ≡ f x → ys ++ y ∷ [] ≡ map f (take (i + 1) xs)
map_push f xs ys i x y lt is before here =
    ap (λ l. l ++ y ∷ []) before ∙ ap (λ z. map f (take i xs) ++ z ∷ []) (here ∙ ap f is) ∙ sym (map_more f xs i x lt)

-- ---- a test of all

pub all_flat : {A B : Type 0} (test : B → Bool) (f : A → List B) (xs : List A)
    → list_all (λ x. list_all test (f x)) xs ≡ list_all test (flat_map f xs)
all_flat test f [] = refl
all_flat test f (x ∷ xs) = ap (λ b. list_all test (f x) && b) (all_flat test f xs)
    ∙ sym (list_all-append test (f x) (flat_map f xs))

-- ---- whether an index fits, test by test

pub fits_by : (kind : StoreKind) (allowed : ℕ) (i : Index) (k s b : Bool)
    → (store_kind_code i.kind == store_kind_code kind) ≡ k
    → nat_le (size_of i.entries) allowed ≡ s
    → list_all (λ (e : IndexEntry). list_all (λ n. nat_lt n (area_blocks allowed)) e.blocks) i.entries ≡ b
    → fits kind allowed i ≡ (k && s && b)
fits_by kind allowed i k s b ek es eb =
    let below = list_all (λ n. nat_lt n (area_blocks allowed)) (blocks_of i.entries) in
    ap (λ x. x && nat_le (size_of i.entries) allowed && below) ek
    ∙ ap (λ x. k && x && below) es
    ∙ ap (λ x. k && s && x) (sym (all_flat (λ n. nat_lt n (area_blocks allowed)) (λ (e : IndexEntry). e.blocks)
    i.entries) ∙ eb)

pub fit_index_by : (shape : Shape) (text : List ℕ) (o : Option Index) → index_of text ≡ o
    → fit_index shape text ≡ if_fits shape o
unfolding fit_index
fit_index_by shape text o e = ap (if_fits shape) e

pub if_fits_yes : (shape : Shape) (i : Index) → fits shape.kind shape.allowed i ≡ true → if_fits shape (Some i) ≡ Some i
if_fits_yes shape i e = cond-true (fits shape.kind shape.allowed i) (Some i) None e

pub if_fits_no : (shape : Shape) (i : Index) → fits shape.kind shape.allowed i ≡ false → if_fits shape (Some i) ≡ None
if_fits_no shape i e = cond-false (fits shape.kind shape.allowed i) (Some i) None e

-- ---- the texts that fit, one by one

pub fit_more : (shape : Shape) (s : Seen) (i : Index) (seens : List Seen) → fit_index shape s.text ≡ Some i
    → fit_among shape (s ∷ seens) ≡ (s, i) ∷ fit_among shape seens
fit_more shape s i seens e = ap (λ o. cons_option (with_index s o) (fit_among shape seens)) e

pub fit_skip : (shape : Shape) (s : Seen) (seens : List Seen) → fit_index shape s.text ≡ None
    → fit_among shape (s ∷ seens) ≡ fit_among shape seens
fit_skip shape s seens e = ap (λ o. cons_option (with_index s o) (fit_among shape seens)) e

pub all_push : {A : Type 0} (P : A → Type 0) (xs : List A) (x : A) → AllByRecursion P xs → P x
    → AllByRecursion P (xs ++ x ∷ [])
all_push P [] x all here = (here, tt)
all_push P (y ∷ xs) x all here = (all.0, all_push P xs x all.1 here)

pub all_less : {A : Type 0} (P Q : A → Type 0) → ((x : A) → P x → Q x) → (xs : List A) → AllByRecursion P xs
    → AllByRecursion Q xs
all_less P Q less [] all = tt
all_less P Q less (x ∷ xs) all = (less x all.0, all_less P Q less xs all.1)
