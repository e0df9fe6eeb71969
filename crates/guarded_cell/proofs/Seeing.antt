-- How texts are gathered, and which of them stands.
use Rattle.std.proofs.Common.{◌≡◌, ◌≢◌, ℕ, zero, suc, ◌+◌, ◌%◌, ◌<◌, ◌≤◌, List, [], ◌∷◌, ◌++◌, length, take, drop}
use Rattle.std.proofs.Common.{get_or, set, Bool, true, false, cond, ◌&&◌, not, nat_eq, nat_lt, nat_le, eqb, Option}
use Rattle.std.proofs.Common.{Some, None, All, find, refl, sym, ap, ◌∙◌, subst, add-one, eq-eqb, ne_eqb, arith}
use Rattle.std.proofs.lemmas.Bool.{cond-true, cond-false, eqb-true}
use Rattle.std.proofs.lemmas.Bool.Decides.{nat_tests}
use Rattle.std.proofs.lemmas.Slice.Eq.{bytes_eq-Decides}
use Rattle.std.specs.Str.{bytes_eq}
use Rattle.hash_guard.specs.SealedText.{VerifiesAs, verified}
use Rattle.hash_guard.specs.Laws.{verifies-verified, verified-verifies}
use Rattle.disk_model.specs.Image.{Image}
use Rattle.disk_model.specs.Place.{slot}
use Rattle.disk_model.specs.declared.place.Place.{Place}
use Rattle.guarded_cell.specs.declared.looking.Seen.{Seen}
use Rattle.guarded_cell.specs.declared.slots.Pick.TheVariants.{Lacking}
use Rattle.guarded_cell.specs.Register.{own}
use Rattle.guarded_cell.specs.Slots.{Tells, Picks}
use Rattle.guarded_cell.specs.Held.{Text, of_parity, text_held, is_seen, is_slot_text, holds, copies_that, lacking}
use Rattle.guarded_cell.specs.Held.{with_copy}
use Rattle.guarded_cell.specs.Held.{with_slot, held_in_first, held, standing}
use Rattle.guarded_cell.specs.Seens.{IsBefore}

-- ---- one copy of a text

abbrev pub first_seen : ℕ → Text → Seen
first_seen copy t = record { generation = t.0; text = t.1; copies = copy ∷ [] }

abbrev pub seen_more : ℕ → Seen → Seen
seen_more copy seen = record seen { copies = seen.copies ++ copy ∷ [] }

passed : (copy : ℕ) (t : Text) (x : Seen) (xs : List Seen) → IsBefore t x
    → with_copy copy t (x ∷ xs) ≡ x ∷ with_copy copy t xs
passed copy t x xs before =
    let greater = before.greater in
    let above : nat_lt x.generation t.0 ≡ false = grind (arith, nat_tests) in
    cond-false (is_seen t x) (seen_more copy x ∷ xs) (cond (nat_lt x.generation t.0) (first_seen copy t ∷ x ∷ xs)
    (x ∷ with_copy copy t xs)) before.differs
    ∙ cond-false (nat_lt x.generation t.0) (first_seen copy t ∷ x ∷ xs) (x ∷ with_copy copy t xs) above

-- where the text stands itself
pub with_copy_same : (copy : ℕ) (t : Text) (seens : List Seen) (at : ℕ)
    → ((i : ℕ) → i < at → (d : Seen) → IsBefore t (get_or seens i d))
    → at < length seens → (s : Seen) → s ≡ get_or seens at s → is_seen t s ≡ true
    → with_copy copy t seens ≡ set seens at (seen_more copy s)
with_copy_same copy t [] at before lt s is same = absurd (omega (arith, lt))
with_copy_same copy t (x ∷ xs) zero before lt s is same =
    let here : is_seen t x ≡ true = sym (ap (is_seen t) is) ∙ same in
    cond-true (is_seen t x) (seen_more copy x ∷ xs) (cond (nat_lt x.generation t.0) (first_seen copy t ∷ x ∷ xs)
    (x ∷ with_copy copy t xs)) here
    ∙ ap (λ (y : Seen). seen_more copy y ∷ xs) (sym is)
with_copy_same copy t (x ∷ xs) (suc at) before lt s is same =
    passed copy t x xs (before 0 (omega arith) x)
    ∙ ap (λ (ys : List Seen). x ∷ ys) (with_copy_same copy t xs at
    (λ i below d. before (suc i) (omega (arith, below)) d) (omega (arith, lt)) s is same)

-- where texts begin that come after it
pub with_copy_new : (copy : ℕ) (t : Text) (seens : List Seen) (at : ℕ) → at ≤ length seens
    → ((i : ℕ) → i < at → (d : Seen) → IsBefore t (get_or seens i d))
    → (at < length seens → (d : Seen) → (is_seen t (get_or seens at d) ≡ false)
    × ((get_or seens at d).generation < t.0))
    → with_copy copy t seens ≡ take at seens ++ first_seen copy t ∷ drop at seens
with_copy_new copy t [] zero le before here = refl
with_copy_new copy t [] (suc at) le before here = absurd (omega (arith, le))
with_copy_new copy t (x ∷ xs) zero le before here =
    let there = here (omega arith) x in
    let less : x.generation < t.0 = there.1 in
    let above : nat_lt x.generation t.0 ≡ true = grind (arith, nat_tests) in
    cond-false (is_seen t x) (seen_more copy x ∷ xs) (cond (nat_lt x.generation t.0) (first_seen copy t ∷ x ∷ xs)
    (x ∷ with_copy copy t xs)) there.0
    ∙ cond-true (nat_lt x.generation t.0) (first_seen copy t ∷ x ∷ xs) (x ∷ with_copy copy t xs) above
with_copy_new copy t (x ∷ xs) (suc at) le before here =
    passed copy t x xs (before 0 (omega arith) x)
    ∙ ap (λ (ys : List Seen). x ∷ ys) (with_copy_new copy t xs at (omega (arith, le))
    (λ i below d. before (suc i) (omega (arith, below)) d) (λ lt d. here (omega (arith, lt)) d))

-- what stands at one place is one thing
pub get_same : {X : Type 0} (xs : List X) (i : ℕ) (r s : X) → i < length xs → r ≡ get_or xs i r → s ≡ get_or xs i s
    → r ≡ s
get_same [] i r s lt one two = absurd (omega (arith, lt))
get_same (x ∷ xs) zero r s lt one two = one ∙ sym two
get_same (x ∷ xs) (suc i) r s lt one two = get_same xs i r s (omega (arith, lt)) one two

pub get_at : {X : Type 0} (xs : List X) (i : ℕ) (r d : X) → i < length xs → r ≡ get_or xs i r → get_or xs i d ≡ r
get_at [] i r d lt one = absurd (omega (arith, lt))
get_at (x ∷ xs) zero r d lt one = sym one
get_at (x ∷ xs) (suc i) r d lt one = get_at xs i r d (omega (arith, lt)) one

-- ---- facts of all

module _ {X : Type 0} (P : X → Type 0) where
  all_cons : (x : X) (xs : List X) → P x → All P xs → All P (x ∷ xs)
  all_cons x xs here rest zero d lt = here
  all_cons x xs here rest (suc k) d lt = rest k d (omega (arith, lt))

  all_tail : (x : X) (xs : List X) → All P (x ∷ xs) → All P xs
  all_tail x xs every k d lt = every (suc k) d (omega (arith, lt))

  pub all_insert : (xs : List X) (at : ℕ) (new : X) → P new → All P xs → All P (take at xs ++ new ∷ drop at xs)
  all_insert [] zero new here every = all_cons new [] here every
  all_insert [] (suc at) new here every = all_cons new [] here every
  all_insert (x ∷ xs) zero new here every = all_cons new (x ∷ xs) here every
  all_insert (x ∷ xs) (suc at) new here every = all_cons x (take at xs ++ new ∷ drop at xs) (every 0 x (omega arith))
      (all_insert xs at new here (all_tail x xs every))

  found_step : (test : X → Bool) (x : X) (xs : List X) (s : X) → find test (x ∷ xs) ≡ Some s → P x
      → (find test xs ≡ Some s → P s)
      → (b : Bool) → test x ≡ b → P s
  found_step test x xs s e here later true is_so =
      let same : Some x ≡ Some s = sym (cond-true (test x) (Some x) (find test xs) is_so) ∙ e in
      let it : x ≡ s = cc in
      subst P it here
  found_step test x xs s e here later false is_so = later (sym (cond-false (test x) (Some x) (find test xs) is_so) ∙ e)

  pub found_all : (test : X → Bool) (xs : List X) (s : X) → find test xs ≡ Some s → All P xs → P s
  found_all test [] s e every = cc
  found_all test (x ∷ xs) s e every = found_step test x xs s e (every 0 x (omega arith))
      (λ later. found_all test xs s later (all_tail x xs every)) (test x) refl

-- ---- one slot

pub noted_none : (copy parity : ℕ) (bytes : List ℕ) (seens : List Seen) → verified bytes ≡ None
    → seens ≡ with_slot copy (of_parity parity (verified bytes)) seens
noted_none copy parity bytes seens e = sym (ap (λ (v : Option Text). with_slot copy (of_parity parity v) seens) e)

pub noted_other : (copy parity g : ℕ) (bytes body : List ℕ) (seens : List Seen) → VerifiesAs bytes g body
    → g % 2 ≢ parity
    → seens ≡ with_slot copy (of_parity parity (verified bytes)) seens
noted_other copy parity g bytes body seens v differs = sym
    (ap (λ (w : Option Text). with_slot copy (of_parity parity w) seens) (verifies-verified bytes g body v)
    ∙ ap (λ (w : Option Text). with_slot copy w seens) (cond-false (eqb (g % 2) parity) (Some (g, body)) None
    (ne_eqb (g % 2) parity differs)))

pub noted_same : (copy parity g : ℕ) (bytes body : List ℕ) (seens : List Seen) → VerifiesAs bytes g body
    → g % 2 ≡ parity
    → with_copy copy (g, body) seens ≡ with_slot copy (of_parity parity (verified bytes)) seens
noted_same copy parity g bytes body seens v same = sym
    (ap (λ (w : Option Text). with_slot copy (of_parity parity w) seens) (verifies-verified bytes g body v)
    ∙ ap (λ (w : Option Text). with_slot copy w seens) (cond-true (eqb (g % 2) parity) (Some (g, body)) None
    (eq-eqb (g % 2) parity same)))

pub held_none : (image : Image) (place : Place) → held_in_first image place 0 ≡ []
unfolding held_in_first
held_none image place = refl

held_suc : (image : Image) (place : Place) (k : ℕ)
    → held_in_first image place (suc k) ≡ with_slot (k + 1) (text_held image place k 1)
    (with_slot (k + 1) (text_held image place k 0) (held_in_first image place k))
unfolding held_in_first
held_suc image place k = refl

pub held_more : (start a b : Image) (place : Place) (k : ℕ) (none one two : List Seen) → a ≡ start → b ≡ start
    → none ≡ held_in_first start place k
    → one ≡ with_slot (k + 1) (text_held a place k 0) none → two ≡ with_slot (k + 1) (text_held b place k 1) one
    → two ≡ held_in_first start place (k + 1)
held_more start a b place k none one two ea eb before first_slot second_slot =
    let low : one ≡ with_slot (k + 1) (text_held start place k 0) (held_in_first start place k) =
    first_slot ∙ ap (λ (im : Image). with_slot (k + 1) (text_held im place k 0) none) ea
    ∙ ap (with_slot (k + 1) (text_held start place k 0)) before in
    let high : two ≡ with_slot (k + 1) (text_held start place k 1)
    (with_slot (k + 1) (text_held start place k 0) (held_in_first start place k)) =
    second_slot ∙ ap (λ (im : Image). with_slot (k + 1) (text_held im place k 1) one) eb
    ∙ ap (with_slot (k + 1) (text_held start place k 1)) low in
    high ∙ sym (held_suc start place k) ∙ ap (held_in_first start place) (sym (add-one k))

-- ---- the text that stands

pub standing_is : (image : Image) (place : Place) (m : ℕ) (seens : List Seen) (answer : Option Seen)
    → seens ≡ held image place
    → answer ≡ find (λ seen. nat_le m (length seen.copies)) seens → standing image place m ≡ answer
unfolding standing
standing_is image place m seens answer are is =
    ap (find (λ (seen : Seen). nat_le m (length seen.copies))) (sym are) ∙ sym is

-- ---- the copies that lack it

same_that : (p q : ℕ → Bool) (n : ℕ) → ((c : ℕ) → c < n → p c ≡ q c) → copies_that p n ≡ copies_that q n
same_that p q zero same = refl
same_that p q (suc n) same =
    ap (λ (xs : List ℕ). xs ++ cond (p n) ((n + 1) ∷ []) []) (same_that p q n (λ c lt. same c (omega (arith, lt))))
    ∙ ap (λ (b : Bool). copies_that q n ++ cond b ((n + 1) ∷ []) []) (same n (omega arith))

unlike : (x y : Bool) → (x ≡ true → ¬ (y ≡ true)) → true ≡ not (x && y)
unlike true true differ = absurd (differ refl refl)
unlike true false differ = refl
unlike false true differ = refl
unlike false false differ = refl

no_text : (u : Text) (bytes : List ℕ) (g : ℕ) (text : List ℕ) → verified bytes ≡ Some u → ¬ (VerifiesAs bytes g text)
    → true ≡ not (nat_eq u.0 g && bytes_eq u.1 text)
no_text u bytes g text e never = unlike (nat_eq u.0 g) (bytes_eq u.1 text)
    (λ one two.
    let same : u.0 ≡ g = eqb-true u.0 g one in
    let alike : u.1 ≡ text = (bytes_eq-Decides u.1 text).0 two in
    never (subst (λ (x : ℕ). VerifiesAs bytes x text) same
    (subst (λ (y : List ℕ). VerifiesAs bytes u.0 y) alike (verified-verifies bytes u.0 u.1 e))))

flag_is : (b : Bool) (bytes : List ℕ) (g : ℕ) (text : List ℕ) → Tells Lacking b bytes g text
    → b ≡ not (is_slot_text (g, text) (verified bytes))
flag_is false bytes g text v =
    let one : nat_eq g g ≡ true = eq-eqb g g refl in
    let two : bytes_eq text text ≡ true = (bytes_eq-Decides text text).1 refl in
    sym (ap (λ (w : Option Text). not (is_slot_text (g, text) w)) (verifies-verified bytes g text v)
    ∙ ap (λ (x : Bool). not (x && bytes_eq text text)) one ∙ ap (λ (x : Bool). not (true && x)) two)
flag_is true bytes g text never = go (verified bytes) refl
  where
    go : (answer : Option Text) → verified bytes ≡ answer → true ≡ not (is_slot_text (g, text) (verified bytes))
    go None e = sym (ap (λ (w : Option Text). not (is_slot_text (g, text) w)) e)
    go (Some u) e = no_text u bytes g text e never ∙ sym (ap (λ (w : Option Text). not (is_slot_text (g, text) w)) e)

pub lacking_is : (image : Image) (place : Place) (g : ℕ) (text : List ℕ) (chosen : List Bool) (numbers : List ℕ)
    → Picks Lacking chosen image place (own g) g text
    → numbers ≡ copies_that (λ copy. get_or chosen copy false) place.copies
    → numbers ≡ lacking image place g text
unfolding lacking
lacking_is image place g text chosen numbers picks is =
    is ∙ same_that (λ copy. get_or chosen copy false) (λ copy. not (holds image place copy (g, text))) place.copies
    (λ c lt. flag_is (get_or chosen c false) (image (slot place c (own g))) g text (picks c lt))
