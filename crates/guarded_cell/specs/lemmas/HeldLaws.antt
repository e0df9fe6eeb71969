-- Laws of the texts that a register's copies hold: which they are, copy by copy, in what order, and which of them
-- stands.
use Rattle.std.proofs.Common.{◌≡◌, ℕ, zero, suc, ◌+◌, ◌%◌, ◌<◌, ◌≤◌, List, [], ◌∷◌, ◌++◌, length, get_or, true, false}
use Rattle.std.proofs.Common.{cond, not, Option, Some, None, All, refl, sym, ap, ◌∙◌, subst, ⊎_elim, arith}
use Rattle.std.proofs.lemmas.Bool.{cases_eq, false_from_ne_true, not-true, not_from_false}
use Rattle.std.specs.List.{Any, Contains}
use Rattle.hash_guard.specs.SealedText.{VerifiesAs, verified}
use Rattle.hash_guard.specs.Laws.{verifies-verified, verified-verifies}
use Rattle.disk_model.specs.Image.{Image}
use Rattle.disk_model.specs.Place.{slot}
use Rattle.disk_model.specs.declared.place.Place.{Place}
use Rattle.guarded_cell.specs.declared.looking.Seen.{Seen}
use Rattle.guarded_cell.specs.Register.{Holds, IsHeldBy, IsStanding, HasNoStanding, IsOneEach, own}
use Rattle.guarded_cell.specs.Held.{Text, text_held, is_slot_text, holds, copies_that, lacking, with_slot}
use Rattle.guarded_cell.specs.Held.{held_in_first}
use Rattle.guarded_cell.specs.Held.{held, standing}
use Rattle.guarded_cell.specs.lemmas.CopyLaws.{enough_pass, passing_enough, passing_is, is_passing, some_passes}
use Rattle.guarded_cell.specs.lemmas.StopLaws.{at_least_map}
use Rattle.guarded_cell.specs.lemmas.SeenLaws.{IsInOrder, alike, copies_in, descends, found, greatest_found, high_slot}
use Rattle.guarded_cell.specs.lemmas.SeenLaws.{is_alike, low_slot, member_copies, member_of, never_both, none_found}
use Rattle.guarded_cell.specs.lemmas.SeenLaws.{other_parity, same_parity, text_of, with_slot_in_order}

-- ---- what a copy holds

is_text-verifies : (t : Text) (bytes : List ℕ) → is_slot_text t (verified bytes) ≡ true → VerifiesAs bytes t.0 t.1
is_text-verifies t bytes e = go (verified bytes) refl e
  where
    go : (answer : Option Text) → verified bytes ≡ answer → is_slot_text t answer ≡ true → VerifiesAs bytes t.0 t.1
    go None is passes = absurd (never_both false passes refl)
    go (Some u) is passes =
        let same = alike u t passes in
        subst (λ (x : ℕ). VerifiesAs bytes x t.1) same.0
        (subst (λ (y : List ℕ). VerifiesAs bytes u.0 y) same.1 (verified-verifies bytes u.0 u.1 is))

-- the test is true exactly where the copy holds the text
pub holds_is : (image : Image) (place : Place) (copy : ℕ) (t : Text) → holds image place copy t ≡ true
    → Holds image place copy t.0 t.1
holds_is image place copy t e = is_text-verifies t (image (slot place copy (own t.0))) e

pub is_holds : (image : Image) (place : Place) (copy : ℕ) (t : Text) → Holds image place copy t.0 t.1
    → holds image place copy t ≡ true
is_holds image place copy t v =
    ap (is_slot_text t) (verifies-verified (image (slot place copy (own t.0))) t.0 t.1 v) ∙ is_alike t t refl refl

-- at least m copies hold the text exactly where the copies that pass the test are that many
pub held_by : (image : Image) (place : Place) (m : ℕ) (t : Text)
    → m ≤ length (copies_that (λ copy. holds image place copy t) place.copies)
    → IsHeldBy image place m t.0 t.1
held_by image place m t le =
    at_least_map (λ copy. holds image place copy t ≡ true) (λ copy. Holds image place copy t.0 t.1) place.copies m
    (λ c lt e. holds_is image place c t e) (enough_pass (λ copy. holds image place copy t) place.copies m le)

pub by_holding : (image : Image) (place : Place) (m : ℕ) (t : Text) → IsHeldBy image place m t.0 t.1
    → m ≤ length (copies_that (λ copy. holds image place copy t) place.copies)
by_holding image place m t some =
    passing_enough (λ copy. holds image place copy t) place.copies m
    (at_least_map (λ copy. Holds image place copy t.0 t.1) (λ copy. holds image place copy t ≡ true) place.copies m
    (λ c lt v. is_holds image place c t v) some)

-- ---- the copies that lack a text

-- a copy is among them exactly where it does not hold the text
pub lacking_is : (image : Image) (place : Place) (generation : ℕ) (text : List ℕ) (copy : ℕ)
    → Contains (lacking image place generation text) (copy + 1)
    → (copy < place.copies) × ¬ (Holds image place copy generation text)
unfolding lacking
lacking_is image place generation text copy inside =
    let it = is_passing (λ c. not (holds image place c (generation, text))) place.copies copy inside in (
      it.0,
      λ v. never_both (holds image place copy (generation, text)) (is_holds image place copy (generation, text) v)
          (not-true (holds image place copy (generation, text)) it.1),
    )

pub is_lacking : (image : Image) (place : Place) (generation : ℕ) (text : List ℕ) (copy : ℕ)
    → copy < place.copies → ¬ (Holds image place copy generation text)
    → Contains (lacking image place generation text) (copy + 1)
unfolding lacking
is_lacking image place generation text copy lt never =
    passing_is (λ c. not (holds image place c (generation, text))) place.copies copy lt
    (not_from_false (holds image place copy (generation, text))
    (false_from_ne_true (holds image place copy (generation, text))
    (λ e. never (holds_is image place copy (generation, text) e))))

-- ---- the texts that are held

-- the texts that are held stand in order
pub held_in_order : (image : Image) (place : Place) (n : ℕ) → IsInOrder (held_in_first image place n)
unfolding held_in_first
held_in_order image place zero = tt
held_in_order image place (suc n) =
    with_slot_in_order (n + 1) (text_held image place n 1)
    (with_slot (n + 1) (text_held image place n 0) (held_in_first image place n))
    (with_slot_in_order (n + 1) (text_held image place n 0) (held_in_first image place n) (held_in_order image place n))

-- among the texts that are held, a text has just the copies that hold it
pub copies_of : (image : Image) (place : Place) (n : ℕ) (u : Text)
    → copies_in u (held_in_first image place n) ≡ copies_that (λ copy. holds image place copy u) n
unfolding held_in_first
copies_of image place zero u = refl
copies_of image place (suc n) u =
    let earlier : copies_in u (held_in_first image place n) ++ cond (holds image place n u) ((n + 1) ∷ []) []
    ≡ copies_that (λ copy. holds image place copy u) n ++ cond (holds image place n u) ((n + 1) ∷ []) [] =
    ap (λ (cs : List ℕ). cs ++ cond (holds image place n u) ((n + 1) ∷ []) []) (copies_of image place n u) in
    ⊎_elim
    (λ even.
    low_slot (n + 1) u (text_held image place n 0) (text_held image place n 1) (holds image place n u)
    (held_in_first image place n)
    (held_in_order image place n)
    (same_parity u 0 (verified (image (slot place n 0))) even
    ∙ ap (λ (p : ℕ). is_slot_text u (verified (image (slot place n p)))) (sym even))
    (other_parity u 1 (verified (image (slot place n 1))) (λ e. omega (arith, even, e))) ∙ earlier)
    (λ odd.
    let one : u.0 % 2 ≡ 1 = is_odd (u.0) odd in
    high_slot (n + 1) u (text_held image place n 0) (text_held image place n 1) (holds image place n u)
    (held_in_first image place n)
    (held_in_order image place n)
    (other_parity u 0 (verified (image (slot place n 0))) odd)
    (same_parity u 1 (verified (image (slot place n 1))) one
    ∙ ap (λ (p : ℕ). is_slot_text u (verified (image (slot place n p)))) (sym one)) ∙ earlier)
    (cases_eq (u.0 % 2) 0)
  where
    is_odd : (g : ℕ) → ¬ (g % 2 ≡ 0) → g % 2 ≡ 1
    is_odd g odd = omega (arith, odd)

-- a member's copies are just those that hold its text
pub held_copies : (image : Image) (place : Place)
    → All (λ seen. seen.copies ≡ copies_that (λ copy. holds image place copy (seen.generation, seen.text)) place.copies)
    (held image place)
held_copies image place k d lt =
    sym (member_copies (held image place) k d lt (held_in_order image place place.copies))
    ∙ copies_of image place place.copies (text_of (get_or (held image place) k d))

-- every text that some copy holds is a member
pub held_all : (image : Image) (place : Place) (copy generation : ℕ) (text : List ℕ) → copy < place.copies
    → Holds image place copy generation text
    → Any (λ seen. (seen.generation ≡ generation) × (seen.text ≡ text)) (held image place)
held_all image place copy generation text lt v =
    let t : Text = (generation, text) in
    let (k, within, at) = passing_is (λ c. holds image place c t) place.copies copy lt (is_holds image place copy t v)
    in
    let some : 1 ≤ length (copies_that (λ c. holds image place c t) place.copies) = omega (arith, within) in
    member_of t (held image place) (subst (λ (cs : List ℕ). 1 ≤ length cs) (sym (copies_of image place place.copies t))
    some)

-- generations do not rise from member to member, and no text stands twice
pub held_descends : (image : Image) (place : Place) (i j : ℕ) (d : Seen) → i < j → j < length (held image place)
    → (get_or (held image place) j d).generation ≤ (get_or (held image place) i d).generation
held_descends image place i j d before lt = (descends (held image place) i j d before lt
    (held_in_order image place place.copies)).0

pub held_once : (image : Image) (place : Place) (i j : ℕ) (d : Seen) → i < j → j < length (held image place)
    → (get_or (held image place) j d).generation ≡ (get_or (held image place) i d).generation
    → ¬ ((get_or (held image place) j d).text ≡ (get_or (held image place) i d).text)
held_once image place i j d before lt = (descends (held image place) i j d before lt
    (held_in_order image place place.copies)).1

-- ---- the text that stands

-- the copies of the text that stands are just those that hold it, and they are at least m
pub standing_copies : (image : Image) (place : Place) (m : ℕ) (seen : Seen) → standing image place m ≡ Some seen
    → (seen.copies ≡ copies_that (λ copy. holds image place copy (seen.generation, seen.text)) place.copies)
    × (m ≤ length seen.copies)
unfolding standing
standing_copies image place m seen e =
    let it = found m (held image place) seen e in
    let (k, lt, at) = it.0 in (
      subst (λ (s : Seen). s.copies ≡ copies_that (λ copy. holds image place copy (s.generation, s.text))
          place.copies) at
          (held_copies image place k seen lt),
      it.1,
    )

-- what is found is what stands
pub standing_stands : (image : Image) (place : Place) (m : ℕ) (seen : Seen) → 1 ≤ m
    → standing image place m ≡ Some seen
    → IsStanding image place m seen.generation seen.text
unfolding standing
standing_stands image place m seen positive e =
    let it = standing_copies image place m seen e in
    record {
      enough = held_by image place m (text_of seen) (subst (λ (cs : List ℕ). m ≤ length cs) it.0 it.1);
      greatest = λ g t some. greatest_found m (held image place) seen (g, t) (held_in_order image place place.copies)
          positive e
          (subst (λ (cs : List ℕ). m ≤ length cs) (sym (copies_of image place place.copies (g, t)))
          (by_holding image place m (g, t) some));
    }

-- where none is found, nothing stands
pub standing_none : (image : Image) (place : Place) (m : ℕ) → 1 ≤ m → standing image place m ≡ None
    → HasNoStanding image place m
unfolding standing
standing_none image place m positive e g t some =
    none_found m (held image place) (g, t) positive e
    (subst (λ (cs : List ℕ). m ≤ length cs) (sym (copies_of image place place.copies (g, t)))
    (by_holding image place m (g, t) some))

-- and where nothing stands, none is found
pub none_standing : (image : Image) (place : Place) (m : ℕ) → HasNoStanding image place m
    → standing image place m ≡ None
none_standing image place m nothing = go (standing image place m) refl
  where
    go : (answer : Option Seen) → standing image place m ≡ answer → standing image place m ≡ None
    go None e = e
    go (Some seen) e =
        let it = standing_copies image place m seen e in
        absurd (nothing seen.generation seen.text
        (held_by image place m (text_of seen) (subst (λ (cs : List ℕ). m ≤ length cs) it.0 it.1)))

-- where no two held texts have one generation, what stands is found
pub stands_standing : (image : Image) (place : Place) (m generation : ℕ) (text : List ℕ) → 1 ≤ m
    → IsOneEach image place
    → IsStanding image place m generation text
    → (seen : Seen) × (standing image place m ≡ Some seen) × (seen.generation ≡ generation) × (seen.text ≡ text)
stands_standing image place m generation text positive one stands = go (standing image place m) refl
  where
    holder : (g : ℕ) (t : List ℕ) → IsHeldBy image place m g t
        → (copy : ℕ) × (copy < place.copies) × Holds image place copy g t
    holder g t some =
        let many = by_holding image place m (g, t) some in
        let (copy, lt, e) = some_passes (λ c. holds image place c (g, t)) place.copies (omega (arith, many, positive))
        in
        (copy, lt, holds_is image place copy (g, t) e)

    go : (answer : Option Seen) → standing image place m ≡ answer
        → (seen : Seen) × (standing image place m ≡ Some seen) × (seen.generation ≡ generation)
        × (seen.text ≡ text)
    go None e = absurd (standing_none image place m positive e generation text stands.enough)
    go (Some seen) e =
        let it = standing_stands image place m seen positive e in
        let low = it.greatest generation text stands.enough in
        let high = stands.greatest seen.generation seen.text it.enough in
        let same : seen.generation ≡ generation = omega (arith, low, high) in
        let (a, alt, va) = holder seen.generation seen.text it.enough in
        let (b, blt, vb) = holder generation text stands.enough in (
          seen,
          e,
          same,
          one a b generation seen.text text alt blt
              (subst (λ (g : ℕ). Holds image place a g seen.text) same va) vb,
        )
