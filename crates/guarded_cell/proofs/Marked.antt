-- Which slots hold a text, as the flags of a look say it, and which copies lack a text that was seen.
use Rattle.std.proofs.Common.{◌≡◌, ◌∙◌, ℕ, ◌+◌, ◌%◌, ◌<◌, List, length, get_or, set, Bool, true, false, not}
use Rattle.std.proofs.Common.{Option, Some, None, is_some, refl, sym, ap, subst, ⊎_elim, eq-eqb, ne_eqb, eqb, arith}
use Rattle.std.proofs.Common.{get_or-set_other, get_or-set_same}
use Rattle.std.proofs.lemmas.Bool.{cases_eq, cases_lt, cond-true, cond-false}
use Rattle.hash_guard.specs.SealedText.{VerifiesAs, verified}
use Rattle.hash_guard.specs.Laws.{verifies-verified, verified-verifies}
use Rattle.disk_model.specs.Image.{Image}
use Rattle.disk_model.specs.Orders.{named_in}
use Rattle.disk_model.specs.Place.{slot}
use Rattle.disk_model.specs.declared.place.Place.{Place}
use Rattle.guarded_cell.specs.lemmas.CopyLaws.{named_passing}
use Rattle.guarded_cell.specs.Held.{Text, holds}
use Rattle.guarded_cell.specs.lemmas.HeldLaws.{holds_is, is_holds}
use Rattle.guarded_cell.specs.Register.{own, other}
use Rattle.guarded_cell.specs.Seens.{IsSeenOn}
use Rattle.guarded_cell.specs.Slots.{AreFlags, IsFlag, IsSlotsOf, Picks, Tells, other_flags}
use Rattle.guarded_cell.specs.declared.looking.Seen.{Seen}
use Rattle.guarded_cell.specs.declared.slots.Pick.TheVariants.{Lacking, Verifying}
use Rattle.guarded_cell.specs.declared.slots.Slots.{Slots}

-- ---- one slot

pub flag_of_none : (bytes : List ℕ) → verified bytes ≡ None → IsFlag bytes false
flag_of_none bytes e = sym (ap is_some e)

pub flag_of_some : (bytes : List ℕ) (g : ℕ) (t : List ℕ) → VerifiesAs bytes g t → IsFlag bytes true
flag_of_some bytes g t v = sym (ap is_some (verifies-verified bytes g t v))

flag_tells : (bytes : List ℕ) (g : ℕ) (t : List ℕ) (flag : Bool) → IsFlag bytes flag → Tells Verifying flag bytes g t
flag_tells bytes g t flag e = go (verified bytes) refl
  where
    go : (answer : Option Text) → verified bytes ≡ answer → Tells Verifying flag bytes g t
    go None is = subst (λ (b : Bool). Tells Verifying b bytes g t) (sym (e ∙ ap is_some is)) (λ h body v.
        let some = verifies-verified bytes h body v in
        let differ : None ≡ Some (h, body) = sym is ∙ some in cc)
    go (Some u) is = subst (λ (b : Bool). Tells Verifying b bytes g t) (sym (e ∙ ap is_some is))
        (λ blank. blank u.0 u.1 (verified-verifies bytes u.0 u.1 is))

-- ---- all slots

-- one copy more
pub flags_more : (image : Image) (place : Place) (parity k : ℕ) (flags : List Bool) (flag : Bool) → length flags ≡ 8
    → k < 8
    → AreFlags image place k parity flags → IsFlag (image (slot place k parity)) flag
    → AreFlags image place (k + 1) parity (set flags k flag)
flags_more image place parity k flags flag long lt before here copy below = ⊎_elim
    (λ earlier. get_or-set_other flags k copy flag false (λ e. omega (arith, e, earlier)) ∙ before copy earlier)
    (λ last.
    let e : copy ≡ k = omega (arith, last, below) in
    subst (λ (x : ℕ). IsFlag (image (slot place x parity)) (get_or (set flags k flag) x false)) (sym e)
    (get_or-set_same flags k flag false (omega (arith, long, lt)) ∙ here))
    (cases_lt copy k)

-- the slots of the other parity that hold a text are stale
pub stale_slots : (image : Image) (place : Place) (g : ℕ) (t : List ℕ) (slots : Slots) → IsSlotsOf image place slots
    → Picks Verifying (other_flags slots g) image place (other g) g t
stale_slots image place g t slots are copy lt = ⊎_elim
    (λ even.
    let one : other g ≡ 1 = omega (arith, even) in
    let odds : other_flags slots g ≡ slots.odd =
    cond-true (eqb (g % 2) 0) slots.odd slots.even (eq-eqb (g % 2) 0 even) in
    tells 1 slots.odd (sym one) (sym odds) (are.odd copy lt))
    (λ odd.
    let none : other g ≡ 0 = omega (arith, odd) in
    let evens : other_flags slots g ≡ slots.even =
    cond-false (eqb (g % 2) 0) slots.odd slots.even (ne_eqb (g % 2) 0 odd) in
    tells 0 slots.even (sym none) (sym evens) (are.even copy lt))
    (cases_eq (g % 2) 0)
  where
    tells : (parity : ℕ) (flags : List Bool) → parity ≡ other g → flags ≡ other_flags slots g
        → IsFlag (image (slot place copy parity)) (get_or flags copy false)
        → Tells Verifying (get_or (other_flags slots g) copy false) (image (slot place copy (other g))) g t
    tells parity flags p f is =
        subst (λ (x : ℕ). Tells Verifying (get_or (other_flags slots g) copy false) (image (slot place copy x)) g t) p
        (subst (λ (xs : List Bool). Tells Verifying (get_or xs copy false) (image (slot place copy parity)) g t) f
        (flag_tells (image (slot place copy parity)) g t (get_or flags copy false) is))

-- ---- a text that was seen

holds_tells : (image : Image) (place : Place) (copy g : ℕ) (t : List ℕ) (flag : Bool)
    → flag ≡ not (holds image place copy (g, t))
    → Tells Lacking flag (image (slot place copy (own g))) g t
holds_tells image place copy g t flag e = go (holds image place copy (g, t)) refl
  where
    go : (answer : Bool) → holds image place copy (g, t) ≡ answer
        → Tells Lacking flag (image (slot place copy (own g))) g t
    go true is = subst (λ (b : Bool). Tells Lacking b (image (slot place copy (own g))) g t) (sym (e ∙ ap not is))
        (holds_is image place copy (g, t) is)
    go false is = subst (λ (b : Bool). Tells Lacking b (image (slot place copy (own g))) g t) (sym (e ∙ ap not is))
        (λ v.
        let yes = is_holds image place copy (g, t) v in
        let differ : false ≡ true = sym is ∙ yes in cc)

-- the copies that are not named lack it
pub seen_lacking : (image : Image) (place : Place) (seen : Seen) (flags : List Bool) → IsSeenOn image place
    seen
    → ((copy : ℕ) → copy < place.copies → get_or flags copy false ≡ not (named_in seen.copies (copy + 1)))
    → Picks Lacking flags image place (own seen.generation) seen.generation seen.text
seen_lacking image place seen flags are is copy lt =
    holds_tells image place copy seen.generation seen.text (get_or flags copy false)
    (is copy lt ∙ ap (λ (xs : List ℕ). not (named_in xs (copy + 1))) are
    ∙ ap not (named_passing (λ c. holds image place c (seen.generation, seen.text)) place.copies copy lt))
