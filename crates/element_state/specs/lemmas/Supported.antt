-- The copies that a list names, and those that support a text.
use Rattle.std.proofs.Common.{◌≡◌, ℕ, zero, suc, ◌+◌, ◌<◌, ◌≤◌, List, [], ◌∷◌, ◌++◌, length, Bool, true, false, cond}
use Rattle.std.proofs.Common.{◌&&◌, length-append, refl, sym, ap, ◌∙◌, arith, ⊎_elim}
use Rattle.std.specs.List.{Contains, list_all}
use Rattle.std.specs.Prelude.{◌==◌}
use Rattle.std.proofs.lemmas.Bool.{cases_Bool, false_from_ne_true, eqb-true, eq-eqb, lt-leb}
use Rattle.per_base.specs.declared.elements.Scope.{Scope}
use Rattle.per_base.specs.declared.elements.Scope.TheVariants as scope
use Rattle.element_state.specs.declared.shapes.Shape.{Shape}
use Rattle.element_state.specs.Surveys.{IsHeldOn}
use Rattle.disk_model.specs.declared.place.Place.{Place}
use Rattle.disk_model.specs.Image.{Image}
use Rattle.disk_model.specs.Orders.{named_in}
use Rattle.guarded_cell.specs.Held.{copies_that}
use Rattle.guarded_cell.specs.lemmas.CopyLaws.{named_passing}
use Rattle.element_state.specs.Fit.{FitText}
use Rattle.element_state.specs.Views.{holds_text, holds_all, counts, supporters, qualifies}
use Rattle.element_state.specs.Chosen.{is_whole_of}

-- tests that agree below n pass the same copies
pub copies_alike : (s t : ℕ → Bool) (n : ℕ) → ((copy : ℕ) → copy < n → s copy ≡ t copy)
    → copies_that s n ≡ copies_that t n
copies_alike s t zero same = refl
copies_alike s t (suc n) same =
    ap (λ (l : List ℕ). l ++ cond (s n) ((n + 1) ∷ []) [])
    (copies_alike s t n (λ copy lt. same copy (omega (arith, lt))))
    ∙ ap (λ b. copies_that t n ++ cond b ((n + 1) ∷ []) []) (same n (omega arith))

both_or_one : (a b : Bool) (xs ys more : List ℕ) → length xs ≤ length ys
    → length (xs ++ cond (a && b) more []) ≤ length (ys ++ cond a more [])
both_or_one true true xs ys more le = omega (arith, length-append xs more, length-append ys more, le)
both_or_one true false xs ys more le = omega (arith, length-append xs [], length-append ys more, le)
both_or_one false b xs ys more le = omega (arith, length-append xs [], length-append ys [], le)

-- fewer copies pass both tests than the first alone
pub copies_fewer : (s t : ℕ → Bool) (n : ℕ) → length (copies_that (λ copy. s copy && t copy) n)
    ≤ length (copies_that s n)
copies_fewer s t zero = omega arith
copies_fewer s t (suc n) = both_or_one (s n) (t n) (copies_that (λ copy. s copy && t copy) n) (copies_that s n)
    ((n + 1) ∷ []) (copies_fewer s t n)

pub all_alike : (image : Image) (place : Place) (text : FitText)
    → text.0.copies ≡ copies_that (holds_text image place text) place.copies
    → copies_that (is_whole_of image place text.0.copies text.1.entries) place.copies
    ≡ copies_that (holds_all image place text) place.copies
all_alike image place text are = copies_alike _ _ place.copies (λ copy lt.
    ap (λ b. b && list_all (λ e. counts image place e copy) text.1.entries)
    (ap (λ l. named_in l (copy + 1)) are ∙ named_passing (holds_text image place text) place.copies copy lt))

-- with too few copies that hold it no text qualifies
few_support : (image : Image) (place : Place) (text : FitText) (s : Scope)
    → text.0.copies ≡ copies_that (holds_text image place text) place.copies
    → length (supporters s image place text) ≤ length text.0.copies
few_support image place text scope.Element are = omega arith
few_support image place text scope.Storage are =
    let fewer = copies_fewer (holds_text image place text)
    (λ copy. list_all (λ e. counts image place e copy) text.1.entries) place.copies in
    let long = ap length are in omega (arith, fewer, long)

pub too_few : (image : Image) (shape : Shape) (text : FitText) → IsHeldOn image shape text
    → length text.0.copies < shape.m → qualifies image shape text ≡ false
too_few image shape text are few =
    let most = few_support image shape.place text shape.scope are in
    lt-leb shape.m (length (supporters shape.scope image shape.place text)) (omega (arith, most, few))
