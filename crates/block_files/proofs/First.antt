-- The first content that some copy gives, and the states that are kept of it.
use Rattle.std.proofs.Common.{◌≡◌, ◌≢◌, ℕ, List, [], ◌∷◌, ◌++◌, length, Option, Some, None, IfSome, refl, sym, ◌∙◌}
use Rattle.std.proofs.Common.{subst, Vec, Global}
use Rattle.sha2.specs.declared.Sha256.{Sha256}
use Rattle.block_files.specs.Contents.{first_content, unvoted, HaveSize}
use Rattle.block_files.specs.States.{AreOfFirst, AreStatesOf}
use Rattle.block_files.proofs.Counting.{first_size}

-- ---- one text more

abbrev pub or_else : (first next : Option (List ℕ)) → Option (List ℕ)
or_else None next = next
or_else (Some text) next = Some text

pub first_push : (given : List (Option (List ℕ))) (text : Option (List ℕ))
    → first_content (given ++ text ∷ []) ≡ or_else (first_content given) text
first_push [] None = refl
first_push [] (Some t) = refl
first_push (None ∷ given) text = first_push given text
first_push (Some t ∷ given) text = refl

-- by what there was before
more_by : (was text : Option (List ℕ)) (kept next now : Vec Sha256 Global)
    → ((t : List ℕ) → was ≡ Some t → AreStatesOf t kept.items)
    → IfSome text (λ t. AreStatesOf t next.items)
    → (was ≡ None → now ≡ next) → (was ≢ None → now ≡ kept)
    → (t : List ℕ) → or_else was text ≡ Some t → AreStatesOf t now.items
more_by (Some old) text kept next now are fresh none some t is =
    let same : now ≡ kept = some (λ e. cc) in
    subst (λ (v : Vec Sha256 Global). AreStatesOf t v.items) (sym same) (are t is)
more_by None None kept next now are fresh none some t is = cc
more_by None (Some x) kept next now are fresh none some t is =
    let same : now ≡ next = none refl in
    let bytes : x ≡ t = cc in
    subst (λ (v : Vec Sha256 Global). AreStatesOf t v.items) (sym same)
    (subst (λ (bs : List ℕ). AreStatesOf bs next.items) bytes fresh)

pub first_more : (given : List (Option (List ℕ))) (text : Option (List ℕ))
    (kept next now : Vec Sha256 Global) → AreOfFirst given kept.items
    → IfSome text (λ t. AreStatesOf t next.items)
    → (first_content given ≡ None → now ≡ next) → (first_content given ≢ None → now ≡ kept)
    → AreOfFirst (given ++ text ∷ []) now.items
first_more given text kept next now are fresh none some t is =
    more_by (first_content given) text kept next now are fresh none some t (sym (first_push given text) ∙ is)

-- ---- sizes

pub unvoted_size : (size : ℕ) (given : List (Option (List ℕ))) (value salvage : Option (List ℕ))
    → salvage ≡ unvoted value (first_content given) → HaveSize size given
    → IfSome salvage (λ text. length text ≡ size)
unvoted_size size given (Some value) None is sizes = tt
unvoted_size size given (Some value) (Some text) is sizes = cc
unvoted_size size given None salvage is sizes = first_size size given salvage is sizes
