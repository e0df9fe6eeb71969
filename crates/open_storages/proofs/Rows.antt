-- What is made of the result of a row.
use Rattle.std.proofs.Common.{◌≡◌, ap, sym, subst}
use Rattle.std.specs.Prelude.{Result, Ok, Err, IfErr, IfOk, OnErr, IsErr, IsErrAnd}
use Rattle.per_base.specs.declared.errors.PerError.{PerError}
use Rattle.per_base.specs.Refusals.{IsRefusal}
use Rattle.command_text.specs.declared.replies.Answer.{Answer}
use Rattle.command_text.specs.Replies.{HasText}
use Rattle.deploy_rows.specs.Rows.{◌>>=◌}
use Rattle.open_storages.specs.Answers.{IsAnsweredAsRow}

-- a refusal of the row is one of what is made of it
pub refused_then : {A B : Type 0} (row : Result A PerError) (next : A → Result B PerError) (error : PerError)
    → IsRefusal row error → IsRefusal (row >>= next) error
refused_then {A} {B} row next error refusal = λ differs. ap (λ (r : Result A PerError). r >>= next) (refusal differs)

-- and so is one that is due for sure
pub due_then : {A B : Type 0} (row : Result A PerError) (next : A → Result B PerError) (error : PerError)
    → row ≡ Err error → IsRefusal (row >>= next) error
due_then {A} {B} row next error due = λ differs. ap (λ (r : Result A PerError). r >>= next) due

pub answered_then : {A B : Type 0} (row : Result A PerError) (next : A → Result B PerError) (x : A) → row ≡ Ok x
    → (row >>= next) ≡ next x
answered_then {A} {B} row next x done = ap (λ (r : Result A PerError). r >>= next) done

-- a refusal that is handed on
pub handed_on : {S A : Type 0} (row : Result A PerError) (next : A → Result (Answer × S) PerError) (old new : S)
    (result : Result Answer PerError) (error : PerError)
    → IsErr result × IsErrAnd result (λ e. e ≡ error) → IsRefusal row error → new ≡ old
    → IsAnsweredAsRow (row >>= next) old new result
handed_on {S} {A} row next old new (Ok answer) error is refusal same = absurd is.1
handed_on {S} {A} row next old new (Err e) error is refusal same =
    (refused_then row next e (subst (λ (x : PerError). IsRefusal row x) (sym is.1) refusal), same)

-- ---- what an answered call says in the words of a session

-- the answer, with what comes of the session
abbrev pub wrapped : {S T : Type 0} → (S → T) → Answer × S → Result (Answer × T) PerError
wrapped wrap x = Ok (x.0, wrap x.1)

module _ {S T : Type 0} (row : Result (Answer × S) PerError) (wrap : S → T) (old new : S) where
  pub answered_ok : (result : Result Answer PerError) → IsAnsweredAsRow row old new result
      → IfOk result (λ answer. (row >>= wrapped wrap) ≡ Ok (answer, wrap new))
  answered_ok (Ok answer) is = answered_then row (wrapped wrap) (answer, new) is.0
  answered_ok (Err error) is = tt

  pub answered_refused : (result : Result Answer PerError) → IsAnsweredAsRow row old new result
      → IfErr result (λ error. IsRefusal (row >>= wrapped wrap) error)
  answered_refused (Ok answer) is = tt
  answered_refused (Err error) is = refused_then row (wrapped wrap) error is.0

  pub answered_unchanged : (result : Result Answer PerError) → IsAnsweredAsRow row old new result
      → OnErr result (wrap new ≡ wrap old)
  answered_unchanged (Ok answer) is = tt
  answered_unchanged (Err error) is = ap wrap is.1

  pub answered_text : (result : Result Answer PerError) → IsAnsweredAsRow row old new result → IfOk result HasText
  answered_text (Ok answer) is = is.1
  answered_text (Err error) is = tt
