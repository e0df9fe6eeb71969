-- When memory may run out for a call on an open storage.
use Rattle.std.proofs.Common.{◌≡◌, sym, ◌∙◌}
use Rattle.std.specs.Prelude.{Result, Ok, Err, IfErr, IsErr, IsErrAnd}
use Rattle.per_base.specs.declared.errors.PerError.{PerError}
use Rattle.per_base.specs.declared.errors.PerError.TheVariants.{OutOfMemory}
use Rattle.per_base.specs.Refusals.{IsDue, NeedsMemory}
use Rattle.deploy_rows.specs.Rows.{◌>>=◌}

pub due_needs : {A : Type 0} (row : Result A PerError) → IsDue row → NeedsMemory row
due_needs (Ok answer) due = tt
due_needs (Err error) due = absurd due

-- what is made of a row, where no answer is refused
needs_then : {A B : Type 0} (row : Result A PerError) (next : A → Result B PerError)
    → ((x : A) → NeedsMemory (next x)) → NeedsMemory row → NeedsMemory (row >>= next)
needs_then (Ok x) next answers needs = answers x
needs_then (Err error) next answers needs = needs

-- an error that is handed on
pub handed_needs : {A B C : Type 0} (row : Result A PerError) (next : A → Result B PerError) (result : Result C PerError)
    (error : PerError) → IsErr result × IsErrAnd result (λ e. e ≡ error) → ((x : A) → NeedsMemory (next x))
    → (error ≡ OutOfMemory → NeedsMemory row) → IfErr result (λ e. e ≡ OutOfMemory → NeedsMemory (row >>= next))
handed_needs row next (Ok answer) error is answers needs = tt
handed_needs row next (Err e) error is answers needs = λ out. needs_then row next answers (needs (sym is.1 ∙ out))
