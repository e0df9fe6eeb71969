-- Answers as plain data.
use Rattle.std.specs.Prelude.{List, Result, Ok, Err}
use Rattle.per_base.specs.declared.errors.PerError.{PerError}

-- a result that is a list in the program, as a list of the items' data; an error as it is
abbrev pub viewed_items : {A B : Type 0} → (A → List B) → Result A PerError → Result (List B) PerError
viewed_items items (Ok x) = Ok (items x)
viewed_items items (Err e) = Err e
