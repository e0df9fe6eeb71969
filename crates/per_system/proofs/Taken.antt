-- What a writer took, after calls that took nothing.
use Rattle.std.proofs.Common.{◌≡◌, List, ℕ, ◌++◌, subst, Option, None, Some, Result, Ok, Err}
use Rattle.std.proofs.KnownBytes.{Keeps-trans}
use Rattle.std.specs.Io.KnownBytes.{Appends, Keeps, WriteAppends}

appends_after : (a b c : Option (List ℕ)) (bs : List ℕ) → Keeps a b → Appends b c bs → Appends a c bs
appends_after None b c bs first second = _
appends_after (Some xs) None c bs first second = elim first [ ]
appends_after (Some xs) (Some ys) None bs first second = elim second [ ]
appends_after (Some xs) (Some ys) (Some zs) bs first second = subst (λ it. zs ≡ it ++ bs) first second

pub taken_after : {E : Type 0} (a b c : Option (List ℕ)) (r : Result ℕ E) (bytes : List ℕ) → Keeps a b
    → WriteAppends b c r bytes → WriteAppends a c r bytes
taken_after a b c (Ok n) bytes first second = appends_after a b c _ first second
taken_after a b c (Err e) bytes first second = Keeps-trans a b c first second
