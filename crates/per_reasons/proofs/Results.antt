-- What follows of a result where it is not an error.
use Rattle.std.proofs.Common.{◌≡◌, Result, Ok, Err, Option, Some, IfOk, IfSome, subst}

pub if_ok : {T E : Type 0} (r : Result T E) (P Q : T → Type 0) → ((t : T) → P t → Q t) → IfOk r P → IfOk r Q
if_ok (Ok t) P Q f p = f t p
if_ok (Err e) P Q f p = tt

pub in_found : {A : Type 0} (o : Option A) (x : A) (P : A → Type 0) → Some x ≡ o → P x → IfSome o P
in_found o x P is p = subst (λ found. IfSome found P) is p
