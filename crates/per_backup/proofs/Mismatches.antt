-- The refusal for the least key whose type differs.
use Rattle.std.proofs.Common.{◌≡◌, ℕ, suc, ◌+◌, List, [], ◌∷◌, drop, Option, Some, None, refl, sym, ap, ◌∙◌, arith}
use Rattle.per_base.specs.declared.elements.Fresh.{Fresh}
use Rattle.per_base.specs.declared.errors.PerError.{PerError}
use Rattle.per_base.specs.Refusals.{or_next}
use Rattle.deployment_model.specs.Data.{StorageData}
use Rattle.per_backup.specs.Backups.{least_mismatch, mismatch_of}

-- from the next element on: the first refuses, or it does not
pub least_here : (s : StorageData) (fs : List Fresh) (i : ℕ) (f : Fresh) (e : PerError)
    → drop i fs ≡ f ∷ drop (suc i) fs → mismatch_of s f ≡ Some e
    → least_mismatch s (drop i fs) ≡ Some e
least_here s fs i f e at is = ap (least_mismatch s) at
    ∙ ap (λ (o : Option PerError). or_next o (least_mismatch s (drop (suc i) fs))) is

pub least_later : (s : StorageData) (fs : List Fresh) (i : ℕ) (f : Fresh) → drop i fs ≡ f ∷ drop (suc i) fs
    → mismatch_of s f ≡ None
    → least_mismatch s (drop i fs) ≡ least_mismatch s (drop (i + 1) fs)
least_later s fs i f at is = let next : suc i ≡ i + 1 = omega arith in
    ap (least_mismatch s) at ∙ ap (λ (o : Option PerError). or_next o (least_mismatch s (drop (suc i) fs))) is
    ∙ ap (λ (n : ℕ). least_mismatch s (drop n fs)) next
