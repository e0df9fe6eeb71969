-- Votes that compute: of a, b and b two agree on b; one copy is a; of a, none and b no two agree.
use Rattle.std.specs.Prelude.{◌≡◌, [], ◌∷◌, Some, None, codes}
use Rattle.std.proofs.Common.{refl}
use Rattle.m_of_n.specs.Vote.{voted}

two_agree : voted 2 (Some (codes "a") ∷ Some (codes "b") ∷ Some (codes "b") ∷ []) ≡ Some (codes "b")
unfolding voted
two_agree = refl

one_is_enough : voted 1 (None ∷ Some (codes "a") ∷ []) ≡ Some (codes "a")
unfolding voted
one_is_enough = refl

no_two_agree : voted 2 (Some (codes "a") ∷ None ∷ Some (codes "b") ∷ []) ≡ None
unfolding voted
no_two_agree = refl
