-- States of the hasher that two contents share.
use Rattle.std.proofs.Common.{◌≡◌, ℕ, ◌+◌, ◌*◌, ◌<◌, ◌≤◌, List, length, get_or, take, sym, ap, ◌∙◌, subst, arith}
use Rattle.std.proofs.lemmas.List.{get_or-take, length-take-le, take-take}
use Rattle.sha2.specs.Hashers.{Holds256}
use Rattle.sha2.specs.declared.Sha256.{Sha256}
use Rattle.block_files.specs.States.{AreStatesOf}

-- states before the first byte that differs are those of both
pub shared_states : (bytes was : List ℕ) (states : List Sha256) (n : ℕ) → AreStatesOf was states → n ≤ length states
    → take (32768 * n) bytes ≡ take (32768 * n) was → AreStatesOf bytes (take n states)
shared_states bytes was states n are le same i d lt =
    let long = length-take-le n states le in
    let less : i < n = omega (arith, lt, long) in
    let within : 32768 * (i + 1) ≤ 32768 * n = omega (arith, less) in
    let alike : take (32768 * (i + 1)) was ≡ take (32768 * (i + 1)) bytes =
    sym (take-take (32768 * (i + 1)) (32768 * n) was within) ∙ ap (take (32768 * (i + 1))) (sym same)
    ∙ take-take (32768 * (i + 1)) (32768 * n) bytes within in
    subst (λ (t : Sha256). Holds256 t (take (32768 * (i + 1)) bytes)) (sym (get_or-take n states i d less))
    (subst (λ (m : List ℕ). Holds256 (get_or states i d) m) alike (are i d (omega (arith, less, le))))
