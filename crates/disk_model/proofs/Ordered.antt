-- Plans of numbers: no number names a call past the greatest.
use Rattle.std.proofs.Common.{◌≡◌, ℕ, suc, ◌^◌, ◌<◌, ◌≤◌, false, ◌≢◌, List, [], ◌∷◌, length, refl, arith, ne_eqb}
use Rattle.std.proofs.Common.{get_or}
use Rattle.disk_model.specs.Orders.{named_in}

pub none_named : (numbers : List ℕ) (k : ℕ) → ((i d : ℕ) → i < length numbers → get_or numbers i d < 2 ^ 64)
    → 2 ^ 64 ≤ k → named_in numbers k ≡ false
none_named [] k small past = refl
none_named (n ∷ numbers) k small past =
    let small_n : n < 2 ^ 64 = small 0 0 (omega arith) in
    let apart : n ≢ k = λ e. omega arith in
    rw (ne_eqb n k apart) (none_named numbers k (λ i d lt. small (suc i) d (omega arith)) past)
