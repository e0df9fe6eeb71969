-- The length of a run, and what one costs.
use Rattle.std.proofs.Common.{◌≡◌, ℕ, ◌-◌, ◌*◌, ◌≤◌, min, List, length, take, drop, cond, Bool, false, refl, sym, ap}
use Rattle.std.proofs.Common.{◌∙◌, subst, ⊎_elim, le_refl, zero-le}
use Rattle.std.proofs.lemmas.List.{length-take, length-drop}
use Rattle.std.proofs.lemmas.Bool.{cases_Bool}
use Rattle.std.proofs.lemmas.Slice.Eq.{bytes_eq-Decides}
use Rattle.std.specs.Str.{bytes_eq}
use Rattle.changed_runs.specs.Changed.{run_of, run_cost}

-- a run has 256 bytes, or what is left of the bytes
pub length-run : (bytes : List ℕ) (j : ℕ) → length (run_of bytes j) ≡ min 256 (length bytes - 256 * j)
length-run bytes j = length-take 256 (drop (256 * j) bytes) ∙ ap (min 256) (length-drop (256 * j) bytes)

-- a run that the file holds costs nothing
pub held_costs : (old run : List ℕ) (p : ℕ) → take (length run) (drop p old) ≡ run → run_cost old p run ≡ 0
held_costs old run p same = subst (λ (b : Bool). cond b 0 (length run) ≡ 0)
    (sym ((bytes_eq-Decides (take (length run) (drop p old)) run).1 same)) refl

-- another costs its length
pub other_costs : (old run : List ℕ) (p : ℕ) → bytes_eq (take (length run) (drop p old)) run ≡ false
    → run_cost old p run ≡ length run
other_costs old run p differs = subst (λ (b : Bool). cond b 0 (length run) ≡ length run) (sym differs) refl

-- a run costs at most its length
pub cost_within : (old run : List ℕ) (p : ℕ) → run_cost old p run ≤ length run
cost_within old run p = ⊎_elim
    (λ same. subst (λ (b : Bool). cond b 0 (length run) ≤ length run) (sym same) zero-le)
    (λ differs. subst (λ (b : Bool). cond b 0 (length run) ≤ length run) (sym differs) (le_refl _))
    (cases_Bool (bytes_eq (take (length run) (drop p old)) run))
