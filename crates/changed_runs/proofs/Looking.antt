-- What a look gives of the runs that it read.
use Rattle.std.proofs.Common.{◌≡◌, ℕ, suc, ◌+◌, ◌-◌, ◌*◌, ◌<◌, ◌≤◌, min, List, length, take, drop, get_or}
use Rattle.std.proofs.Common.{sym, ap, ◌∙◌, arith}
use Rattle.std.proofs.Common.{⊎_elim}
use Rattle.std.proofs.lemmas.Bool.{cases_lt}
use Rattle.std.proofs.lemmas.List.{ext_get_or, length-take, length-drop, get_or-take, get_or-drop, take_min, drop_all}
use Rattle.std.proofs.lemmas.Slice.Eq.{bytes_eq-Decides}
use Rattle.changed_runs.specs.Changed.{run_of}
use Rattle.changed_runs.specs.Held.{AreRunsSeen, HoldsRun}
use Rattle.changed_runs.specs.lemmas.RunLaws.{length-run}

module _ (file got bytes : List ℕ) (at first j n : ℕ) (inside : 256 * j < length bytes)
    (count : n ≡ min (min (length bytes) (256 * (j + 1)) - 256 * first) (length file - (at + 256 * first)))
    (is : take n got ≡ take n (drop (at + 256 * first) file)) where
  -- each run that was read is as in the file
  run_is : (i : ℕ) → first ≤ i → i ≤ j
      → take (length (run_of bytes i)) (drop (256 * i - 256 * first) (take n got))
      ≡ take (length (run_of bytes i)) (drop (at + 256 * i) file)
  run_is i from to =
      let len = length (run_of bytes i) in
      let d = 256 * i - 256 * first in
      let a = at + 256 * first in
      let rest = drop a file in
      let l : length rest ≡ length file - a = length-drop a file in
      let e : a + d ≡ at + 256 * i = omega (arith, from) in
      let short : d + len ≤ min (length bytes) (256 * (j + 1)) - 256 * first =
      omega (arith, length-run bytes i, from, to, inside) in
      let left : length (take len (drop d (take n rest))) ≡ min len (min n (length rest) - d) =
      length-take len (drop d (take n rest)) ∙ ap (min len) (length-drop d (take n rest)
      ∙ ap (λ (k : ℕ). k - d) (length-take n rest)) in
      let right : length (take len (drop (at + 256 * i) file)) ≡ min len (length file - (at + 256 * i)) =
      length-take len (drop (at + 256 * i) file) ∙ ap (min len) (length-drop (at + 256 * i) file) in
      ap (λ (xs : List ℕ). take len (drop d xs)) is
      ∙ ext_get_or 0 (take len (drop d (take n rest))) (take len (drop (at + 256 * i) file))
      (omega (arith, left, right, count, l, short, e))
      (λ k lt.
      let below : k < len = omega (arith, left, lt) in
      let within : d + k < n = omega (arith, left, lt, l) in
      get_or-take len (drop d (take n rest)) k 0 below ∙ get_or-drop d (take n rest) k 0
      ∙ get_or-take n rest (d + k) 0 within ∙ get_or-drop a file (d + k) 0
      ∙ ap (λ (q : ℕ). get_or file q 0) (omega (arith, e))
      ∙ sym (get_or-drop (at + 256 * i) file k 0)
      ∙ sym (get_or-take len (drop (at + 256 * i) file) k 0 below))

  pub freshly_seen : (old : List ℕ) → ((i : ℕ) → i ≤ j → HoldsRun old at bytes i → HoldsRun file at bytes i)
      → AreRunsSeen (take n got) first (suc j) at bytes old file
  freshly_seen old keeps = record {
    held = λ i from below yes.
        let run = run_of bytes i in
        sym (run_is i from (omega (arith, below)))
        ∙ (bytes_eq-Decides (take (length run) (drop (256 * i - 256 * first) (take n got))) run).0 yes;
    kept = λ i from below was.
        let run = run_of bytes i in
        (bytes_eq-Decides (take (length run) (drop (256 * i - 256 * first) (take n got))) run).1
        (run_is i from (omega (arith, below)) ∙ keeps i (omega (arith, below)) was);
  }

-- dropping more than there is
drop_min : (a : ℕ) (xs : List ℕ) → drop (min (length xs) a) xs ≡ drop a xs
drop_min a xs = ⊎_elim
    (λ lt. ap (λ (n : ℕ). drop n xs) (omega (arith, lt)))
    (λ ge.
    let e : min (length xs) a ≡ length xs = omega (arith, ge) in
    ap (λ (n : ℕ). drop n xs) e ∙ drop_all (length xs) xs (omega arith) ∙ sym (drop_all a xs (omega (arith, ge))))
    (cases_lt a (length xs))

-- a run that is at some place among bytes, as far as they reach
pub front_is : (held run rest : List ℕ) (a s n : ℕ) → rest ≡ drop s held → s ≡ min (length held) a
    → n ≡ min (length rest) (length run) → take n rest ≡ take (length run) (drop a held)
front_is held run rest a s n is start size =
    ap (λ (k : ℕ). take k rest) (omega (arith, size))
    ∙ take_min (length run) rest
    ∙ ap (take (length run)) (is ∙ ap (λ (k : ℕ). drop k held) start ∙ drop_min a held)
