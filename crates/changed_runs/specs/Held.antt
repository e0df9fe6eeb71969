-- What a look at a file gave: some bytes, from the start of a run on.
use Rattle.std.specs.Prelude.{◌≡◌, ℕ, ◌+◌, ◌-◌, ◌*◌, ◌<◌, ◌≤◌, List, length, take, drop, Bool, true}
use Rattle.std.specs.Str.{bytes_eq}
use Rattle.changed_runs.specs.Changed.{run_of}

-- whether the bytes that were seen of a file, which begin where run `first` does, have `run` where run j is
abbrev pub is_run_seen : (seen : List ℕ) (first j : ℕ) → List ℕ → Bool
is_run_seen seen first j run = bytes_eq (take (length run) (drop (256 * j - 256 * first) seen)) run

-- a file holds run j of `bytes` in its place, where `bytes` go to the byte `at` of it on
abbrev pub HoldsRun : (file : List ℕ) (at : ℕ) → List ℕ → (j : ℕ) → Type 0
HoldsRun file at bytes j = take (length (run_of bytes j)) (drop (at + 256 * j) file) ≡ run_of bytes j

-- Of the runs i from `first` up to j: the file, which holds `now`, has each that is seen, and each is seen that it had
-- when it held `old`.
pub record AreRunsSeen (seen : List ℕ) (first j at : ℕ) (bytes old now : List ℕ) : Type 0 where
  pub held : (i : ℕ) → first ≤ i → i < j → is_run_seen seen first i (run_of bytes i) ≡ true → HoldsRun now at bytes i
  pub kept : (i : ℕ) → first ≤ i → i < j → HoldsRun old at bytes i → is_run_seen seen first i (run_of bytes i) ≡ true
