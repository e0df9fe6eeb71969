-- A disk that models nothing: no byte, no image and no case, so that only its count of faults says anything.
use Rattle.std.specs.Prelude.{ℕ, [], false}
use Rattle.std.proofs.Common.{sym, true≢false}
use Rattle.disk_model.specs.Medium.{Medium, IsLawful}

-- the disk that models nothing, with this count of faults
abbrev pub silent_medium : ℕ → Medium
silent_medium faults = record {
  image = λ _. [];
  now = λ _. ⊥;
  moment = 0;
  since = λ _ _. ⊥;
  gave = λ _ _. ⊥;
  opens =
      λ _. Unit {0};
  agrees = λ _. Unit {0};
  apart = λ _. Unit {0};
  faults = faults;
  written = 0;
}

-- it meets the laws of a disk
pub silent_is_lawful : (faults : ℕ) → IsLawful false (silent_medium faults)
silent_is_lawful faults = record {
  counts_now = λ t c le now. now;
  only_now = λ c past. past;
  reads_one = λ told. absurd (true≢false (sym told));
  gives = λ told. absurd (true≢false (sym told));
  gave_counts = λ t c le gave. gave;
  gives_only = λ c gave. absurd gave;
  gave_left = λ t c gave. gave;
}
