-- Files that calls leave alone, from call to call.
use Rattle.std.proofs.Common.{ℕ, Bool, refl, ◌∙◌}
use Rattle.disk_model.specs.Frame.{IsSettledOn}
use Rattle.disk_model.specs.Laws.{goes_none, goes_on}
use Rattle.disk_model.specs.Medium.{Elapses, IsLawful, Medium, Quiet}
use Rattle.disk_model.specs.lemmas.Frames.{settled_before, settled_less, settled_on}
use Rattle.deploy.specs.Clauses.{Leaves}

-- ---- calls

-- no call leaves all files alone
pub leaves_none : (told : Bool) (Files : ℕ → Type 0) (m : Medium) → IsLawful told m → Leaves told Files m m
leaves_none told Files m law = record {
  at_the_end = λ tells f is. refl;
  throughout = λ tells quiet. goes_none (IsSettledOn Files m.image) law (λ c now. settled_on Files (quiet c now));
}

-- so do calls one after another, where the first ones end quiet
pub leaves_on : (told : Bool) (Files : ℕ → Type 0) (old mid new : Medium) → Elapses old mid → Elapses mid new
    → (Quiet old → Quiet mid)
    → Leaves told Files old mid → Leaves told Files mid new → Leaves told Files old new
leaves_on told Files old mid new first next quiets was now = record {
  at_the_end = λ tells f is. now.at_the_end tells f is ∙ was.at_the_end tells f is;
  throughout = λ tells quiet. goes_on (IsSettledOn Files old.image) first next (was.throughout tells quiet)
      (λ c past. settled_before (was.at_the_end tells) (now.throughout tells (quiets quiet) c past));
}

-- what is left alone of many files is so of fewer
pub leaves_less : (told : Bool) (Files Fewer : ℕ → Type 0) (old new : Medium) → ((f : ℕ) → Fewer f → Files f)
    → Leaves told Files old new
    → Leaves told Fewer old new
leaves_less told Files Fewer old new less leaves = record {
  at_the_end = λ tells f is. leaves.at_the_end tells f (less f is);
  throughout = λ tells quiet c past. settled_less less (leaves.throughout tells quiet c past);
}
