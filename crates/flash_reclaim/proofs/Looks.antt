-- What looks leave of a disk.
use Rattle.std.proofs.Common.{◌≡◌, Bool, refl, ◌∙◌}
use Rattle.disk_model.specs.Laws.{elapses_none, elapses_on, idle_none, idle_on}
use Rattle.disk_model.specs.Medium.{Elapses, IsIdle, IsLawful, Medium, Quiet}

-- looks that all succeeded
pub record IsSeen (old new : Medium) : Type 0 where
  pub image : new.image ≡ old.image
  pub idle : Quiet old → IsIdle old new
  pub passes : new.faults ≡ old.faults
  pub time : Elapses old new

pub none_seen : {told : Bool} {m : Medium} → IsLawful told m → IsSeen m m
none_seen law = record {
  image = refl;
  idle = λ quiet. idle_none law quiet;
  passes = refl;
  time = elapses_none law;
}

pub seen_on : {a b c : Medium} → IsSeen a b → IsSeen b c → IsSeen a c
seen_on first next = record {
  image = next.image ∙ first.image;
  idle = λ quiet. let was = first.idle quiet in idle_on first.time was next.time (next.idle was.quiet);
  passes = next.passes ∙ first.passes;
  time = elapses_on first.time next.time;
}
