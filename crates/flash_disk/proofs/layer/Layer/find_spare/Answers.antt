use Rattle.std.proofs.Common.{refl}
use Rattle.flash_disk.proofs.Steps.{nothing_then, step_as, step_fails, step_of}
use Rattle.flash_disk.proofs.layer.Layer.find_spare.Goals as goal

pub returns-in_err-is_spare-clause-step : goal.returns-in_err-is_spare-clause-step
returns-in_err-is_spare-clause-step g c = step_fails c.from_residual.result _ c.from_residual.ensures.1
    (step_of (nothing_then c.loop-block.invariant.reads c.in_err-is_spare.ensures.reads) refl refl refl refl refl refl)

pub returns-then-branch-clause-step : goal.returns-then-branch-clause-step
returns-then-branch-clause-step g c = step_as
    (step_of (nothing_then c.loop-block.invariant.reads c.in_ok-is_spare.ensures.reads) refl refl refl refl refl refl)
    tt

pub returns-clause-step : goal.returns-clause-step
returns-clause-step g c = step_as (step_of c.loop-block.invariant.reads refl refl refl refl refl refl) tt
