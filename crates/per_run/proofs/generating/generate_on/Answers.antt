-- All lines are handled and counted; or memory ran out.
use Rattle.std.proofs.Common.{refl}
use Rattle.run_model.specs.Turns.{replies_of}
use Rattle.per_run.proofs.Fresh.{counted_none, generates_all, generates_short}
use Rattle.per_run.proofs.generating.generate_on.Goals as goal

pub returns-in-Ok-clause-job : goal.returns-in-Ok-clause-job
returns-in-Ok-clause-job g c = λ old middle begun.
    let counted = c.in-Ok.ensures.counted middle (counted_none _ _ _ _ _ _ _ begun c.new.ensures) in
    generates_all _ _ c.args.number _ _ _ _ _ _ _ _ _ _ begun counted
    (c.write_summary.ensures.output (replies_of counted.turns) counted.tallies) c.write_summary.ensures.status

pub returns-clause-job : goal.returns-clause-job
returns-clause-job g c = λ old middle begun.
    generates_short _ _ c.args.number _ _ _ _ _ _ begun
    (c.in-Err.ensures.short refl c.applications_stand.ensures middle (counted_none _ _ _ _ _ _ _ begun c.new.ensures))
