-- The line is the first bytes of the one that is given, and its number the next.
use Rattle.std.proofs.Common.{ℕ, List, ◌∙◌, [], refl, subst, arith}
use Rattle.run_model.specs.Converters.{converters_of}
use Rattle.run_model.specs.Runtimes.{runtime_at}
use Rattle.per_runtime.specs.Memories.{memory_of}
use Rattle.per_run.specs.Needs.{HandlingMayStarve}
use Rattle.per_run.proofs.Fronts.{keeps_front}
use Rattle.per_run.proofs.reader.handle_whole.Goals as goal

pub returns-in-Ok-clause-goes_on : goal.returns-in-Ok-clause-goes_on
returns-in-Ok-clause-goes_on g c = λ start before lines text front handled.
    c.in-Ok.ensures.goes_on start before lines text
    (keeps_front 262145 [] [] c.args.line.now _ refl (omega arith) ∙ front) handled

pub returns-in-Err-clause-ends : goal.returns-in-Err-clause-ends
returns-in-Err-clause-ends g c = λ laws start before lines others text front number few handled.
    c.in-Err.ensures.ends laws start before lines others text
    (keeps_front 262145 [] [] c.args.line.now _ refl (omega arith) ∙ front)
    (omega (arith, c.saturating_add-number.ensures, number, few)) handled

pub returns-in-Err-clause-needs : goal.returns-in-Err-clause-needs
returns-in-Err-clause-needs g c = λ told starved.
    subst (λ (t : List ℕ). HandlingMayStarve g.D.Disk.told (converters_of c.args.migrations.now) t
    (runtime_at (memory_of c.args.reader.now.runtime) (g.D.Disk.medium c.args.disk.now))
    (runtime_at (memory_of c.handle_text.new.runtime) (g.D.Disk.medium c.handle_text.new.disk)))
    (keeps_front 262145 [] [] c.args.line.now _ refl (omega arith)) (c.in-Err.ensures.needs told starved)
