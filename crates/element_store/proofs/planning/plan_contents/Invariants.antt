use Rattle.std.proofs.Common.{take}
use Rattle.element_store.specs.Plans.{IsPlanOf}
use Rattle.element_store.proofs.planning.plan_contents.Given as goal

abbrev pub invariant-loop-fresh : goal.invariant-loop-fresh
invariant-loop-fresh l = IsPlanOf l.generation (take l.fresh-index l.contents) l.fn.used l.used l.entries.items
    l.jobs.items
