-- How a call on a device in memory answers, by what its parts made of the orders.
use Rattle.std.proofs.Common.{true, false, refl, sym, ap, ◌∙◌, suc, ◌||◌, inr, true≢false}
use Rattle.disk_model.specs.declared.orders.Orders.{Orders}
use Rattle.per_base.specs.Causes.{raised}
use Rattle.disk_model.specs.Orders.{stops, AnswersAsPlanned, FailsByMemoryAlone}
use Rattle.disk_model.specs.Orders.{Begins, RunsOut}

-- the plan or the stop makes it fail
pub fails_as_planned : (old new : Orders) → Begins old new true → AnswersAsPlanned old new true
fails_as_planned old new begins = record {
  due = λ due. (refl, begins.starved);
  starves = λ free fails. absurd (true≢false (begins.due ∙ free));
  fails = begins.fails;
  passes = λ passes. absurd (true≢false passes);
  planned = begins.planned;
  stopped = begins.stopped;
}

-- which it does only where there is a plan or a stop
pub planned_by_orders : (old new : Orders) → Begins old new true → FailsByMemoryAlone old new
planned_by_orders old new begins none = absurd (true≢false (begins.due ∙ ap (λ b. b || stops old 0) (none.planned 0)
    ∙ none.stopped 0))

-- memory ran out after it began
pub fails_by_memory : (old mid new : Orders) → Begins old mid false → RunsOut mid new → AnswersAsPlanned old new true
fails_by_memory old mid new begins wants = record {
  due = λ due. absurd (true≢false (sym due ∙ sym begins.due));
  starves = λ free fails. wants.starved ∙ ap raised begins.starved;
  fails = λ fails. wants.faults ∙ ap raised (begins.passes refl);
  passes = λ passes. absurd (true≢false passes);
  planned = λ k. wants.planned k ∙ begins.planned k;
  stopped = λ k. wants.stopped k ∙ begins.stopped k;
}

-- which is counted beside the fault
pub memory_alone : (old mid new : Orders) → Begins old mid false → RunsOut mid new → FailsByMemoryAlone old new
memory_alone old mid new begins wants none = (
  record {
    planned = λ k. wants.planned k ∙ begins.planned k ∙ none.planned (suc k);
    stopped = λ k. wants.stopped k ∙ begins.stopped k ∙ none.stopped (suc k);
  },
  inr (wants.faults ∙ ap raised (begins.passes refl), wants.starved ∙ ap raised begins.starved),
)
