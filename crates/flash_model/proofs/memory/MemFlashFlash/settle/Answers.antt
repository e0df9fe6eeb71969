use Rattle.std.proofs.Common.{inl, inr, ⊎_elim, sym, subst, le_of_eq}
use Rattle.flash_model.specs.declared.record.FlashCall.TheVariants.{Settle}
use Rattle.flash_model.specs.State.{IsStill}
use Rattle.flash_model.proofs.Answering.{call_done}
use Rattle.flash_model.proofs.memory.MemFlashFlash.settle.Goals as goal

pub returns-clause-state : goal.returns-clause-state
returns-clause-state c = (call_done c.args.self.now c.enter.new.self Settle
    (le_of_eq (sym c.in_ok-enter.ensures.ok.counts.faults)) c.in_ok-enter.ensures.record).state

pub returns-clause-during : goal.returns-clause-during
returns-clause-during c x past =
    let done = call_done c.args.self.now c.enter.new.self Settle (le_of_eq (sym c.in_ok-enter.ensures.ok.counts.faults))
    c.in_ok-enter.ensures.record in
    ⊎_elim (λ was. inl was) (λ new. ⊎_elim (λ within. absurd within)
    (λ is. inr (subst (λ s. IsStill s x) (sym done.state) is)) new) (done.during x past)

pub returns-clause-time : goal.returns-clause-time
returns-clause-time c = (call_done c.args.self.now c.enter.new.self Settle
    (le_of_eq (sym c.in_ok-enter.ensures.ok.counts.faults)) c.in_ok-enter.ensures.record).time
