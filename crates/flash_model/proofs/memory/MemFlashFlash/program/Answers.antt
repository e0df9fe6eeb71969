use Rattle.std.proofs.Common.{inl, inr, ⊎_elim, sym, ap, ◌∙◌, subst, List, ℕ}
use Rattle.flash_model.specs.declared.record.FlashCall.TheVariants.{Program}
use Rattle.flash_model.specs.State.{IsStill, ProgramCase, programmed}
use Rattle.flash_model.specs.Memory.{mem_flash}
use Rattle.flash_model.proofs.Answering.{Done, begin_failed, want_after, done_after}
use Rattle.flash_model.proofs.memory.MemFlashFlash.program.Goals as goal

pub returns-in_err-begin-clause-during : goal.returns-in_err-begin-clause-during
returns-in_err-begin-clause-during c x past =
    inl ((begin_failed c.args.self.now c.begin.new.self c.in_err-begin.ensures.begun
    c.in_err-begin.ensures.record).still x past)

pub returns-in_err-begin-clause-time : goal.returns-in_err-begin-clause-time
returns-in_err-begin-clause-time c = (begin_failed c.args.self.now c.begin.new.self c.in_err-begin.ensures.begun
    c.in_err-begin.ensures.record).time

done : (c : goal.In-Ok) → Done (Program c.args.block c.args.page c.in-Ok.ensures.ok.0) c.args.self.now
    c.program_page.new.self
done c = done_after c.args.self.now c.begin.new.self c.program_page.new.self
    (Program c.args.block c.args.page c.in-Ok.ensures.ok.0)
    c.in_ok-begin.ensures.begun c.in_ok-begin.ensures.record c.in-Ok.ensures.rest c.in-Ok.ensures.ok.2

pub returns-in-Ok-clause-state : goal.returns-in-Ok-clause-state
returns-in-Ok-clause-state c = (done c).state ∙ ap (programmed (mem_flash c.args.self.now).state c.args.block
    c.args.page) c.in-Ok.ensures.ok.1

pub returns-in-Ok-clause-during : goal.returns-in-Ok-clause-during
returns-in-Ok-clause-during c x past = ⊎_elim
    (λ was. inl was)
    (λ new. ⊎_elim
    (λ within. inr (inr (subst (λ (bs : List ℕ). ProgramCase c.args.block c.args.page bs
    (mem_flash c.args.self.now).state x) c.in-Ok.ensures.ok.1 within)))
    (λ is. inr (inl (subst (λ s. IsStill s x) (sym (done c).state) is)))
    new)
    ((done c).during x past)

pub returns-in-Ok-clause-time : goal.returns-in-Ok-clause-time
returns-in-Ok-clause-time c = (done c).time

pub returns-in-Err-clause-during : goal.returns-in-Err-clause-during
returns-in-Err-clause-during c x past = inl ((want_after c.args.self.now c.begin.new.self c.program_page.new.self
    c.starve.new.self
    c.in_ok-begin.ensures.begun c.in_ok-begin.ensures.record c.in-Err.ensures.err c.in-Err.ensures.rest
    c.starve.ensures.record c.starve.ensures.wants).still x past)

pub returns-in-Err-clause-time : goal.returns-in-Err-clause-time
returns-in-Err-clause-time c = (want_after c.args.self.now c.begin.new.self c.program_page.new.self c.starve.new.self
    c.in_ok-begin.ensures.begun c.in_ok-begin.ensures.record c.in-Err.ensures.err c.in-Err.ensures.rest
    c.starve.ensures.record c.starve.ensures.wants).time

pub returns-in-Ok-clause-tears : goal.returns-in-Ok-clause-tears
returns-in-Ok-clause-tears c x case = (done c).within x
    (subst (λ (bs : List ℕ). ProgramCase c.args.block c.args.page bs (mem_flash c.args.self.now).state x)
    (sym c.in-Ok.ensures.ok.1) case)
