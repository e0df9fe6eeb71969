use Rattle.flash_model.proofs.Answering.{begin_failed, want_after, on_err}
use Rattle.flash_model.proofs.memory.MemFlash.enter.Goals as goal

pub returns-in_err-begin-clause-err : goal.returns-in_err-begin-clause-err
returns-in_err-begin-clause-err c = on_err _ _ (begin_failed c.args.self.now c.begin.new.self
    c.in_err-begin.ensures.begun c.in_err-begin.ensures.record)

pub returns-in-Err-clause-err : goal.returns-in-Err-clause-err
returns-in-Err-clause-err c = want_after c.args.self.now c.begin.new.self c.note.new.self c.starve.new.self
    c.in_ok-begin.ensures.begun c.in_ok-begin.ensures.record c.in-Err.ensures.err c.in-Err.ensures.rest
    c.starve.ensures.record c.starve.ensures.wants
