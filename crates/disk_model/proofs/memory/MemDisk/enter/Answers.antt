use Rattle.disk_model.proofs.Answering.{begin_failed, want_failed, on_err}
use Rattle.disk_model.proofs.memory.MemDisk.enter.Goals as goal

pub returns-in_err-begin-clause-err : goal.returns-in_err-begin-clause-err
returns-in_err-begin-clause-err c = on_err _ _ (begin_failed c.args.self.now c.begin.new.self
    c.in_err-begin.ensures.begun c.in_err-begin.ensures.record)

pub returns-in_err-note-clause-err : goal.returns-in_err-note-clause-err
returns-in_err-note-clause-err c = on_err _ _ (want_failed c.args.self.now c.begin.new.self c.note.new.self
    c.in_ok-begin.ensures.begun c.in_ok-begin.ensures.record c.in_err-note.ensures.answer c.in_err-note.ensures.err)
