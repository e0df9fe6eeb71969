-- The runtime starts on the disk as it was, or on one that was formatted.
use Rattle.std.proofs.Common.{inl, inr, ◌∙◌}
use Rattle.disk_model.specs.Laws.{elapses_on, rose_before}
use Rattle.per_run.proofs.Fresh.{formats_later}
use Rattle.per_run.proofs.Prepared.{keeps_on, on_err, readied_as, readied_first, says_false, says_true}
use Rattle.per_run.proofs.preparing.prepare.Goals as goal

pub returns-in-Ok-true-clause-readied : goal.returns-in-Ok-true-clause-readied
returns-in-Ok-true-clause-readied g c =
    readied_first _ g.D.Disk.medium c.start_formatted.result c.args.disk.now c.is_blank.new.disk
    c.start_formatted.new.disk
    (λ tells. says_true _ _ c.in-Ok-true.field-0-test (c.in-Ok-true.ensures.says tells))
    c.is_blank.ensures.time c.is_blank.ensures.reads c.in-Ok-true.ensures.passes c.start_formatted.ensures.begun

pub returns-in-Ok-true-clause-unready : goal.returns-in-Ok-true-clause-unready
returns-in-Ok-true-clause-unready g c = on_err c.start_formatted.result
    (inr (inl (
      λ tells. says_true _ _ c.in-Ok-true.field-0-test (c.in-Ok-true.ensures.says tells),
      λ tells. formats_later (g.D.Disk.medium c.args.disk.now) (g.D.Disk.medium c.is_blank.new.disk)
          (g.D.Disk.medium c.start_formatted.new.disk) c.is_blank.ensures.reads
          (c.start_formatted.ensures.within tells),
    )))

pub returns-in-Ok-true-clause-cause : goal.returns-in-Ok-true-clause-cause
returns-in-Ok-true-clause-cause g c = λ failed.
    rose_before _ _ _ c.is_blank.ensures.time.faults (c.start_formatted.ensures.cause failed)

pub returns-in-Ok-true-clause-fed : goal.returns-in-Ok-true-clause-fed
returns-in-Ok-true-clause-fed g c = λ failed. c.start_formatted.ensures.fed failed ∙ c.in-Ok-true.ensures.passes

pub returns-in-Ok-true-clause-time : goal.returns-in-Ok-true-clause-time
returns-in-Ok-true-clause-time g c = elapses_on c.is_blank.ensures.time c.start_formatted.ensures.time

pub returns-in-Ok-false-clause-readied : goal.returns-in-Ok-false-clause-readied
returns-in-Ok-false-clause-readied g c =
    readied_as _ g.D.Disk.medium c.start.result c.args.disk.now c.is_blank.new.disk c.start.new.disk
    (λ tells. says_false _ _ c.in-Ok-false.field-0-test (c.in-Ok-false.ensures.says tells))
    c.is_blank.ensures.time c.is_blank.ensures.reads c.in-Ok-false.ensures.passes c.start.ensures.time
    c.start.ensures.passes c.start.ensures.starts

pub returns-in-Ok-false-clause-unready : goal.returns-in-Ok-false-clause-unready
returns-in-Ok-false-clause-unready g c = on_err c.start.result (inl (
  λ tells. says_false _ _ c.in-Ok-false.field-0-test (c.in-Ok-false.ensures.says tells),
  λ tells. keeps_on c.is_blank.ensures.time c.is_blank.ensures.reads c.start.ensures.time
      (c.start.ensures.stopped tells),
))

pub returns-in-Ok-false-clause-cause : goal.returns-in-Ok-false-clause-cause
returns-in-Ok-false-clause-cause g c = λ failed.
    rose_before _ _ _ c.is_blank.ensures.time.faults (c.start.ensures.cause failed)

pub returns-in-Ok-false-clause-fed : goal.returns-in-Ok-false-clause-fed
returns-in-Ok-false-clause-fed g c = λ failed. c.start.ensures.fed failed ∙ c.in-Ok-false.ensures.passes

pub returns-in-Ok-false-clause-time : goal.returns-in-Ok-false-clause-time
returns-in-Ok-false-clause-time g c = elapses_on c.is_blank.ensures.time c.start.ensures.time

pub returns-in-Err-clause-unready : goal.returns-in-Err-clause-unready
returns-in-Err-clause-unready g c = inr (inr c.is_blank.ensures.reads)
