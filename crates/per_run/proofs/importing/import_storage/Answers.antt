-- The input was read whole, and what it says is imported; or it was not.
use Rattle.std.proofs.Common.{Err, ap, length, ◌∙◌}
use Rattle.per_run.proofs.Answered.{imports_cut, imports_read}
use Rattle.per_run.proofs.Caused.{cut_caused, import_caused}
use Rattle.per_run.proofs.importing.import_storage.Goals as goal

pub returns-in-Ok-clause-job : goal.returns-in-Ok-clause-job
returns-in-Ok-clause-job g c = imports_read _ _ _ c.as_slice.result.now c.in-Ok.text.items _ _ _ _ _
    c.as_slice.ensures.value c.in-Ok.ensures.read c.import_text.ensures.status c.import_text.ensures.made

pub returns-in-Ok-clause-caused : goal.returns-in-Ok-clause-caused
returns-in-Ok-clause-caused g c = import_caused _ _ _ _ _ c.import_text.ensures.status

pub returns-in-Err-clause-job : goal.returns-in-Err-clause-job
returns-in-Err-clause-job g c = imports_cut _ _ _ c.in-Err.ending _ _ _ _ (g.met.D.Disk.lawful _) c.status.ensures
    c.in-Err.ensures.read

pub returns-in-Err-clause-caused : goal.returns-in-Err-clause-caused
returns-in-Err-clause-caused g c = cut_caused _ _ c.in-Err.ending _ (length c.in-Err.ensures.read.given) _ _
    c.status.ensures c.in-Err.ensures.read.cut (λ source. c.read_whole.ensures.failed (c.in-Err.is ∙ ap Err source))
