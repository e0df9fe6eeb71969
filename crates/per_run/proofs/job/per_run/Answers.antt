-- The job of the words is done; or they say none; or there was no memory for them.
use Rattle.std.proofs.Common.{Err, ap}
use Rattle.per_run.specs.declared.words.Job.{Job}
use Rattle.per_run.proofs.Caused.{complete_none, completes_if, done_none, each_is, job_within, none_is, not_one}
use Rattle.per_run.proofs.Caused.{short_caused, some_is, some_none, unread_none}
use Rattle.per_run.proofs.job.per_run.Goals as goal

-- ---- the job is done

pub run_job-requires : goal.run_job-requires
run_job-requires g c = job_within _ c.in-Ok.job c.in-Ok.ensures.job

pub returns-in-Ok-clause-refused : goal.returns-in-Ok-clause-refused
returns-in-Ok-clause-refused g c = λ one. absurd (not_one c.in-Ok.job.kind _ _ _ c.run_job.ensures.caused one)

pub returns-in-Ok-clause-words : goal.returns-in-Ok-clause-words
returns-in-Ok-clause-words g c = λ none. some_none _ c.in-Ok.job c.in-Ok.ensures.job none

pub returns-in-Ok-clause-untouched : goal.returns-in-Ok-clause-untouched
returns-in-Ok-clause-untouched g c = λ none. some_none _ c.in-Ok.job c.in-Ok.ensures.job none

pub returns-in-Ok-clause-job : goal.returns-in-Ok-clause-job
returns-in-Ok-clause-job g c = some_is _ c.in-Ok.job _ c.in-Ok.ensures.job c.run_job.ensures.job

pub returns-in-Ok-clause-caused : goal.returns-in-Ok-clause-caused
returns-in-Ok-clause-caused g c = some_is _ c.in-Ok.job _ c.in-Ok.ensures.job c.run_job.ensures.caused

pub returns-in-Ok-clause-unread : goal.returns-in-Ok-clause-unread
returns-in-Ok-clause-unread g c = some_is _ c.in-Ok.job _ c.in-Ok.ensures.job c.run_job.ensures.unread

pub returns-in-Ok-clause-complete : goal.returns-in-Ok-clause-complete
returns-in-Ok-clause-complete g c = some_is _ c.in-Ok.job _ c.in-Ok.ensures.job (λ is disk source sink.
    completes_if c.one_line.ensures g.D.Disk c.in-Ok.job.kind _ _ _ _
    c.run_job.ensures.job is disk source sink)

-- ---- the words say none

pub returns-in-Err-Refused-clause-job : goal.returns-in-Err-Refused-clause-job
returns-in-Err-Refused-clause-job g c = none_is _ _ (c.in-Err-Refused.ensures.refused
    (ap Err c.in-Err-Refused.field-0-is))

pub returns-in-Err-Refused-clause-caused : goal.returns-in-Err-Refused-clause-caused
returns-in-Err-Refused-clause-caused g c = none_is _ _
    (c.in-Err-Refused.ensures.refused (ap Err c.in-Err-Refused.field-0-is))

pub returns-in-Err-Refused-clause-unread : goal.returns-in-Err-Refused-clause-unread
returns-in-Err-Refused-clause-unread g c = none_is _ _
    (c.in-Err-Refused.ensures.refused (ap Err c.in-Err-Refused.field-0-is))

pub returns-in-Err-Refused-clause-complete : goal.returns-in-Err-Refused-clause-complete
returns-in-Err-Refused-clause-complete g c = none_is _ _
    (c.in-Err-Refused.ensures.refused (ap Err c.in-Err-Refused.field-0-is))

-- ---- there was no memory for them

pub returns-in-Err-OutOfMemory-clause-job : goal.returns-in-Err-OutOfMemory-clause-job
returns-in-Err-OutOfMemory-clause-job g c = each_is {A = Job} _ _
    (λ job. done_none c.applications_stand.ensures g.D.Disk job.kind _ _ (g.met.D.Disk.lawful _))

pub returns-in-Err-OutOfMemory-clause-caused : goal.returns-in-Err-OutOfMemory-clause-caused
returns-in-Err-OutOfMemory-clause-caused g c = each_is {A = Job} _ _ (λ job. short_caused job.kind _ _)

pub returns-in-Err-OutOfMemory-clause-unread : goal.returns-in-Err-OutOfMemory-clause-unread
returns-in-Err-OutOfMemory-clause-unread g c = unread_none _ _

pub returns-in-Err-OutOfMemory-clause-complete : goal.returns-in-Err-OutOfMemory-clause-complete
returns-in-Err-OutOfMemory-clause-complete g c = complete_none _ _ _ _ _
