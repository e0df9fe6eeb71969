-- The words say a job, which is done over the flash; or it was not opened.
use Rattle.per_run.specs.Flashes.{unopened}
use Rattle.per_run.proofs.Caused.{job_within, some_is}
use Rattle.per_run.proofs.FlashRuns.{flash_completes, ran_then, unopened_then}
use Rattle.per_run.proofs.flash.per_flash.Goals as goal

pub run_over-requires : goal.run_over-requires
run_over-requires g c = job_within _ c.in-Ok.job c.in-Ok.ensures.job

pub returns-in-Ok-clause-complete : goal.returns-in-Ok-clause-complete
returns-in-Ok-clause-complete g c = ran_then c.run_over.result
    (λ status disk ran. some_is _ c.in-Ok.job _ c.in-Ok.ensures.job (λ is calm source sink.
    flash_completes c.one_line.ensures _ c.in-Ok.job.kind _ status _ _ ran is calm source sink))
    c.run_over.ensures.ran

pub returns-in-Ok-clause-unopened : goal.returns-in-Ok-clause-unopened
returns-in-Ok-clause-unopened g c =
    unopened_then c.run_over.result (λ status back refused. unopened c.in-Ok.job c.in-Ok.ensures.job refused)
    c.run_over.ensures.unopened
