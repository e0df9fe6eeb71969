-- The words have matches, and these say the job; or they have none.
use Rattle.std.proofs.Common.{Result, Err, ◌≡◌}
use Rattle.per_run.specs.declared.words.WordsError.{WordsError}
use Rattle.per_run.proofs.Matched.{job_none, job_read, job_refused, job_says}
use Rattle.per_run.proofs.words.read_words.Goals as goal

pub returns-in-Ok-try_get_matches_from-clause-job : goal.returns-in-Ok-try_get_matches_from-clause-job
returns-in-Ok-try_get_matches_from-clause-job c =
    job_read c.job_in.result _ _ (job_says _ _ _ c.in-Ok.ensures c.in-Ok-try_get_matches_from.ensures.matches
    c.in-Ok-try_get_matches_from.ensures.kinds) c.job_in.ensures

pub returns-in-Ok-try_get_matches_from-clause-refused : goal.returns-in-Ok-try_get_matches_from-clause-refused
returns-in-Ok-try_get_matches_from-clause-refused c =
    job_refused c.job_in.result _ _ (job_says _ _ _ c.in-Ok.ensures c.in-Ok-try_get_matches_from.ensures.matches
    c.in-Ok-try_get_matches_from.ensures.kinds) c.job_in.ensures

err_is : {T : Type 0} (e f : WordsError) → ◌≡◌ {A = Result T WordsError} (Err e) (Err f) → e ≡ f
err_is e f same = cc

pub returns-in-Err-try_get_matches_from-clause-refused : goal.returns-in-Err-try_get_matches_from-clause-refused
returns-in-Err-try_get_matches_from-clause-refused c = λ refused.
    job_none _ _ _ _ c.in-Ok.ensures c.in-Err-try_get_matches_from.ensures.kinds
    (c.error_of.ensures (err_is _ _ refused))
