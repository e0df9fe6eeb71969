-- The job is said by the kind, the flash and the folder.
use Rattle.std.proofs.Common.{ap, sym, ◌∙◌, codes}
use Rattle.clap.proofs.WalkLemmas.{first_value-rows}
use Rattle.clap.specs.Words.{found_of}
use Rattle.per_run.specs.Words.{dir_of, flash_of}
use Rattle.per_run.proofs.Matched.{dir_fails, flash_fails, job_is}
use Rattle.per_run.proofs.words.job_in.Goals as goal

pub returns-in_err-flash_of : goal.returns-in_err-flash_of
returns-in_err-flash_of c = flash_fails _ c.in_err-flash_of.field-0.0 _ _ _ _ c.from_residual-in_err-flash_of.ensures.1
    (ap flash_of (c.get_str.ensures ∙ first_value-rows (found_of c.args.matches.now) (codes "flash")))
    c.in_err-flash_of.ensures

pub returns-in_err-dir_of : goal.returns-in_err-dir_of
returns-in_err-dir_of c = dir_fails _ c.in_err-dir_of.field-0.0 _ _ _ _ c.from_residual-in_err-dir_of.ensures.1
    (ap dir_of (c.get_str-2.ensures ∙ first_value-rows (found_of c.args.matches.now) (codes "dir")))
    c.in_err-dir_of.ensures

pub returns : goal.returns
returns c = job_is _ _ _ _ _ _ c.in_ok-kind_in.ensures
    (sym (ap flash_of (c.get_str.ensures ∙ first_value-rows (found_of c.args.matches.now) (codes "flash")))
    ∙ c.in_ok-flash_of.ensures)
    (sym (ap dir_of (c.get_str-2.ensures ∙ first_value-rows (found_of c.args.matches.now) (codes "dir")))
    ∙ c.in_ok-dir_of.ensures)
