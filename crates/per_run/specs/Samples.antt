-- Samples, computed: arguments and the jobs that they ask for, the summary of a synthetic workload, and what a
-- formatting and the start on it cost.
use Rattle.std.specs.Prelude.{◌≡◌, ◌≤◌, ◌+◌, ◌*◌, ℕ, [], ◌∷◌, Option, Some, None, codes}
use Rattle.std.proofs.Common.{arith, refl}
use Rattle.std.specs.Fmt.{digits}
use Rattle.clap.proofs.OnLiterals.{clap_on_literals}
use Rattle.command_text.specs.declared.replies.Answer.{Answer}
use Rattle.command_text.specs.declared.replies.Answer.TheVariants as answer
use Rattle.command_text.specs.declared.replies.Reply.{Reply}
use Rattle.per_base.specs.declared.errors.PerError.TheVariants as error
use Rattle.deploy_rows.specs.Costs.{format_cost}
use Rattle.per_list.specs.declared.forms.Form.TheVariants.{Lines, Json}
use Rattle.run_model.specs.Turns.{DiskBytes}
use Rattle.per_run.specs.declared.words.Job.{Job}
use Rattle.per_run.specs.declared.words.JobKind.{JobKind}
use Rattle.per_run.specs.declared.words.JobKind.TheVariants.{Run, Serve, Format, Generate, Audit, Listing, Export}
use Rattle.per_run.specs.declared.words.JobKind.TheVariants.{Import, RecoverRoot}
use Rattle.per_run.specs.Jobs.{summary}
use Rattle.per_run.specs.Serves.{FormatsWithin}
use Rattle.per_run.specs.Words.{job_of}

-- ---- arguments

abbrev job : JobKind → Option Job
job kind = Some (record { dir = codes "d"; kind = kind; flash = None })

-- the same over a flash of that many blocks
abbrev over_flash : ℕ → JobKind → Option Job
over_flash blocks kind = Some (record { dir = codes "d"; kind = kind; flash = Some blocks })

plain : job_of (codes "--dir" ∷ codes "d" ∷ []) ≡ job Run
unfolding job_of clap_on_literals
plain = refl

formats : job_of (codes "--format" ∷ codes "--dir" ∷ codes "d" ∷ []) ≡ job Format
unfolding job_of clap_on_literals
formats = refl

generates : job_of (codes "--dir=d" ∷ codes "--generate" ∷ codes "5" ∷ []) ≡ job (Generate 5)
unfolding job_of clap_on_literals
generates = refl

most : job_of (codes "--generate=+100000" ∷ codes "--dir=d" ∷ []) ≡ job (Generate 100000)
unfolding job_of clap_on_literals
most = refl

too_many : job_of (codes "--dir" ∷ codes "d" ∷ codes "--generate" ∷ codes "100001" ∷ []) ≡ None
unfolding job_of clap_on_literals
too_many = refl

none_made : job_of (codes "--dir" ∷ codes "d" ∷ codes "--generate" ∷ codes "0" ∷ []) ≡ None
unfolding job_of clap_on_literals
none_made = refl

both : job_of (codes "--dir" ∷ codes "d" ∷ codes "--format" ∷ codes "--generate" ∷ codes "5" ∷ []) ≡ None
unfolding job_of clap_on_literals
both = refl

twice : job_of (codes "--dir" ∷ codes "d" ∷ codes "--format" ∷ codes "--format" ∷ []) ≡ None
unfolding job_of clap_on_literals
twice = refl

audits : job_of (codes "--dir" ∷ codes "d" ∷ codes "--audit" ∷ []) ≡ job Audit
unfolding job_of clap_on_literals
audits = refl

lists : job_of (codes "--list" ∷ codes "lines" ∷ codes "--dir" ∷ codes "d" ∷ []) ≡ job (Listing Lines)
unfolding job_of clap_on_literals
lists = refl

lists_as_json : job_of (codes "--dir" ∷ codes "d" ∷ codes "--list=json" ∷ codes "--flash" ∷ codes "4" ∷ [])
    ≡ over_flash 4 (Listing Json)
unfolding job_of clap_on_literals
lists_as_json = refl

no_form : job_of (codes "--dir" ∷ codes "d" ∷ codes "--list" ∷ codes "Lines" ∷ []) ≡ None
unfolding job_of clap_on_literals
no_form = refl

listed_and_audited : job_of (codes "--dir" ∷ codes "d" ∷ codes "--list" ∷ codes "lines" ∷ codes "--audit" ∷ []) ≡ None
unfolding job_of clap_on_literals
listed_and_audited = refl

recovers : job_of (codes "--recover-root" ∷ codes "7" ∷ codes "--dir" ∷ codes "d" ∷ []) ≡ job (RecoverRoot 7)
unfolding job_of clap_on_literals
recovers = refl

no_root : job_of (codes "--dir" ∷ codes "d" ∷ codes "--recover-root=8" ∷ []) ≡ None
unfolding job_of clap_on_literals
no_root = refl

recovered_and_listed : job_of (codes "--dir" ∷ codes "d" ∷ codes "--list" ∷ codes "lines" ∷ codes "--recover-root"
    ∷ codes "0" ∷ []) ≡ None
unfolding job_of clap_on_literals
recovered_and_listed = refl

least_flash : job_of (codes "--dir" ∷ codes "d" ∷ codes "--flash=+4" ∷ codes "--audit" ∷ []) ≡ over_flash 4 Audit
unfolding job_of clap_on_literals
least_flash = refl

largest_flash : job_of (codes "--dir=d" ∷ codes "--flash" ∷ codes "4096" ∷ []) ≡ over_flash 4096 Run
unfolding job_of clap_on_literals
largest_flash = refl

too_small : job_of (codes "--dir" ∷ codes "d" ∷ codes "--flash" ∷ codes "3" ∷ []) ≡ None
unfolding job_of clap_on_literals
too_small = refl

two_modes : job_of (codes "--dir" ∷ codes "d" ∷ codes "--audit" ∷ codes "--generate" ∷ codes "5" ∷ []) ≡ None
unfolding job_of clap_on_literals
two_modes = refl

audited_nowhere : job_of (codes "--dir=" ∷ codes "--audit" ∷ []) ≡ None
unfolding job_of clap_on_literals
audited_nowhere = refl

exports : job_of (codes "--dir" ∷ codes "d" ∷ codes "--export" ∷ codes "0:fav" ∷ []) ≡ job (Export 0 (codes "fav"))
unfolding job_of clap_on_literals
exports = refl

imports : job_of (codes "--import=7:a/b-c_d.e" ∷ codes "--dir=d" ∷ codes "--flash" ∷ codes "4" ∷ [])
    ≡ over_flash 4 (Import 7 (codes "a/b-c_d.e"))
unfolding job_of clap_on_literals
imports = refl

serves : job_of (codes "--serve" ∷ codes "--dir" ∷ codes "d" ∷ []) ≡ job Serve
unfolding job_of clap_on_literals
serves = refl

served_twice : job_of (codes "--dir=d" ∷ codes "--format" ∷ codes "--serve" ∷ []) ≡ None
unfolding job_of clap_on_literals
served_twice = refl

no_application : job_of (codes "--dir" ∷ codes "d" ∷ codes "--export" ∷ codes "8:fav" ∷ []) ≡ None
unfolding job_of clap_on_literals
no_application = refl

more_digits : job_of (codes "--dir" ∷ codes "d" ∷ codes "--import" ∷ codes "00:fav" ∷ []) ≡ None
unfolding job_of clap_on_literals
more_digits = refl

no_name : job_of (codes "--dir" ∷ codes "d" ∷ codes "--export" ∷ codes "0:" ∷ []) ≡ None
unfolding job_of clap_on_literals
no_name = refl

bad_name : job_of (codes "--dir" ∷ codes "d" ∷ codes "--import" ∷ codes "0:fav:home" ∷ []) ≡ None
unfolding job_of clap_on_literals
bad_name = refl

there_and_back : job_of (codes "--dir" ∷ codes "d" ∷ codes "--export=0:a" ∷ codes "--import=0:a" ∷ []) ≡ None
unfolding job_of clap_on_literals
there_and_back = refl

no_folder : job_of (codes "--dir" ∷ []) ≡ None
unfolding job_of clap_on_literals
no_folder = refl

empty_folder : job_of (codes "--dir=" ∷ []) ≡ None
unfolding job_of clap_on_literals
empty_folder = refl

no_words : job_of [] ≡ None
unfolding job_of clap_on_literals
no_words = refl

helps : job_of (codes "--help" ∷ []) ≡ None
unfolding job_of clap_on_literals
helps = refl

more : job_of (codes "--dir" ∷ codes "d" ∷ codes "x" ∷ []) ≡ None
unfolding job_of clap_on_literals
more = refl

-- ---- a synthetic workload

abbrev reply : Answer → Reply
reply a = record { reports = []; answer = a }

-- its storage was installed and opened, a number set and all synchronised, measured and closed
one : summary 6 (reply answer.Done ∷ reply answer.Done ∷ reply answer.Done ∷ reply answer.Done
    ∷ reply (answer.Number 11) ∷ reply answer.Done ∷ [])
    ≡ codes "lines 6 ok 5 other 1 errors 0 size 11\n"
unfolding digits
one = refl

-- every command was refused
refused : summary 2 (reply (answer.Error error.NotInstalled) ∷ reply (answer.Error error.NotOpen) ∷ [])
    ≡ codes "lines 2 ok 0 other 0 errors 2 size -\n"
unfolding digits
refused = refl

-- ---- a formatting

-- eight roots of 402 bytes, which the start leaves as they are
formatted_and_started : 8 * format_cost ≡ 3216
formatted_and_started = refl

-- a byte more is out of the bound
no_more : (old new : DiskBytes) → FormatsWithin old new → ¬ (new.written ≡ old.written + 3217)
no_more old new within more =
    let cost : new.written ≤ old.written + 3216 = within.written in
    absurd (omega (arith, cost, more))
