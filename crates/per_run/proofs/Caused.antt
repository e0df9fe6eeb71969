-- Why a job ended by its status.
use Rattle.std.proofs.Common.{ℕ, zero, suc, ◌<◌, ◌≤◌, ◌-◌, List, [], ◌∷◌, ◌++◌, length, ◌≡◌, ◌⊎◌, inl, inr, refl, sym}
use Rattle.std.proofs.Common.{◌∙◌, ap, subst, arith, Option, Some, None, option_map, Bool, true, false, ◌&&◌, nat_eq}
use Rattle.std.proofs.Common.{nat_le, IfSome, slice_index_or, codes, if◌then◌else◌}
use Rattle.std.proofs.KnownBytes.{Consumes-nil}
use Rattle.std.proofs.lemmas.Bool.{leb-true}
use Rattle.std.specs.Bool.{⊤}
use Rattle.std.specs.List.{AllByRecursion, Contains}
use Rattle.std.specs.Str.{bytes_eq}
use Rattle.std.specs.Str.Parse.{digits_value, without_leading_plus}
use Rattle.clap.proofs.ValueTestLemmas.{accepts-Accepts}
use Rattle.clap.specs.Simple.{matches_of}
use Rattle.clap.specs.ValueTests.{is_unsigned_in}
use Rattle.clap.specs.Walk.{Row, first_of}
use Rattle.clap.specs.declared.builder.value_parser.ValueParser.TheVariants as vp
use Rattle.per_base.specs.Causes.{Rose}
use Rattle.per_base.specs.Fields.{◌>>=◌, only_if}
use Rattle.per_base.specs.Names.{is_name}
use Rattle.per_list.specs.declared.forms.Form.TheVariants as form
use Rattle.disk_model.specs.Laws.{elapses_none, reads_none, rose_before}
use Rattle.disk_model.specs.Medium.{Medium, IsLawful}
use Rattle.disk_model.specs.declared.disk.Disk.{Ghosts as DiskOf}
use Rattle.command_text.specs.Reading.{is_application_digit}
use Rattle.run_model.specs.AppLaws.{AppLaws}
use Rattle.run_model.specs.Converters.{Converters}
use Rattle.run_model.specs.Edges.{Edges, failures_at, modelled}
use Rattle.run_model.specs.Endings as endings
use Rattle.run_model.specs.Endings.{Ending, FailureCounts, HasCauseOf, ending_status}
use Rattle.run_model.specs.Lines.{IsWellFormed}
use Rattle.run_model.specs.Lives.{looks_none}
use Rattle.run_model.specs.Runs as runs
use Rattle.per_run.specs.declared.endings.Ending as parts
use Rattle.per_run.specs.declared.endings.Ending.TheVariants as part
use Rattle.per_run.specs.declared.words.Job.{Job}
use Rattle.per_run.specs.declared.words.JobKind.{JobKind}
use Rattle.per_run.specs.declared.words.JobKind.TheVariants.{Run, Serve, Format, Generate, Audit, Listing, Export}
use Rattle.per_run.specs.declared.words.JobKind.TheVariants.{Import, RecoverRoot}
use Rattle.per_run.specs.Jobs.{IsCaused, JobDone, by_disk, by_itself, by_sink, by_source, statuses_of}
use Rattle.per_run.specs.Serves.{Heard, Serves, ServesBy, served, unprepared}
use Rattle.per_run.specs.Steps.{IsCut, IsInRange, ending_of}
use Rattle.per_run.specs.Words.{command, dir_of, export_job, flagged, flash_of, generate_of, has_matches, import_of}
use Rattle.per_run.specs.Words.{application_of, is_set, job_in, job_kind_in, job_of, list_of, modes}
use Rattle.per_run.specs.Words.{only_mode, reads_input, recover_of, target_of, valued}
use Rattle.per_run.proofs.Answered.{audits_none, exports_none, imports_cut, lists_none, recovers_none}
use Rattle.per_run.proofs.Answered.{recovery_keeps_none}
use Rattle.per_run.proofs.Begins.{run_short, unbegun}
use Rattle.per_run.proofs.Completes.{OneLine, completes}
use Rattle.per_run.proofs.Fresh.{formats_none, formats_still, generates_none}
use Rattle.per_run.proofs.Inputs.{not_seen}
use Rattle.per_run.proofs.Prepared.{earlier_start, serves_short}

-- ---- statuses

among : (status other : ℕ) (xs : List ℕ) → status ≡ other → Contains xs other → Contains xs status
among status other xs is contains = subst (Contains xs) (sym is) contains

ended_so : (ending : Ending) (status : ℕ) (b n : FailureCounts) → status ≡ ending_status ending → HasCauseOf ending b n
    → IsCaused Run status b n
ended_so endings.all_read status b n is cause = by_itself (among status 0 (statuses_of Run) is (0, omega arith, refl))
ended_so endings.end_line status b n is cause = by_itself (among status 0 (statuses_of Run) is (0, omega arith, refl))
ended_so endings.bad_line status b n is cause = by_itself (among status 2 (statuses_of Run) is (1, omega arith, refl))
ended_so endings.device status b n is cause = by_disk is cause
ended_so endings.start_memory status b n is cause = by_itself
    (among status 4 (statuses_of Run) is (2, omega arith, refl))
ended_so endings.memory status b n is cause = by_itself (among status 4 (statuses_of Run) is (2, omega arith, refl))
ended_so endings.source status b n is cause = by_source is refl cause
ended_so endings.sink status b n is cause = by_sink is cause
ended_so endings.too_long status b n is cause = by_itself (among status 7 (statuses_of Run) is (3, omega arith, refl))

pub run_caused : (told : Bool) (converters : Converters) (status : ℕ) (before after : Edges Medium)
    → runs.Run told converters status before after → IsCaused Run status (failures_at before) (failures_at after)
run_caused told converters status before after r = ended_so r.ending status _ _ r.status_is r.cause

-- a run that stays
stayed_so : (P : Type 0) (ending : Ending) (heard : List Heard) (all : List (List ℕ)) (before now : Option (List ℕ))
    (status : ℕ) (b n : FailureCounts) → ServesBy P ending heard all before now → status ≡ ending_status ending
    → HasCauseOf ending b n → IsCaused Serve status b n
stayed_so P endings.all_read heard all before now status b n ends is cause =
    by_itself (among status 0 (statuses_of Serve) is (0, omega arith, refl))
stayed_so P endings.end_line heard all before now status b n ends is cause =
    by_itself (among status 0 (statuses_of Serve) is (0, omega arith, refl))
stayed_so P endings.bad_line heard all before now status b n ends is cause = absurd ends
stayed_so P endings.device heard all before now status b n ends is cause = by_disk is cause
stayed_so P endings.start_memory heard all before now status b n ends is cause =
    by_itself (among status 4 (statuses_of Serve) is (1, omega arith, refl))
stayed_so P endings.memory heard all before now status b n ends is cause =
    by_itself (among status 4 (statuses_of Serve) is (1, omega arith, refl))
stayed_so P endings.source heard all before now status b n ends is cause = by_source is refl cause
stayed_so P endings.sink heard all before now status b n ends is cause = by_sink is cause
stayed_so P endings.too_long heard all before now status b n ends is cause =
    by_itself (among status 7 (statuses_of Serve) is (2, omega arith, refl))

-- what rose since a later count of the disk
since_earlier : (kind : JobKind) (status earlier later source sink : ℕ) (n : FailureCounts) → earlier ≤ later
    → IsCaused kind status (record { disk = later; source = source; sink = sink }) n
    → IsCaused kind status (record { disk = earlier; source = source; sink = sink }) n
since_earlier kind status earlier later source sink n le (by_itself has) = by_itself has
since_earlier kind status earlier later source sink n le (by_disk is rose) =
    by_disk is (rose_before earlier later n.disk le rose)
since_earlier kind status earlier later source sink n le (by_source is reads rose) = by_source is reads rose
since_earlier kind status earlier later source sink n le (by_sink is rose) = by_sink is rose

pub serve_caused : {D : Type 0} (of_disk : DiskOf D) (converters : Converters) (status : ℕ) (before after : Edges D)
    → Serves of_disk converters status before after
    → IsCaused Serve status (failures_at (modelled of_disk before)) (failures_at (modelled of_disk after))
serve_caused of_disk converters status before after (served start prepared s) =
    since_earlier Serve status (of_disk.medium before.disk).faults (of_disk.medium start).faults before.source_failures
    before.sink_failures _ (earlier_start of_disk.told of_disk.medium before.disk start prepared)
    (stayed_so _ s.ending s.heard _ before.taken after.taken status _ _ s.ends s.status_is s.cause)
serve_caused of_disk converters status before after (unprepared nothing (inl failed) left_same same) =
    by_disk failed.0 failed.1
serve_caused of_disk converters status before after (unprepared nothing (inr four) left_same same) =
    by_itself (among status 4 (statuses_of Serve) four.0 (1, omega arith, refl))

-- a job that writes once
pub written_caused : (kind : JobKind) (status : ℕ) (b n : FailureCounts) → statuses_of kind ≡ 0 ∷ 4 ∷ []
    → (status ≡ 0) ⊎ ((status ≡ 4) ⊎ (((status ≡ 3) × Rose b.disk n.disk) ⊎ ((status ≡ 6) × Rose b.sink n.sink)))
    → IsCaused kind status b n
written_caused kind status b n has (inl none) = by_itself
    (subst (λ (xs : List ℕ). Contains xs status) (sym has) (among status 0 (0 ∷ 4 ∷ []) none (0, omega arith, refl)))
written_caused kind status b n has (inr (inl four)) = by_itself
    (subst (λ (xs : List ℕ). Contains xs status) (sym has) (among status 4 (0 ∷ 4 ∷ []) four (1, omega arith, refl)))
written_caused kind status b n has (inr (inr (inl disk))) = by_disk disk.0 disk.1
written_caused kind status b n has (inr (inr (inr sink))) = by_sink sink.0 sink.1

pub short_caused : (kind : JobKind) (b n : FailureCounts) → IsCaused kind 4 b n
short_caused Run b n = by_itself (2, omega arith, refl)
short_caused Serve b n = by_itself (1, omega arith, refl)
short_caused Format b n = by_itself (1, omega arith, refl)
short_caused (Generate k) b n = by_itself (1, omega arith, refl)
short_caused Audit b n = by_itself (1, omega arith, refl)
short_caused (Listing f) b n = by_itself (1, omega arith, refl)
short_caused (Export app name) b n = by_itself (1, omega arith, refl)
short_caused (Import app name) b n = by_itself (1, omega arith, refl)
short_caused (RecoverRoot app) b n = by_itself (1, omega arith, refl)

-- the output of a job that came to it, by this status where all of it was taken
pub output_caused : (kind : JobKind) (status done : ℕ) (b n : FailureCounts) → Contains (statuses_of kind) done
    → (status ≡ done) ⊎ ((status ≡ 4) ⊎ ((status ≡ 6) × Rose b.sink n.sink))
    → IsCaused kind status b n
output_caused kind status done b n has (inl is) = by_itself (among status done (statuses_of kind) is has)
output_caused kind status done b n has (inr (inl four)) =
    subst (λ s. IsCaused kind s b n) (sym four) (short_caused kind b n)
output_caused kind status done b n has (inr (inr six)) = by_sink six.0 six.1

-- an audit that was written
pub audit_caused : (status : ℕ) (b n : FailureCounts) → ((status ≡ 0) ⊎ (status ≡ 8))
    ⊎ ((status ≡ 4) ⊎ ((status ≡ 6) × Rose b.sink n.sink)) → IsCaused Audit status b n
audit_caused status b n (inl (inl none)) = output_caused Audit status 0 b n (0, omega arith, refl) (inl none)
audit_caused status b n (inl (inr eight)) = output_caused Audit status 8 b n (2, omega arith, refl) (inl eight)
audit_caused status b n (inr other) = output_caused Audit status 0 b n (0, omega arith, refl) (inr other)

-- a listing that was written
pub list_caused : (kind : JobKind) (status : ℕ) (b n : FailureCounts) → statuses_of kind ≡ 0 ∷ 4 ∷ []
    → (status ≡ 0) ⊎ ((status ≡ 6) × Rose b.sink n.sink) → IsCaused kind status b n
list_caused kind status b n has (inl none) = written_caused kind status b n has (inl none)
list_caused kind status b n has (inr six) = by_sink six.0 six.1

-- an export or an import that was answered
answered_caused : (kind : JobKind) (status : ℕ) (b n : FailureCounts) → Contains (statuses_of kind) 0
    → Contains (statuses_of kind) 9 → ((status ≡ 0) ⊎ (status ≡ 9))
    ⊎ ((status ≡ 4) ⊎ ((status ≡ 6) × Rose b.sink n.sink)) → IsCaused kind status b n
answered_caused kind status b n has_0 has_9 (inl (inl none)) = output_caused kind status 0 b n has_0 (inl none)
answered_caused kind status b n has_0 has_9 (inl (inr nine)) = output_caused kind status 9 b n has_9 (inl nine)
answered_caused kind status b n has_0 has_9 (inr other) = output_caused kind status 0 b n has_0 (inr other)

pub export_caused : (app : ℕ) (name : List ℕ) (status : ℕ) (b n : FailureCounts) → ((status ≡ 0) ⊎ (status ≡ 9))
    ⊎ ((status ≡ 4) ⊎ ((status ≡ 6) × Rose b.sink n.sink)) → IsCaused (Export app name) status b n
export_caused app name status b n is =
    answered_caused (Export app name) status b n (0, omega arith, refl) (2, omega arith, refl) is

pub import_caused : (app : ℕ) (name : List ℕ) (status : ℕ) (b n : FailureCounts) → ((status ≡ 0) ⊎ (status ≡ 9))
    ⊎ ((status ≡ 4) ⊎ (((status ≡ 3) × Rose b.disk n.disk) ⊎ ((status ≡ 6) × Rose b.sink n.sink)))
    → IsCaused (Import app name) status b n
import_caused app name status b n (inl is) =
    answered_caused (Import app name) status b n (0, omega arith, refl) (3, omega arith, refl) (inl is)
import_caused app name status b n (inr (inl four)) =
    answered_caused (Import app name) status b n (0, omega arith, refl) (3, omega arith, refl) (inr (inl four))
import_caused app name status b n (inr (inr (inl disk))) = by_disk disk.0 disk.1
import_caused app name status b n (inr (inr (inr sink))) = by_sink sink.0 sink.1

-- a recovery that was answered
pub recover_caused : (app : ℕ) (status : ℕ) (b n : FailureCounts) → ((status ≡ 0) ⊎ (status ≡ 9))
    ⊎ ((status ≡ 4) ⊎ ((status ≡ 6) × Rose b.sink n.sink)) → IsCaused (RecoverRoot app) status b n
recover_caused app status b n is =
    answered_caused (RecoverRoot app) status b n (0, omega arith, refl) (2, omega arith, refl) is

-- and one whose input was not read whole
pub cut_caused : (app : ℕ) (name : List ℕ) (ending : parts.Ending) (status count : ℕ) (b n : FailureCounts)
    → status ≡ ending_status (ending_of ending) → IsCut ending count → (ending ≡ part.Source → Rose b.source n.source)
    → IsCaused (Import app name) status b n
cut_caused app name part.AllRead status count b n is cut rose = absurd cut
cut_caused app name part.EndLine status count b n is cut rose = absurd cut
cut_caused app name part.BadLine status count b n is cut rose = absurd cut
cut_caused app name part.OutOfMemory status count b n is cut rose =
    by_itself (among status 4 (statuses_of (Import app name)) is (1, omega arith, refl))
cut_caused app name part.Source status count b n is cut rose = by_source is refl (rose refl)
cut_caused app name part.Sink status count b n is cut rose = absurd cut
cut_caused app name part.TooLong status count b n is cut rose =
    by_itself (among status 7 (statuses_of (Import app name)) is (2, omega arith, refl))

no_one : (xs : List ℕ) → AllByRecursion (λ x. x ≡ 1 → ⊥) xs → (k : ℕ) → k < length xs → slice_index_or xs k 1 ≡ 1 → ⊥
no_one [] each k within is = absurd (omega (arith, within))
no_one (x ∷ xs) each zero within is = each.0 is
no_one (x ∷ xs) each (suc k) within is = no_one xs each.1 k (omega (arith, within)) is

others_than_one : (kind : JobKind) → AllByRecursion (λ x. x ≡ 1 → ⊥) (statuses_of kind)
others_than_one Run = (
  λ is. omega (arith, is),
  (
    λ is. omega (arith, is),
    (λ is. omega (arith, is), (λ is. omega (arith, is), tt)),
  ),
)
others_than_one Serve = (λ is. omega (arith, is), (λ is. omega (arith, is), (λ is. omega (arith, is), tt)))
others_than_one Format = (λ is. omega (arith, is), (λ is. omega (arith, is), tt))
others_than_one (Generate k) = (λ is. omega (arith, is), (λ is. omega (arith, is), tt))
others_than_one Audit = (λ is. omega (arith, is), (λ is. omega (arith, is), (λ is. omega (arith, is), tt)))
others_than_one (Listing f) = (λ is. omega (arith, is), (λ is. omega (arith, is), tt))
others_than_one (Export app name) = (λ is. omega (arith, is), (λ is. omega (arith, is), (λ is. omega (arith, is), tt)))
others_than_one (Import app name) = (
  λ is. omega (arith, is),
  (
    λ is. omega (arith, is),
    (λ is. omega (arith, is), (λ is. omega (arith, is), tt)),
  ),
)
others_than_one (RecoverRoot app) = (λ is. omega (arith, is), (λ is. omega (arith, is), (λ is. omega (arith, is), tt)))

has_no_one : (kind : JobKind) → Contains (statuses_of kind) 1 → ⊥
has_no_one kind contains = no_one (statuses_of kind) (others_than_one kind) contains.0 contains.1 contains.2

pub not_one : (kind : JobKind) (status : ℕ) (b n : FailureCounts) → IsCaused kind status b n → status ≡ 1 → ⊥
not_one kind status b n (by_itself contains) is = has_no_one kind (subst (Contains (statuses_of kind)) is contains)
not_one kind status b n (by_disk three rose) is = omega (arith, three, is)
not_one kind status b n (by_source five reads rose) is = omega (arith, five, is)
not_one kind status b n (by_sink six rose) is = omega (arith, six, is)

-- ---- the same of a kind by another name

pub done_as : {D : Type 0} (of_disk : DiskOf D) (kind same : JobKind) (converters : Converters) (status : ℕ)
    (before after : Edges D) → kind ≡ same → JobDone of_disk same converters status before after
    → JobDone of_disk kind converters status before after
done_as of_disk kind same converters status before after is done =
    subst (λ (k : JobKind). JobDone of_disk k converters status before after) (sym is) done

pub caused_as : (kind same : JobKind) (status : ℕ) (b n : FailureCounts) → kind ≡ same → IsCaused same status b n
    → IsCaused kind status b n
caused_as kind same status b n is caused = subst (λ (k : JobKind). IsCaused k status b n) (sym is) caused

-- ---- the job of the words

pub some_is : (o : Option Job) (job : Job) (P : Job → Type 0) → o ≡ Some job → P job → IfSome o P
some_is None job P is p = let bad : ◌≡◌ {A = Option Job} None (Some job) = is in cc
some_is (Some x) job P is p = let same : x ≡ job = cc in subst P (sym same) p

pub none_is : (o : Option Job) (P : Job → Type 0) → o ≡ None → IfSome o P
none_is None P is = tt
none_is (Some x) P is = let bad : ◌≡◌ {A = Option Job} (Some x) None = is in cc

pub each_is : {A : Type 0} (o : Option A) (P : A → Type 0) → ((x : A) → P x) → IfSome o P
each_is None P each = tt
each_is (Some x) P each = each x

pub some_none : {P : Type 0} (o : Option Job) (job : Job) → o ≡ Some job → o ≡ None → P
some_none {P} o job some none = let bad : ◌≡◌ {A = Option Job} (Some job) None =
    sym some ∙ none in absurd (apart job bad)
  where
    apart : (j : Job) → ◌≡◌ {A = Option Job} (Some j) None → ⊥
    apart j is = cc

-- ---- a job for whose words there was no memory

pub done_none : {D : Type 0} → AppLaws → (of_disk : DiskOf D) (kind : JobKind) (converters : Converters)
    (at : Edges D) → IsLawful of_disk.told (of_disk.medium at.disk) → JobDone of_disk kind converters 4 at at
done_none laws of_disk Run converters at lawful =
    run_short laws of_disk.told converters 4 at.left at.taken at.source_failures at.sink_failures
    (of_disk.medium at.disk) (of_disk.medium at.disk) lawful (elapses_none lawful)
    (λ tells. unbegun of_disk.told (of_disk.medium at.disk) lawful) refl refl
done_none laws of_disk Serve converters at lawful =
    serves_short laws of_disk converters at.left at.taken at.source_failures at.sink_failures at.disk at.disk lawful
    (elapses_none lawful) (inr (inr (reads_none lawful))) refl
done_none laws of_disk Format converters at lawful =
    formats_none of_disk.told 4 at.taken (of_disk.medium at.disk) (of_disk.medium at.disk) (inr refl)
    (λ tells file is. refl) (omega arith) (λ unfailed. refl)
done_none laws of_disk (Generate n) converters at lawful =
    generates_none of_disk.told converters n 4 at.taken (of_disk.medium at.disk) (of_disk.medium at.disk) (inr refl)
    (elapses_none lawful).faults (λ unfailed. refl) (λ tells. formats_still (of_disk.medium at.disk))
done_none laws of_disk Audit converters at lawful =
    audits_none of_disk.told 4 at.taken (of_disk.medium at.disk) (of_disk.medium at.disk) (inr refl)
    (looks_none lawful) (λ unfailed. refl)
done_none laws of_disk (Listing f) converters at lawful =
    lists_none of_disk.told f 4 at.taken (of_disk.medium at.disk) (of_disk.medium at.disk) (inr refl)
    (looks_none lawful) (λ unfailed. refl)
done_none laws of_disk (Export app name) converters at lawful =
    exports_none of_disk.told app name 4 at.taken (of_disk.medium at.disk) (of_disk.medium at.disk) (inr refl)
    (looks_none lawful) (λ unfailed. refl)
done_none laws of_disk (Import app name) converters at lawful =
    imports_cut of_disk.told app name part.OutOfMemory 4 (modelled of_disk at) at.left at.source_failures lawful refl
    (record {
      given = [];
      taken = record { takes = Consumes-nil at.left; bound = omega arith; end_seen = not_seen };
      cut = tt;
    })
done_none laws of_disk (RecoverRoot app) converters at lawful =
    recovers_none of_disk.told app 4 at.taken (of_disk.medium at.disk) (of_disk.medium at.disk) (inr refl)
    (λ tells. recovery_keeps_none app (of_disk.medium at.disk) lawful) (omega arith) (λ unfailed. refl)

pub unread_none : {S : Type 0} (o : Option Job) (s : S) → IfSome o (λ job. reads_input job.kind ≡ false → s ≡ s)
unread_none o s = each_is o (λ job. reads_input job.kind ≡ false → s ≡ s) (λ job reads. refl)

pub complete_none : (o : Option Job) (left : Option (List ℕ)) (A B C : Type 0)
    → IfSome o (λ job. job.kind ≡ Run → A → B → C → IfSome left
    (λ l. IsWellFormed l → (◌≡◌ {A = ℕ} 4 0) ⊎ (◌≡◌ {A = ℕ} 4 4)))
complete_none o left A B C = each_is o (λ job. job.kind ≡ Run → A → B → C
    → IfSome left (λ l. IsWellFormed l → (◌≡◌ {A = ℕ} 4 0) ⊎ (◌≡◌ {A = ℕ} 4 4)))
    (λ job is disk source sink. each_is left (λ l. IsWellFormed l → (◌≡◌ {A = ℕ} 4 0) ⊎ (◌≡◌ {A = ℕ} 4 4))
    (λ l formed. inr refl))

-- ---- a run over good lines

pub completes_if : {D : Type 0} → OneLine → (of_disk : DiskOf D) (kind : JobKind) (converters : Converters)
    (status : ℕ) (before after : Edges D) → JobDone of_disk kind converters status before after → kind ≡ Run
    → (Rose (of_disk.medium before.disk).faults (of_disk.medium after.disk).faults → ⊥)
    → (Rose before.source_failures after.source_failures → ⊥) → (Rose before.sink_failures after.sink_failures → ⊥)
    → IfSome before.left (λ l. IsWellFormed l → (status ≡ 0) ⊎ (status ≡ 4))
completes_if one of_disk kind converters status before after done is disk source sink =
    completes one of_disk.told converters status (modelled of_disk before) (modelled of_disk after)
    (subst (λ (k : JobKind). JobDone of_disk k converters status before after) is done) disk source sink

-- ---- numbers are in their ranges

some_kind : (a b : JobKind) → ◌≡◌ {A = Option JobKind} (Some a) (Some b) → a ≡ b
some_kind a b is = cc

no_kind_is : {P : Type 0} (k : JobKind) → ◌≡◌ {A = Option JobKind} None (Some k) → P
no_kind_is {P} k is = absurd (apart k is)
  where
    apart : (j : JobKind) → ◌≡◌ {A = Option JobKind} None (Some j) → ⊥
    apart j same = cc

-- what a mode says is in range
abbrev IsSafe : Option JobKind → Type 0
IsSafe mode = (k : JobKind) → mode ≡ Some k → IsInRange k

none_safe : IsSafe None
none_safe k is = no_kind_is k is

some_safe : (kind : JobKind) → IsInRange kind → IsSafe (Some kind)
some_safe kind within k is = subst IsInRange (some_kind kind k is) within

generate_safe : (value : List ℕ) → IsSafe (generate_of value)
generate_safe value = go (is_unsigned_in 1 100000 value) refl
  where
    n : ℕ
    n = digits_value 10 (without_leading_plus value)

    go : (b : Bool) → is_unsigned_in 1 100000 value ≡ b → IsSafe (option_map Generate (only_if b n))
    go true within = some_safe (Generate n) (accepts-Accepts false (vp.Unsigned 1 100000) value within).3
    go false within = none_safe

only_some : {A : Type 0} (b : Bool) (x y : A) → only_if b x ≡ Some y → (b ≡ true) × (x ≡ y)
only_some {A} true x y is = (refl, some_same is)
  where
    some_same : ◌≡◌ {A = Option A} (Some x) (Some y) → x ≡ y
    some_same same = cc
only_some {A} false x y is = absurd (none_some is)
  where
    none_some : ◌≡◌ {A = Option A} None (Some y) → ⊥
    none_some same = cc

digit_within : (low high colon name : Bool) → ((low && high) && colon && name) ≡ true → high ≡ true
digit_within true true colon name is = refl
digit_within true false colon name is = let bad : false ≡ true = is in cc
digit_within false high colon name is = let bad : false ≡ true = is in cc

target_within : (value : List ℕ) (target : ℕ × List ℕ) → target_of value ≡ Some target → target.0 < 8
target_within [] target is = let bad : ◌≡◌ {A = Option (ℕ × List ℕ)} None (Some target) = is in absurd (cc)
target_within (digit ∷ []) target is = let bad : ◌≡◌ {A = Option (ℕ × List ℕ)} None (Some target) = is in absurd (cc)
target_within (digit ∷ colon ∷ name) target is =
    let told : ((is_application_digit digit && nat_eq colon 58 && is_name name) ≡ true)
    × (◌≡◌ {A = ℕ × List ℕ} (digit - 48, name) target) =
    only_some {A = ℕ × List ℕ} (is_application_digit digit && nat_eq colon 58 && is_name name)
    (digit - 48, name) target is in
    let high : digit ≤ 55 = leb-true digit 55
    (digit_within (nat_le 48 digit) (nat_le digit 55) (nat_eq colon 58) (is_name name) told.0) in
    let app : digit - 48 ≡ target.0 = ap (λ (t : ℕ × List ℕ). t.0) told.1 in
    omega (arith, high, app)

target_safe : (kind : ℕ → List ℕ → JobKind) (value : List ℕ) → ((app : ℕ) (name : List ℕ) → app < 8
    → IsInRange (kind app name)) → IsSafe (option_map (λ target. kind target.0 target.1) (target_of value))
target_safe kind value safe = go (target_of value) refl
  where
    go : (o : Option (ℕ × List ℕ)) → target_of value ≡ o
        → IsSafe (option_map (λ target. kind target.0 target.1) o)
    go None is = none_safe
    go (Some target) is = some_safe (kind target.0 target.1) (safe target.0 target.1 (target_within value target is))

list_safe : (value : List ℕ) → IsSafe (list_of value)
list_safe value = go (bytes_eq value (codes "lines")) (bytes_eq value (codes "json"))
  where
    go : (lines json : Bool)
        → IsSafe (if lines then Some (Listing form.Lines) else if json then Some (Listing form.Json) else None)
    go true json = some_safe (Listing form.Lines) tt
    go false true = some_safe (Listing form.Json) tt
    go false false = none_safe

-- so is each that is named
abbrev AreSafe : List (Option JobKind) → Type 0
AreSafe [] = ⊤
AreSafe (mode ∷ ms) = IsSafe mode × AreSafe ms

both_safe : (xs ys : List (Option JobKind)) → AreSafe xs → AreSafe ys → AreSafe (xs ++ ys)
both_safe [] ys first second = second
both_safe (mode ∷ xs) ys first second = (first.0, both_safe xs ys first.1 second)

flagged_safe : (kind : JobKind) (b : Bool) → IsInRange kind → AreSafe (flagged kind b)
flagged_safe kind true within = (some_safe kind within, tt)
flagged_safe kind false within = tt

valued_safe : (mode : List ℕ → Option JobKind) (value : Option (List ℕ)) → ((v : List ℕ) → IsSafe (mode v))
    → AreSafe (valued mode value)
valued_safe mode (Some v) safe = (safe v, tt)
valued_safe mode None safe = tt

high_within : (low high : Bool) → (low && high) ≡ true → high ≡ true
high_within true high is = is
high_within false high is = let bad : false ≡ true = is in cc

application_within : (value : List ℕ) (app : ℕ) → application_of value ≡ Some app → app < 8
application_within [] app is = let bad : ◌≡◌ {A = Option ℕ} None (Some app) = is in absurd (cc)
application_within (digit ∷ []) app is =
    let told : (is_application_digit digit ≡ true) × (digit - 48 ≡ app) =
    only_some (is_application_digit digit) (digit - 48) app is in
    let small : digit ≤ 55 = leb-true digit 55 (high_within (nat_le 48 digit) (nat_le digit 55) told.0) in
    let same = told.1 in
    omega (arith, small, same)
application_within (digit ∷ other ∷ more) app is = let bad : ◌≡◌ {A = Option ℕ} None (Some app) = is in absurd (cc)

recover_safe : (value : List ℕ) → IsSafe (recover_of value)
recover_safe value = go (application_of value) refl
  where
    go : (o : Option ℕ) → application_of value ≡ o → IsSafe (option_map RecoverRoot o)
    go None is = none_safe
    go (Some app) is = some_safe (RecoverRoot app) (application_within value app is)

modes_safe : (formats : Bool) (number : Option (List ℕ)) (audits : Bool) (exports imports : Option (List ℕ))
    (serves : Bool) (lists recovers : Option (List ℕ))
    → AreSafe (modes (record {
      formats = formats;
      generates = number;
      audits = audits;
      exports = exports;
      imports = imports;
      serves = serves;
      lists = lists;
      recovers = recovers;
    }))
modes_safe formats number audits exports imports serves lists recovers =
    both_safe ((((((flagged Format formats ++ valued generate_of number) ++ flagged Audit audits)
    ++ valued export_job exports) ++ valued import_of imports) ++ flagged Serve serves) ++ valued list_of lists)
    (valued recover_of recovers)
    (both_safe (((((flagged Format formats ++ valued generate_of number) ++ flagged Audit audits)
    ++ valued export_job exports) ++ valued import_of imports) ++ flagged Serve serves) (valued list_of lists)
    (both_safe ((((flagged Format formats ++ valued generate_of number) ++ flagged Audit audits)
    ++ valued export_job exports) ++ valued import_of imports) (flagged Serve serves)
    (both_safe (((flagged Format formats ++ valued generate_of number) ++ flagged Audit audits)
    ++ valued export_job exports) (valued import_of imports)
    (both_safe ((flagged Format formats ++ valued generate_of number) ++ flagged Audit audits)
    (valued export_job exports)
    (both_safe (flagged Format formats ++ valued generate_of number) (flagged Audit audits)
    (both_safe (flagged Format formats) (valued generate_of number) (flagged_safe Format formats tt)
    (valued_safe generate_of number generate_safe))
    (flagged_safe Audit audits tt))
    (valued_safe export_job exports (λ value. target_safe Export value (λ app name within. within))))
    (valued_safe import_of imports (λ value. target_safe Import value (λ app name within. within))))
    (flagged_safe Serve serves tt))
    (valued_safe list_of lists list_safe))
    (valued_safe recover_of recovers recover_safe)

only_safe : (ms : List (Option JobKind)) → AreSafe ms → IsSafe (only_mode ms)
only_safe [] safe = some_safe Run tt
only_safe (mode ∷ []) safe = safe.0
only_safe (mode ∷ other ∷ others) safe = none_safe

kind_of_job : (kind : Option JobKind) (flash : Option (Option ℕ)) (dir : Option (List ℕ)) (job : Job)
    → (kind >>= λ k. flash >>= λ f. dir >>= λ d. Some (record { dir = d; kind = k; flash = f })) ≡ Some job
    → kind ≡ Some job.kind
kind_of_job None flash dir job is = let bad : ◌≡◌ {A = Option Job} None (Some job) = is in cc
kind_of_job (Some k) None dir job is = let bad : ◌≡◌ {A = Option Job} None (Some job) = is in cc
kind_of_job (Some k) (Some f) None job is = let bad : ◌≡◌ {A = Option Job} None (Some job) = is in cc
kind_of_job (Some k) (Some f) (Some d) job is =
    let same : record { dir = d; kind = k; flash = f } ≡ job =
    job_some (record { dir = d; kind = k; flash = f }) job is in
    ap (λ (j : Job). Some j.kind) same
  where
    job_some : (a c : Job) → ◌≡◌ {A = Option Job} (Some a) (Some c) → a ≡ c
    job_some a c eq = cc

pub job_within : (ws : List (List ℕ)) (job : Job) → job_of ws ≡ Some job → IsInRange job.kind
unfolding job_of
job_within ws job is = go (has_matches ws) is
  where
    rows : List Row
    rows = matches_of command ws

    go : (b : Bool) → (if b then job_in rows else None) ≡ Some job → IsInRange job.kind
    go true says = only_safe _ (modes_safe (is_set (first_of (codes "format") rows)) (first_of (codes "generate") rows)
        (is_set (first_of (codes "audit") rows)) (first_of (codes "export") rows) (first_of (codes "import") rows)
        (is_set (first_of (codes "serve") rows)) (first_of (codes "list") rows)
        (first_of (codes "recover-root") rows))
        job.kind
        (kind_of_job (job_kind_in rows) (flash_of (first_of (codes "flash") rows))
        (dir_of (first_of (codes "dir") rows))
        job says)
    go false says = let bad : ◌≡◌ {A = Option Job} None (Some job) = says in cc
