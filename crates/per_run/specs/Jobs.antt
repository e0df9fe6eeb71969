-- What each job promises, and by which statuses it ends: from what stood at its edges before it to what stands there
-- after it.
use Rattle.std.specs.Prelude.{◌≡◌, ◌≢◌, ◌⊎◌, ◌<◌, ◌≤◌, ◌+◌, ◌*◌, ℕ, List, [], ◌∷◌, ◌++◌, length, take, Option, Some}
use Rattle.std.specs.Prelude.{None, Bool, true, false, codes, count_by, not, ◌&&◌, IsTrue, IsFalse, Result, Ok, Err}
use Rattle.std.specs.Prelude.{IsOk, IsErr}
use Rattle.std.specs.List.{Contains}
use Rattle.std.specs.Option.{option_or}
use Rattle.std.specs.Fmt.{decimal}
use Rattle.std.specs.Io.KnownBytes.{Appends, Consumes, IsAtEnd, Keeps}
use Rattle.per_base.specs.Causes.{Rose}
use Rattle.per_base.specs.declared.errors.PerError.{PerError}
use Rattle.disk_model.specs.Frame.{Spares}
use Rattle.disk_model.specs.Medium.{Medium, Quiet}
use Rattle.disk_model.specs.declared.disk.Disk.{Ghosts as DiskOf}
use Rattle.command_text.specs.declared.replies.Answer.{Answer}
use Rattle.command_text.specs.declared.replies.Answer.TheVariants as answer
use Rattle.command_text.specs.declared.replies.Reply.{Reply}
use Rattle.command_text.specs.Generated.{generated}
use Rattle.command_text.specs.Replies.{answer_text, number_or_dash}
use Rattle.deploy_laws.specs.Apps.{App, IsCleanApp}
use Rattle.deploy_rows.specs.Costs.{format_cost}
use Rattle.run_model.specs.Bounds.{AreBounded, bytes_after}
use Rattle.run_model.specs.Converters.{Converters}
use Rattle.run_model.specs.Edges.{Edges, modelled}
use Rattle.run_model.specs.Endings.{Ending, FailureCounts, HasStarted, ending_status}
use Rattle.run_model.specs.Lines.{Give}
use Rattle.run_model.specs.Lives.{LooksOnly}
use Rattle.run_model.specs.Moments.{AreSoundDoubts, last_of}
use Rattle.run_model.specs.Runs as runs
use Rattle.run_model.specs.Runs.{Handling, IsInProgress, IsSettled, IsSoundEnd, without_sink}
use Rattle.run_model.specs.Runtimes.{IsNoRoot}
use Rattle.run_model.specs.Turns.{DiskBytes, Turn, bytes_now, events_of, replies_of, worlds_of, CountsFailures, Follow}
use Rattle.run_model.specs.Worlds.{Disks, World, formatted, world_at}
use Rattle.per_audit.specs.Audits.{elements_at, findings_at}
use Rattle.per_audit.specs.AuditText.{audit_text}
use Rattle.per_audit.specs.declared.findings.Finding.{Finding}
use Rattle.per_audit.specs.declared.findings.Listed.{Listed}
use Rattle.per_list.specs.Listings.{listing_text}
use Rattle.per_list.specs.declared.forms.Form.{Form}
use Rattle.root_recovery.specs.Clauses.{IsRecovered, RecoveryKeeps}
use Rattle.root_recovery.specs.Recoveries.{IsRefused, RootRow, most_written}
use Rattle.root_recovery.specs.Texts.{recovery_text}
use Rattle.per_backup.specs.Backups.{exporting, importing_into}
use Rattle.per_backup.specs.Clauses.{ImportKeeps, Imported, IsAppSeen, WritesImport}
use Rattle.per_run.specs.declared.words.JobKind.{JobKind}
use Rattle.per_run.specs.declared.words.JobKind.TheVariants.{Run, Serve, Format, Generate, Audit, Listing, Export}
use Rattle.per_run.specs.declared.words.JobKind.TheVariants.{Import, RecoverRoot}
use Rattle.per_run.specs.Serves.{FormatsWithin, Serves}
use Rattle.per_run.specs.Words.{reads_input}

-- ---- the output of a job that writes once

-- what stands at one moment where a job writes: the bytes that the sink has taken, None where nothing is said of them,
-- and the disk
pub record Outputs : Type 1 where
  pub taken : Option (List ℕ)
  pub disk : Medium

abbrev pub outputs : (taken : Option (List ℕ)) → (disk : Medium) → Outputs
outputs taken disk = record { taken = taken; disk = disk }

abbrev pub outputs_at : {D : Type 0} → DiskOf D → Edges D → Outputs
outputs_at of_disk at = outputs at.taken (of_disk.medium at.disk)

-- a proper prefix of the text was written
abbrev pub WroteProperPrefix : (before now : Option (List ℕ)) → List ℕ → Type 0
WroteProperPrefix before now text = (count : ℕ) × (count < length text) × Appends before now (take count text)

-- the sink took all of the output: the job is done, its audit has findings, or its export, import or recovery is
-- refused
abbrev pub IsOutputWritten : ℕ → Type 0
IsOutputWritten status = (status ≡ 0) ⊎ ((status ≡ 8) ⊎ (status ≡ 9))

-- the job came to its output
abbrev pub CameToOutput : ℕ → Type 0
CameToOutput status = IsOutputWritten status ⊎ (status ≡ 6)

-- what a job wrote: all of the text; where the sink failed a proper prefix of it; and nothing where the job did not
-- come to its output
pub record WritesOutput (status : ℕ) (before now : Option (List ℕ)) (text : List ℕ) : Type 0 where
  pub whole : IsOutputWritten status → Appends before now text
  pub front : status ≡ 6 → WroteProperPrefix before now text
  pub none : ¬ (CameToOutput status) → Keeps before now

-- where the status is not 3, no call of the disk failed
abbrev pub FailsAtThree : (status : ℕ) → (before now : ℕ) → Type 0
FailsAtThree status before now = status ≢ 3 → now ≡ before

-- ---- format

-- eight applications of which nothing is installed, in clean places (in which each text is a root's, and no two have
-- one generation), and nothing pending
pub record Formats (told : Bool) (status : ℕ) (before after : Outputs) : Type 0 where
  pub output : WritesOutput status before.taken after.taken (codes "ok\n")
  pub world : IsTrue told → CameToOutput status → world_at after.disk.image ≡ formatted
  pub clean : IsTrue told → CameToOutput status → (app : ℕ) → app < 8 → IsCleanApp app after.disk.image
  pub quiet : CameToOutput status → Quiet after.disk
  -- only slots of roots change, and no more is written than the formatting of eight roots costs, however it ends
  pub roots : IsTrue told → Spares IsNoRoot before.disk.image after.disk.image
  pub written : after.disk.written ≤ before.disk.written + 8 * format_cost
  pub failed : FailsAtThree status before.disk.faults after.disk.faults

-- ---- a synthetic workload, generated from a number

-- the answer is `ok`; it is an error; the number that it is, where it is one
abbrev pub done_in : Answer → Bool
done_in answer.Done = true
done_in other = false

abbrev pub error_in : Answer → Bool
error_in (answer.Error e) = true
error_in other = false

abbrev pub number_in : Answer → Option ℕ
number_in (answer.Number n) = Some n
number_in other = None

-- the reply is `ok`; an error; neither
abbrev pub is_done : Reply → Bool
is_done r = done_in r.answer

abbrev pub is_error : Reply → Bool
is_error r = error_in r.answer

abbrev pub is_other : Reply → Bool
is_other r = not (done_in r.answer) && not (error_in r.answer)

-- the number that the storage's size was answered with, which is the first that any reply gave
abbrev pub size_given : List Reply → Option ℕ
size_given [] = None
size_given (r ∷ rs) = option_or (number_in r.answer) (size_given rs)

-- the line of a summary: how many lines there were, how many replies were `ok`, another answer, an error, and the size
-- of the storage, or a dash where no reply gave it
abbrev pub summary_text : (lines done other errors : ℕ) → (size : Option ℕ) → List ℕ
summary_text lines done other errors size = codes "lines "
    ++ (decimal lines ++ (codes " ok " ++ (decimal done ++ (codes " other " ++ (decimal other
    ++ (codes " errors " ++ (decimal errors ++ (codes " size " ++ (number_or_dash size ++ codes "\n")))))))))

-- how many lines there were, how many replies of each sort, and the size
abbrev pub summary : (lines : ℕ) → List Reply → List ℕ
summary lines rs = summary_text lines (count_by is_done rs) (count_by is_other rs) (count_by is_error rs)
    (size_given rs)

-- the lines begin with these
abbrev pub BeginWith : (lines all : List (List ℕ)) → Type 0
BeginWith lines all = (others : List (List ℕ)) × (all ≡ lines ++ others)

-- after these commands nothing was written; or memory ran out in the command of the next line, and it was in progress
abbrev pub IsLeftBy : Converters → (start : World) → Handling → (begun held : DiskBytes) → Type 0
IsLeftBy converters start handling begun held = (held ≡ bytes_after begun handling.turns)
    ⊎ ((next : Disks) × IsInProgress converters start handling next begun held)

-- What these commands wrote: each from the bytes on that were there before it, the first from those that the start
-- left, which formatted eight roots and opened them, however far it came; and after the last nothing, where the job
-- came to its output, and else no more than the command that was in progress.
pub record IsGeneratedWithin (converters : Converters) (handling : Handling) (Whole : Type 0)
    (old new : Medium) : Type 0
  where
    pub begun : DiskBytes
    pub starts : FormatsWithin (bytes_now old) begun
    pub bounded : AreBounded converters formatted begun handling.turns
    pub held : Whole → bytes_now new ≡ bytes_after begun handling.turns
    pub left : IsLeftBy converters formatted handling begun (bytes_now new)

-- the lines that the number gives, each with its reply and its world from the formatted one on: the applications as the
-- disk denotes them and memory keeps them; where the job did not come to its output, the first of the lines
pub record Generates (told : Bool) (converters : Converters) (n status : ℕ) (before after : Outputs) : Type 0 where
  pub ending : Ending
  pub status_is : status ≡ ending_status ending
  pub lines : List (List ℕ)
  pub first : BeginWith lines (generated n)
  pub whole : CameToOutput status → lines ≡ generated n
  pub turns : List Turn
  pub gives : Give lines (events_of turns)
  pub output : WritesOutput status before.taken after.taken (summary (length (generated n)) (replies_of turns))
  pub failures : CountsFailures (status ≢ 3) before.disk.faults turns after.disk.faults
  pub follow : IsTrue told → Follow converters formatted turns
  pub bounded : IsTrue told → IsGeneratedWithin converters (without_sink lines (generated n) turns)
      (CameToOutput status) before.disk after.disk
  -- the bytes from which the first command is counted denote the formatted applications
  pub stands : (tells : IsTrue told) → HasStarted ending → world_at (bounded tells).begun.image ≡ formatted
  pub settled : IsTrue told → CameToOutput status → IsSettled (last_of formatted (worlds_of turns)) after.disk
  -- where the start did not end no line was handled, and no more was done than the formatting and the start
  pub unbegun : ¬ (HasStarted ending)
      → (lines ≡ []) × (IsTrue told → FormatsWithin (bytes_now before.disk) (bytes_now after.disk))
  -- and where it did the places are clean, however the job ended
  pub clean : (tells : IsTrue told) → HasStarted ending → (app : ℕ) → app < 8 → AreSoundDoubts app (worlds_of turns)
      → IsSoundEnd app ending (bytes_after (bounded tells).begun turns) after.disk → IsCleanApp app after.disk.image

-- ---- an audit

-- what is on the disk is listed, and what is found of it; over a disk that models nothing the text is that of some
-- lists
pub record Audits (told : Bool) (status : ℕ) (before after : Outputs) : Type 0 where
  pub elements : List Listed
  pub findings : List Finding
  pub elements_are : IsTrue told → elements ≡ elements_at before.disk.image
  pub findings_are : IsTrue told → findings ≡ findings_at before.disk.image
  pub output : WritesOutput status before.taken after.taken (audit_text elements findings)
  -- 8 and not 0 is the status where something is found
  pub sound : status ≡ 0 → findings ≡ []
  pub found : status ≡ 8 → findings ≢ []
  pub stays : LooksOnly before.disk after.disk
  pub quiet : CameToOutput status → Quiet after.disk
  pub failed : FailsAtThree status before.disk.faults after.disk.faults

-- ---- a listing

-- what is on the disk is said in this form; over a disk that models nothing it is some text
pub record Lists (told : Bool) (form : Form) (status : ℕ) (before after : Outputs) : Type 0 where
  pub text : List ℕ
  pub text_is : IsTrue told → text ≡ listing_text form before.disk.image
  pub output : WritesOutput status before.taken after.taken text
  pub stays : LooksOnly before.disk after.disk
  pub quiet : CameToOutput status → Quiet after.disk
  pub failed : FailsAtThree status before.disk.faults after.disk.faults

-- ---- an answer that may be a refusal

-- the line of an error, as a reply says it
abbrev pub error_line : PerError → List ℕ
error_line e = answer_text (answer.Error e) ++ codes "\n"

-- the text of what was answered, or the line of the refusal
abbrev pub answered_text : {A : Type 0} → (A → List ℕ) → Result A PerError → List ℕ
answered_text text (Ok x) = text x
answered_text text (Err e) = error_line e

-- the text of what was answered is written, or the line of the refusal; 9 and not 0 is the status of a refusal
pub record AnswersOr {A : Type 0} (text : A → List ℕ) (row : Result A PerError) (status : ℕ)
    (before now : Option (List ℕ)) : Type 0 where
  pub output : WritesOutput status before now (answered_text text row)
  pub done : status ≡ 0 → IsOk row
  pub refused : status ≡ 9 → IsErr row

-- ---- an export

-- the text of the storage alone is written; over a disk that models nothing it is a storage of some application
pub record Exports (told : Bool) (app : ℕ) (name : List ℕ) (status : ℕ) (before after : Outputs) : Type 0 where
  pub it : App
  pub seen : IsAppSeen told before.disk.image app it
  pub answers : AnswersOr (λ text. text) (exporting it name) status before.taken after.taken
  pub stays : LooksOnly before.disk after.disk
  pub quiet : CameToOutput status → Quiet after.disk
  pub failed : FailsAtThree status before.disk.faults after.disk.faults

-- ---- an import

-- these bytes were taken of the input, and its end was seen (`ended`) or not; after as many as are allowed, 67108864
-- (`INPUT_BYTES`), nobody looks for it
pub record IsInputTaken (left_before left_now : Option (List ℕ)) (given : List ℕ) (ended : Bool) : Type 0 where
  pub takes : Consumes left_before left_now given
  pub bound : length given ≤ 67108864
  pub end_seen : IsTrue ended → IsAtEnd left_now × (length given < 67108864)

-- nothing was written, and no call of the disk was made
pub record IsUncalled (before after : Outputs) : Type 0 where
  pub output : Keeps before.taken after.taken
  pub stays : LooksOnly before.disk after.disk
  pub moment : after.disk.moment ≡ before.disk.moment
  pub faults : after.disk.faults ≡ before.disk.faults

-- what an import rebuilds: the storage of this name of an application, from this text
pub record Rebuild : Type 0 where
  pub app : ℕ
  pub name : List ℕ
  pub text : List ℕ

-- the storage was rebuilt from the text, or that was refused, or it was broken off on the way
pub record Makes (told : Bool) (rebuild : Rebuild) (status : ℕ) (before after : Outputs) : Type 0 where
  pub it : App
  pub seen : IsAppSeen told before.disk.image rebuild.app it
  pub answers : AnswersOr (λ made. codes "ok\n") (importing_into it rebuild.name rebuild.text) status before.taken
      after.taken
  pub refused : CameToOutput status → IsErr (importing_into it rebuild.name rebuild.text)
      → LooksOnly before.disk after.disk
  pub imported : IsTrue told → CameToOutput status
      → Imported rebuild.app rebuild.name rebuild.text before.disk after.disk
  -- at every moment, and no more is written than a rebuild with the contents of the text costs, however it ends
  pub keeps : IsTrue told → ImportKeeps rebuild.app rebuild.name rebuild.text before.disk after.disk
  pub written : IsTrue told → WritesImport rebuild.app rebuild.name rebuild.text before.disk after.disk
  pub quiet : CameToOutput status → Quiet after.disk
  pub failed : FailsAtThree status before.disk.faults after.disk.faults

-- The input was read to its end, and then the storage rebuilt; or it was not, and nothing happened.
pub record Imports (told : Bool) (app : ℕ) (name : List ℕ) (status : ℕ) (before after : Edges Medium) : Type 0 where
  pub given : List ℕ
  pub ended : Bool
  pub taken : IsInputTaken before.left after.left given ended
  -- 5 is the status where the source failed, and 7 where the input is too long
  pub broken : status ≡ 5 → IsFalse ended × (length given < 67108864)
  pub too_long : status ≡ 7 → IsFalse ended × (length given ≡ 67108864)
  pub called : CameToOutput status ⊎ (status ≡ 3) → IsTrue ended
  pub uncalled : IsFalse ended → IsUncalled (outputs before.taken before.disk) (outputs after.taken after.disk)
  pub made : IsTrue ended → Makes told (record { app = app; name = name; text = given }) status
      (outputs before.taken before.disk) (outputs after.taken after.disk)

-- ---- a recovery of a root

-- what was recovered is said, or why nothing was; 9 and not 0 is the status of a refusal; over a disk that models
-- nothing it is some row
pub record Recovers (told : Bool) (app status : ℕ) (before after : Outputs) : Type 0 where
  pub row : RootRow
  pub ended : IsTrue told → CameToOutput status → IsRecovered app row before.disk.image after.disk.image
  pub output : WritesOutput status before.taken after.taken (recovery_text row)
  pub done : status ≡ 0 → ¬ (IsRefused row)
  pub refused : status ≡ 9 → IsRefused row
  pub stays : CameToOutput status → IsRefused row → LooksOnly before.disk after.disk
  -- at every moment, and no more is written than the longest root costs, however it ends
  pub keeps : IsTrue told → RecoveryKeeps app before.disk after.disk
  pub written : after.disk.written ≤ before.disk.written + most_written
  pub quiet : CameToOutput status → Quiet after.disk
  pub failed : FailsAtThree status before.disk.faults after.disk.faults

-- ---- all jobs

-- what each job promises, by its status, of its edges before and after: the promise of its own
abbrev pub JobDone : {D : Type 0} → DiskOf D → JobKind → Converters → (status : ℕ) → (before after : Edges D) → Type 0
JobDone of_disk Run converters status before after =
    runs.Run of_disk.told converters status (modelled of_disk before) (modelled of_disk after)
JobDone of_disk Serve converters status before after = Serves of_disk converters status before after
JobDone of_disk Format converters status before after =
    Formats of_disk.told status (outputs_at of_disk before) (outputs_at of_disk after)
JobDone of_disk (Generate n) converters status before after =
    Generates of_disk.told converters n status (outputs_at of_disk before) (outputs_at of_disk after)
JobDone of_disk Audit converters status before after =
    Audits of_disk.told status (outputs_at of_disk before) (outputs_at of_disk after)
JobDone of_disk (Listing form) converters status before after =
    Lists of_disk.told form status (outputs_at of_disk before) (outputs_at of_disk after)
JobDone of_disk (Export app name) converters status before after =
    Exports of_disk.told app name status (outputs_at of_disk before) (outputs_at of_disk after)
JobDone of_disk (Import app name) converters status before after =
    Imports of_disk.told app name status (modelled of_disk before) (modelled of_disk after)
JobDone of_disk (RecoverRoot app) converters status before after =
    Recovers of_disk.told app status (outputs_at of_disk before) (outputs_at of_disk after)

-- the statuses that no failure brings
abbrev pub statuses_of : JobKind → List ℕ
statuses_of Run = 0 ∷ 2 ∷ 4 ∷ 7 ∷ []
statuses_of Serve = 0 ∷ 4 ∷ 7 ∷ []
statuses_of Format = 0 ∷ 4 ∷ []
statuses_of (Generate n) = 0 ∷ 4 ∷ []
statuses_of Audit = 0 ∷ 4 ∷ 8 ∷ []
statuses_of (Listing form) = 0 ∷ 4 ∷ []
statuses_of (Export app name) = 0 ∷ 4 ∷ 9 ∷ []
statuses_of (Import app name) = 0 ∷ 4 ∷ 7 ∷ 9 ∷ []
statuses_of (RecoverRoot app) = 0 ∷ 4 ∷ 9 ∷ []

-- the others come only by a failure in this very run: 3 of the disk, 5 of the source, 6 of the sink
pub data IsCaused (kind : JobKind) (status : ℕ) (old new : FailureCounts) : Type 0 where
  by_itself : Contains (statuses_of kind) status → IsCaused kind status old new
  by_disk : status ≡ 3 → Rose old.disk new.disk → IsCaused kind status old new
  by_source : status ≡ 5 → IsTrue (reads_input kind) → Rose old.source new.source → IsCaused kind status old new
  by_sink : status ≡ 6 → Rose old.sink new.sink → IsCaused kind status old new
