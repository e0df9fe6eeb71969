-- The texts of replies: a line for each report, and the answer's line.
use Rattle.std.specs.Prelude.{⊤, ℕ, List, [], ◌∷◌, ◌++◌, codes, Option, Some, None, if◌then◌else◌, IsSome}
use Rattle.std.specs.List.{flat_map}
use Rattle.std.specs.Fmt.{decimal}
use Rattle.per_base.specs.Errors.{error_number}
use Rattle.per_base.specs.declared.elements.Cause.{Cause}
use Rattle.per_base.specs.declared.elements.Cause.TheVariants as cause
use Rattle.per_base.specs.declared.elements.FileInfo.{FileInfo}
use Rattle.per_base.specs.declared.errors.Unit.{Unit}
use Rattle.per_base.specs.declared.errors.Unit.TheVariants as unit
use Rattle.per_base.specs.declared.errors.Holder.{Holder}
use Rattle.per_base.specs.declared.errors.Holder.TheVariants as holder
use Rattle.per_base.specs.declared.errors.Limit.{Limit}
use Rattle.per_base.specs.declared.errors.Limit.TheVariants as limit
use Rattle.per_base.specs.declared.errors.PerError.{PerError}
use Rattle.per_base.specs.declared.errors.PerError.TheVariants as error
use Rattle.per_base.specs.declared.reports.Report.{Report}
use Rattle.per_base.specs.declared.reports.ReportKind.{ReportKind}
use Rattle.per_base.specs.declared.reports.ReportKind.TheVariants as report
use Rattle.value_text.specs.Texts.{value_text, hex_byte_text, hex_text}
use Rattle.command_text.specs.declared.replies.Answer.{Answer}
use Rattle.command_text.specs.declared.replies.Answer.TheVariants as answer
use Rattle.command_text.specs.declared.replies.AppStatus.{AppStatus}
use Rattle.command_text.specs.declared.replies.AppStatus.TheVariants as status
use Rattle.command_text.specs.declared.replies.Reply.{Reply}

-- a number, or a dash where there is none
abbrev pub number_or_dash : Option ℕ → List ℕ
number_or_dash None = codes "-"
number_or_dash (Some n) = decimal n

-- ---- errors

-- what is damaged: the word `root`, a storage by its name, or a storage and its element with a colon between them
abbrev pub unit_text : Unit → List ℕ
unit_text unit.Root = codes "root"
unit_text (unit.Whole s) = s
unit_text (unit.Part s e) = s ++ codes ":" ++ e

-- what keeps a thing busy: a storage by its name, a handle by its number, or an update by its version
abbrev pub holder_text : Holder → List ℕ
holder_text (holder.Storage s) = codes "storage " ++ s
holder_text (holder.Handle h) = codes "handle " ++ decimal h
holder_text (holder.Update v) = codes "update " ++ decimal v

-- the word of a limit
abbrev pub limit_text : Limit → List ℕ
limit_text limit.Elements = codes "elements"
limit_text limit.Handles = codes "handles"
limit_text limit.FileBytes = codes "file-bytes"
limit_text limit.ValueBytes = codes "value-bytes"
limit_text limit.ValueDepth = codes "value-depth"
limit_text limit.Generations = codes "generations"

-- the name of an error
abbrev pub error_name : PerError → List ℕ
error_name error.StorageNotFound = codes "StorageNotFound"
error_name error.KeyNotFound = codes "KeyNotFound"
error_name error.IllegalWriteAccess = codes "IllegalWriteAccess"
error_name error.PhysicalStorageFailure = codes "PhysicalStorageFailure"
error_name (error.IntegrityCorrupted u) = codes "IntegrityCorrupted"
error_name (error.DataTypeMismatch stored asked) = codes "DataTypeMismatch"
error_name error.InitValueNotAvailable = codes "InitValueNotAvailable"
error_name (error.ResourceBusy h) = codes "ResourceBusy"
error_name (error.OutOfStorageSpace needed allowed) = codes "OutOfStorageSpace"
error_name error.FileNotFound = codes "FileNotFound"
error_name error.InvalidPosition = codes "InvalidPosition"
error_name error.IsEof = codes "IsEof"
error_name error.InvalidOpenMode = codes "InvalidOpenMode"
error_name error.InvalidSize = codes "InvalidSize"
error_name error.NotInstalled = codes "NotInstalled"
error_name error.AlreadyInstalled = codes "AlreadyInstalled"
error_name (error.ManifestRejected rule) = codes "ManifestRejected"
error_name error.NoPreviousVersion = codes "NoPreviousVersion"
error_name error.NotOpen = codes "NotOpen"
error_name (error.LimitReached which) = codes "LimitReached"
error_name error.IllegalReadAccess = codes "IllegalReadAccess"
error_name (error.UpdateNotFinished previous) = codes "UpdateNotFinished"
error_name (error.VersionNotNewer active offered) = codes "VersionNotNewer"
error_name error.BadName = codes "BadName"
error_name error.NoUpdateInProgress = codes "NoUpdateInProgress"
error_name error.ExportRejected = codes "ExportRejected"
error_name error.OutOfMemory = codes "OutOfMemory"

-- a number, if there is one, and a name after a space
abbrev pub numbered_error : Option ℕ → List ℕ → List ℕ
numbered_error (Some number) name = decimal number ++ codes " " ++ name
numbered_error None name = name

-- the number and the name of an error; OutOfMemory has no number
abbrev pub error_title : PerError → List ℕ
error_title e = numbered_error (error_number e) (error_name e)

-- what an error carries, each after a space
abbrev pub carried_text : PerError → List ℕ
carried_text (error.IntegrityCorrupted u) = codes " " ++ unit_text u
carried_text (error.DataTypeMismatch stored asked) = codes " " ++ stored ++ codes " " ++ asked
carried_text (error.ResourceBusy h) = codes " " ++ holder_text h
carried_text (error.OutOfStorageSpace needed allowed) = codes " " ++ decimal needed ++ codes " " ++ decimal allowed
carried_text (error.ManifestRejected rule) = codes " " ++ decimal rule
carried_text (error.LimitReached which) = codes " " ++ limit_text which
carried_text (error.UpdateNotFinished previous) = codes " " ++ decimal previous
carried_text (error.VersionNotNewer active offered) = codes " " ++ decimal active ++ codes " " ++ decimal offered
carried_text other = []

-- ---- answers

-- the word of a cause: by what a file was made or changed
abbrev pub cause_text : Cause → List ℕ
cause_text cause.Installation = codes "installation"
cause_text cause.Update = codes "update"
cause_text cause.Reset = codes "reset"
cause_text cause.Recovery = codes "recovery"
cause_text cause.Application = codes "application"

-- the moments of a file's making, last change and last access, in seconds, and the causes of the first two
abbrev pub info_text : FileInfo → List ℕ
info_text i = decimal i.created ++ codes " " ++ decimal i.modified ++ codes " " ++ decimal i.accessed ++ codes " "
    ++ cause_text i.creation ++ codes " " ++ cause_text i.modification

-- the active version of an application, and the previous one where there is one
abbrev pub status_text : AppStatus → List ℕ
status_text status.Absent = codes "absent"
status_text (status.Active version None) = codes "version " ++ decimal version
status_text (status.Active version (Some previous)) = codes "version " ++ decimal version ++ codes " previous "
    ++ decimal previous

-- bytes in two hexadecimal digits each; a space stands only before some
abbrev pub octets_text : List ℕ → List ℕ
octets_text [] = codes "bytes"
octets_text (b ∷ bytes) = codes "bytes " ++ hex_text (b ∷ bytes)

-- an answer's line without its line feed; each name stands after a space (32)
abbrev pub answer_text : Answer → List ℕ
answer_text answer.Done = codes "ok"
answer_text (answer.Val v) = codes "value " ++ value_text v
answer_text (answer.Octets bytes) = octets_text bytes
answer_text (answer.Byte b) = codes "byte " ++ hex_byte_text b
answer_text (answer.Number n) = codes "number " ++ decimal n
answer_text (answer.Truth b) = if b then codes "yes" else codes "no"
answer_text (answer.Names names) = codes "names" ++ flat_map (λ name. 32 ∷ name) names
answer_text (answer.Handle h) = codes "handle " ++ decimal h
answer_text (answer.Info i) = codes "info " ++ info_text i
answer_text (answer.Status s) = codes "status " ++ status_text s
answer_text (answer.Error e) = codes "error " ++ error_title e ++ carried_text e

-- the answer has a text: all but the error OutOfMemory
abbrev pub HasText : Answer → Type 0
HasText (answer.Error e) = IsSome (error_number e)
HasText other = ⊤

-- ---- reports

-- the word of a report: a storage, or an element of one, was read although copies lack it (recovered), or could not be
-- read (failed)
abbrev pub report_word : ReportKind → List ℕ
report_word report.KvsRecovered = codes "kvs-recovered"
report_word report.KvsFailed = codes "kvs-failed"
report_word report.KeyRecovered = codes "key-recovered"
report_word report.KeyFailed = codes "key-failed"
report_word report.FilesRecovered = codes "files-recovered"
report_word report.FilesFailed = codes "files-failed"
report_word report.FileRecovered = codes "file-recovered"
report_word report.FileFailed = codes "file-failed"

-- the storage, or the storage and its element
abbrev pub reported_text : List ℕ → Option (List ℕ) → List ℕ
reported_text storage None = storage
reported_text storage (Some element) = storage ++ codes ":" ++ element

-- the numbers of copies joined by commas (44), or a hyphen where there are none
abbrev pub copies_text : List ℕ → List ℕ
copies_text [] = codes "-"
copies_text (c ∷ copies) = decimal c ++ flat_map (λ d. 44 ∷ decimal d) copies

-- the line of a report: its word, what it is of, and the copies that lack it
abbrev pub report_line : Report → List ℕ
report_line r = codes "report " ++ report_word r.kind ++ codes " " ++ reported_text r.storage r.element ++ codes " "
    ++ copies_text r.copies ++ codes "\n"

-- ---- replies

-- the text of a reply: a line for each report, and the answer's line, each with its line feed
abbrev pub reply_text : Reply → List ℕ
reply_text r = flat_map report_line r.reports ++ answer_text r.answer ++ codes "\n"
