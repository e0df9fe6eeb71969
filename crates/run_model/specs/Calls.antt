-- What a call makes of its application where no device fails: the reply, and the application afterwards.
use Rattle.std.specs.Prelude.{◌≡◌, ℕ, List, [], ◌∷◌, length, Bool, true, false, cond, not, ◌&&◌, Option, Some, None}
use Rattle.std.specs.Prelude.{Result, Ok, Err, option_map, is_some, ⊤, ◌-◌, slice_get, slice_set}
use Rattle.per_base.specs.declared.elements.StoreKind.{StoreKind}
use Rattle.per_base.specs.declared.elements.StoreKind.TheVariants as kinds
use Rattle.per_base.specs.declared.errors.Holder.TheVariants as holder
use Rattle.per_base.specs.declared.errors.Limit.TheVariants as limit
use Rattle.per_base.specs.declared.errors.PerError.{PerError}
use Rattle.per_base.specs.declared.errors.PerError.TheVariants as error
use Rattle.per_base.specs.declared.errors.Unit.TheVariants as unit
use Rattle.per_base.specs.Refusals.{refuse}
use Rattle.value_code.specs.Reading.{is_content}
use Rattle.deployment_model.specs.Data.{StorageData}
use Rattle.element_state.specs.States.{State, Opens, Corrupt, mended_view, is_worn}
use Rattle.element_state.specs.Reports.{reports, failed_report}
use Rattle.element_maps.specs.Sessions.{same_map, view_once_synced}
use Rattle.file_core.specs.Places.{writes}
use Rattle.file_handles.specs.Sessions.{lowest}
use Rattle.file_handles.specs.Handling.{at_handle}
use Rattle.command_text.specs.declared.calls.Call.{Call}
use Rattle.command_text.specs.declared.calls.Call.TheVariants as call
use Rattle.command_text.specs.declared.replies.Answer.{Answer}
use Rattle.command_text.specs.declared.replies.Answer.TheVariants as answer
use Rattle.command_text.specs.declared.replies.AppStatus.TheVariants as status
use Rattle.command_text.specs.declared.replies.Reply.{Reply}
use Rattle.deploy_laws.specs.Places.{Named}
use Rattle.deploy_laws.specs.Apps.{Says, nothing, absent, installed, App}
use Rattle.deploy_rows.specs.Rows.{◌>>=◌, InProgress, BeginsUpdate, installing, finishing, rolling_back, wiping}
use Rattle.deploy_rows.specs.Rows.{updated_app, one_more}
use Rattle.deploy_rows.specs.Recovering.{recovering, resetting}
use Rattle.run_model.specs.Converters.{Converters}
use Rattle.run_model.specs.Found.{FoundStorage, storage_in, shape_in, with_storage_state}
use Rattle.run_model.specs.Sessions.{Session, keys, files, in_session, session_of, synced_in_session, seen_of}
use Rattle.run_model.specs.Sessions.{made_durable}
use Rattle.run_model.specs.Worlds.{Application, Sessions, at_rest, updating, update_in, ApplicationAt}

-- a reply, and what an application is afterwards
abbrev pub Outcome : Type 0
Outcome = Reply × Application

-- this answer without a report, and this application after it
abbrev pub answered : Answer → Application → Outcome
answered a r = (record { reports = []; answer = a }, r)

-- the outcome of a call on application r: a refusal is answered as an error and changes nothing
abbrev pub concluded : Application → Result Outcome PerError → Outcome
concluded r (Ok outcome) = outcome
concluded r (Err e) = answered (answer.Error e) r

-- what was found, or else this refusal
abbrev pub found_or : {A : Type 0} → Option A → PerError → Result A PerError
found_or None e = Err e
found_or (Some x) e = Ok x

-- ---- sessions

-- a session at a place of the list, where one is open there
abbrev pub if_open : Option (Option Session) → Option Session
if_open None = None
if_open (Some s) = s

-- the session of the storage of this number, where it is open
abbrev pub session_at : Application → ℕ → Option Session
session_at r number = if_open (slice_get r.sessions number)

-- the application with this session open in the storage of this number
abbrev pub with_session : Application → ℕ → Session → Application
with_session r number s = record r { sessions = slice_set r.sessions number (Some s) }

-- the application with the storage of this number closed
abbrev pub without_session : Application → ℕ → Application
without_session r number = record r { sessions = slice_set r.sessions number None }

-- the rest, but busy where the storage is open
abbrev pub unless_open : {A : Type 0} → Application → FoundStorage → Result A PerError → Result A PerError
unless_open r f rest = refuse (is_some (session_at r f.number)) (error.ResourceBusy (holder.Storage f.config.name))
    rest

-- the session of a storage, or the refusal that it is not open
abbrev pub opened_session : Application → FoundStorage → Result Session PerError
opened_session r f = found_or (session_at r f.number) error.NotOpen

-- ---- opening

-- what was seen is reported, what can be mended is mended, and both maps are what was seen; a corrupt storage stays as
-- it is
abbrev pub storage_opened : ℕ → Application → FoundStorage → State → Outcome
storage_opened app r f (Opens v others) = (
  record { reports = reports (is_content f.config.kind) (shape_in app f) v; answer = answer.Done },
  with_session (record r { disk = with_storage_state r.disk f (Opens (mended_view (shape_in app f) v) []) }) f.number
      (session_of f.config.kind v),
)
storage_opened app r f (Corrupt salvage others) = (
  record {
    reports = failed_report (shape_in app f) ∷ [];
    answer =
        answer.Error (error.IntegrityCorrupted (unit.Whole f.config.name));
  },
  r,
)

-- an opening of the storage of this name and kind: refused where it is not found, and where it is open already
unfoldable pub open_step : ℕ → Application → List ℕ → StoreKind → Result Outcome PerError
open_step app r name kind = storage_in r.disk name (Some kind) >>= λ f. unless_open r f
    (Ok (storage_opened app r f f.state))

-- ---- making a session durable

-- The state of an open storage once it holds what the calls see: the old one where nothing differs, and else the
-- next generation's.
abbrev pub durable_state : ℕ → FoundStorage → State → Session → Result State PerError
durable_state app f (Opens v others) s = refuse (not (same_map (synced_in_session s) (seen_of s)) && is_worn v)
    (error.LimitReached limit.Generations)
    (Ok (Opens (view_once_synced (shape_in app f) v (synced_in_session s) (seen_of s)) []))
-- no open storage is corrupt
durable_state app f (Corrupt salvage others) s = Ok f.state

-- the application once the session of a storage is on the disk, or the refusal that no generation is left
unfoldable pub durable : ℕ → Application → FoundStorage → Session → Result Application PerError
durable app r f s = durable_state app f f.state s >>= λ state.
    Ok (with_session (record r { disk = with_storage_state r.disk f state }) f.number (made_durable s))

-- a sync of a storage of keys: what its calls see is on the disk after it
abbrev pub sync_step : ℕ → Application → List ℕ → Result Outcome PerError
sync_step app r name = storage_in r.disk name (Some kinds.Keys) >>= λ f. opened_session r f >>= λ s.
    durable app r f s >>= λ after. Ok (answered answer.Done after)

-- a handle that only reads makes nothing durable
abbrev pub may_flush : Session → (handle : ℕ) → Result ⊤ PerError
may_flush (keys s) h = Err error.StorageNotFound
may_flush (files s) h = at_handle s.working h (λ handle file.
    refuse (not (writes handle.cursor.kind)) error.IllegalWriteAccess (Ok tt))

-- a flush by a handle that may write: what the calls on its storage see is on the disk after it
abbrev pub flush_step : ℕ → Application → List ℕ → (handle : ℕ) → Result Outcome PerError
flush_step app r name h = storage_in r.disk name (Some kinds.Files) >>= λ f. opened_session r f >>= λ s.
    may_flush s h >>= λ may. durable app r f s >>= λ after.
    Ok (answered answer.Done after)

-- the least number of an open handle, if one is open
abbrev pub lowest_handle : Session → Option ℕ
lowest_handle (keys s) = None
lowest_handle (files s) = lowest s.working.handles

-- the rest, or the refusal that this handle is open
abbrev pub unless_busy : {A : Type 0} → Option ℕ → Result A PerError → Result A PerError
unless_busy None rest = rest
unless_busy (Some h) rest = Err (error.ResourceBusy (holder.Handle h))

-- what is pending of keys is dropped, and the working files are made durable
abbrev pub closing : ℕ → Application → FoundStorage → Session → Result Application PerError
closing app r f (keys s) = Ok r
closing app r f (files s) = durable app r f (files s)

-- a close: refused where the storage is not open, and where one of its handles is
abbrev pub close_step : ℕ → Application → List ℕ → Result Outcome PerError
close_step app r name = storage_in r.disk name None >>= λ f. opened_session r f >>= λ s.
    unless_busy (lowest_handle s) (closing app r f s >>= λ after.
    Ok (answered answer.Done (without_session after f.number)))

-- ---- a closed storage is rebuilt

-- a closed storage gets another state, by the row of a recovery or a reset; refused where it is open
abbrev pub rebuild_step : Application → List ℕ → (FoundStorage → Result State PerError) → Result Outcome PerError
rebuild_step r name state_of = storage_in r.disk name None >>= λ f. unless_open r f (state_of f >>= λ state.
    Ok (answered answer.Done (record r { disk = with_storage_state r.disk f state })))

-- ---- calls on an open storage that touch no disk

-- the storage that such a call names, and the kind that it needs
abbrev pub local_on : Call → Option (List ℕ × Option StoreKind)
local_on (call.Size n) = Some (n, None)
local_on (call.Keys n) = Some (n, Some kinds.Keys)
local_on (call.Exists n k) = Some (n, Some kinds.Keys)
local_on (call.Get n k) = Some (n, Some kinds.Keys)
local_on (call.GetAs n k t) = Some (n, Some kinds.Keys)
local_on (call.Set n k v) = Some (n, Some kinds.Keys)
local_on (call.Remove n k) = Some (n, Some kinds.Keys)
local_on (call.RemoveAll n) = Some (n, Some kinds.Keys)
local_on (call.RecoverKey n k) = Some (n, Some kinds.Keys)
local_on (call.ResetKey n k) = Some (n, Some kinds.Keys)
local_on (call.Discard n) = Some (n, Some kinds.Keys)
local_on (call.Files n) = Some (n, Some kinds.Files)
local_on (call.FileExists n f) = Some (n, Some kinds.Files)
local_on (call.OpenFile n f k m) = Some (n, Some kinds.Files)
local_on (call.CloseFile n h) = Some (n, Some kinds.Files)
local_on (call.Peek n h) = Some (n, Some kinds.Files)
local_on (call.Byte n h) = Some (n, Some kinds.Files)
local_on (call.Read n h count) = Some (n, Some kinds.Files)
local_on (call.ReadAll n h) = Some (n, Some kinds.Files)
local_on (call.Line n h d) = Some (n, Some kinds.Files)
local_on (call.Write n h bytes) = Some (n, Some kinds.Files)
local_on (call.SetSize n h size) = Some (n, Some kinds.Files)
local_on (call.HandleSize n h) = Some (n, Some kinds.Files)
local_on (call.Position n h) = Some (n, Some kinds.Files)
local_on (call.Seek n h at) = Some (n, Some kinds.Files)
local_on (call.Move n h from offset) = Some (n, Some kinds.Files)
local_on (call.Eof n h) = Some (n, Some kinds.Files)
local_on (call.SizeOf n f) = Some (n, Some kinds.Files)
local_on (call.Info n f) = Some (n, Some kinds.Files)
local_on (call.Delete n f) = Some (n, Some kinds.Files)
local_on (call.RecoverFile n f) = Some (n, Some kinds.Files)
local_on (call.ResetFile n f) = Some (n, Some kinds.Files)
local_on (call.Cat n f) = Some (n, Some kinds.Files)
local_on (call.Put n f bytes) = Some (n, Some kinds.Files)
-- the calls of deployment, and those that open, make durable, close, recover and reset
local_on other = None

-- a call on an open storage that touches no disk: refused where it is not found or not open, and else by its session
abbrev pub local_step : Application → (now : ℕ) → Option (List ℕ × Option StoreKind) → Call → Result Outcome PerError
local_step r now None c = Err error.StorageNotFound
local_step r now (Some on) c = storage_in r.disk on.0 on.1 >>= λ f. opened_session r f >>= λ s.
    in_session f.config now s c >>= λ a.
    Ok (answered a.0 (with_session r f.number a.1))

-- ---- deployment

-- the versions that the root says, or the refusal where it is bad
abbrev pub status_step : Application → Says → Result Outcome PerError
status_step r nothing = Err (error.IntegrityCorrupted unit.Root)
status_step r (absent g) = Ok (answered (answer.Status status.Absent) r)
status_step r (installed g active previous) = Ok (answered
    (answer.Status (status.Active active.deployment.version
    (option_map (λ (v : Named). v.deployment.version) previous))) r)

-- the open storage with the least name, which is that with the least number
abbrev pub first_open : Sessions → List StorageData → Option (List ℕ)
first_open [] storages = None
first_open (s ∷ ss) [] = None
first_open (Some s ∷ ss) (c ∷ cs) = Some c.name
first_open (None ∷ ss) (c ∷ cs) = first_open ss cs

-- the storages of the version that is active; none where nothing is installed
abbrev pub active_storages : Says → List StorageData
active_storages nothing = []
active_storages (absent g) = []
active_storages (installed g active previous) = active.deployment.storages

-- the open storage with the least name, of the active version
abbrev pub least_open : Application → Option (List ℕ)
least_open r = first_open r.sessions (active_storages r.disk.says)

-- the row of a call of deployment, done
abbrev pub done_with : Application → Result App PerError → Result Outcome PerError
done_with r row = row >>= λ after. Ok (answered answer.Done (record r { disk = after }))

-- ---- an update in progress

-- the update in progress, after the refusals for a bad and for an absent root
abbrev pub progress_in : Says → Option InProgress → Result InProgress PerError
progress_in nothing p = Err (error.IntegrityCorrupted unit.Root)
progress_in (absent g) p = Err error.NotInstalled
progress_in (installed g active previous) p = found_or p error.NoUpdateInProgress

-- the update in progress of an application, or the refusal
abbrev pub progress_of : Application → Result InProgress PerError
progress_of r = progress_in r.disk.says (update_in r.stage)

-- how many storages of an update are not built yet
abbrev pub remaining : InProgress → ℕ
remaining p = length p.contents - p.built

-- one storage more of the update is built, and the answer is how many remain
abbrev pub next_step : Application → Result Outcome PerError
next_step r = progress_of r >>= λ p. Ok (answered (answer.Number (remaining (one_more p)))
    (record r { stage = updating (one_more p) }))

-- the new version is active, and the old one the previous
abbrev pub commit_step : Application → Result Outcome PerError
commit_step r = progress_of r >>= λ p. Ok (answered answer.Done
    (record r { disk = updated_app p r.disk; stage = at_rest }))

-- the update in progress is forgotten
abbrev pub abort_step : Application → Result Outcome PerError
abort_step r = progress_of r >>= λ p. Ok (answered answer.Done (record r { stage = at_rest }))

-- while an update is in progress all other calls are refused but these
abbrev pub goes_beside : Call → Bool
goes_beside call.Status = true
goes_beside (call.Install text) = true
goes_beside call.UpdateNext = true
goes_beside call.UpdateCommit = true
goes_beside call.UpdateAbort = true
goes_beside other = false

-- the refusal of a call beside the update in progress, if one is in progress and the call does not go beside it
abbrev pub beside_update : Option InProgress → Call → Option PerError
beside_update None c = None
beside_update (Some p) c = cond (goes_beside c) None (Some (error.ResourceBusy (holder.Update p.deployment.version)))

-- ---- all calls

-- every call but the two that begin an update, whose plan rests on what converters answer
unfoldable pub app_step : (app : ℕ) → Application → (now : ℕ) → Call → Result Outcome PerError
app_step app r now call.Status = status_step r r.disk.says
app_step app r now (call.Install text) = done_with r (installing now text r.disk)
app_step app r now call.Finish = done_with r (finishing r.disk)
app_step app r now call.Rollback = done_with r (rolling_back (least_open r) r.disk)
app_step app r now call.Wipe = done_with r (wiping (least_open r) r.disk)
app_step app r now call.UpdateNext = next_step r
app_step app r now call.UpdateCommit = commit_step r
app_step app r now call.UpdateAbort = abort_step r
app_step app r now (call.OpenKvs n) = open_step app r n kinds.Keys
app_step app r now (call.OpenFiles n) = open_step app r n kinds.Files
app_step app r now (call.Sync n) = sync_step app r n
app_step app r now (call.Flush n h) = flush_step app r n h
app_step app r now (call.Close n) = close_step app r n
app_step app r now (call.RecoverStorage n) = rebuild_step r n (λ f. recovering f.config now f.state)
app_step app r now (call.ResetStorage n) = rebuild_step r n (λ f. resetting f.config now f.state)
app_step app r now other = local_step r now (local_on other) other

-- an update in one call: the new version is active
abbrev pub with_update : Application → InProgress → Result Outcome PerError
with_update r p = Ok (answered answer.Done (record r { disk = updated_app p r.disk }))

-- an update that goes on in steps: it is in progress
abbrev pub with_update_begun : Application → InProgress → Result Outcome PerError
with_update_begun r p = Ok (answered answer.Done (record r { stage = updating p }))

-- an update to the manifest `text` begins by one plan, from which the call goes on by `after`, or is refused
abbrev pub BeginsBy : Converters → (now : ℕ) → Application → (text : List ℕ)
    → (InProgress → Result Outcome PerError) → Outcome → Type 0
BeginsBy converters now r text after outcome = (row : Result InProgress PerError)
    × BeginsUpdate converters.rules converters.answers now (least_open r) text r.disk row
    × (outcome ≡ concluded r (row >>= after))

-- a call on an application may have this outcome; updates may have several, by what converters answer
abbrev pub CallStep : Converters → ApplicationAt → Call → Outcome → Type 0
CallStep converters at (call.Update text) outcome =
    BeginsBy converters at.now at.application text (with_update at.application) outcome
CallStep converters at (call.UpdateBegin text) outcome =
    BeginsBy converters at.now at.application text (with_update_begun at.application) outcome
CallStep converters at other outcome = outcome
    ≡ concluded at.application (app_step at.app at.application at.now other)

-- a call on an application may have this outcome: the refusal that an update in progress gives, if it gives one, and
-- else that of the call by itself (`CallStep`)
abbrev pub StepBeside : Converters → ApplicationAt → Call → Option PerError → Outcome → Type 0
StepBeside converters at c (Some e) outcome = outcome ≡ answered (answer.Error e) at.application
StepBeside converters at c None outcome = CallStep converters at c outcome
