-- Courses of commands and their replies, computed, each from a formatted world or from one in which a deployment is
-- installed.
use Rattle.std.specs.Prelude.{◌≡◌, ℕ, List, [], ◌∷◌, ◌++◌, Bool, true, false, IsTrue, Option, Some, None, Err, refl}
use Rattle.std.specs.Prelude.{codes, ℤ, negsuc, pos}
use Rattle.std.proofs.Common.{true≢false, sym, ap, inl, inr}
use Rattle.std.specs.Fmt.{digits}
use Rattle.std.specs.Str.{chars, is_utf8}
use Rattle.per_base.specs.declared.elements.Content.{Content}
use Rattle.per_base.specs.declared.elements.Content.TheVariants.{Good, Bad}
use Rattle.per_base.specs.declared.elements.Fresh.{Fresh}
use Rattle.per_base.specs.declared.elements.Scope.TheVariants as scope
use Rattle.per_base.specs.declared.elements.StoreKind.TheVariants.{Keys, Files}
use Rattle.per_base.specs.declared.errors.PerError.{PerError}
use Rattle.per_base.specs.declared.errors.PerError.TheVariants as error
use Rattle.per_base.specs.declared.opening.OpenKind.{OpenKind}
use Rattle.per_base.specs.declared.opening.OpenKind.TheVariants as kind
use Rattle.per_base.specs.declared.opening.Origin.TheVariants as origin
use Rattle.value_model.specs.Encoding.{encoding}
use Rattle.value_model.specs.Kinds.{Kind, one, two, four, eight, bool_kind, unsigned_kind, signed_kind, text_kind}
use Rattle.value_model.specs.Kinds.{fields_kind, no_kinds, kind_then}
use Rattle.value_model.specs.Trees.{Tree, bool_tree, unsigned_tree, signed_tree, text_tree, bytes_tree, fields_tree}
use Rattle.value_model.specs.Trees.{no_trees, tree_then}
use Rattle.value_code.specs.Reading.{decoded, kind_at, counted_at, kinds_by, list_kind_by, group_kind_by, trees_by}
use Rattle.deployment_model.specs.Data.{ElementData, StorageData, DeploymentData}
use Rattle.deployment_model.specs.declared.configs.CollectionStrategy.TheVariants as collection
use Rattle.deployment_model.specs.declared.configs.ElementStrategy.{ElementStrategy}
use Rattle.deployment_model.specs.declared.configs.ElementStrategy.TheVariants as strategy
use Rattle.disk_model.specs.Case.{Case}
use Rattle.element_state.specs.Changes.{committed}
use Rattle.element_state.specs.Reports.{reports}
use Rattle.element_state.specs.States.{Opens, Corrupt, fresh_state, mended_view}
use Rattle.command_text.specs.declared.calls.Call.{Call}
use Rattle.command_text.specs.declared.calls.Call.TheVariants as call
use Rattle.command_text.specs.declared.calls.Event.{Event}
use Rattle.command_text.specs.declared.calls.Event.TheVariants as event
use Rattle.command_text.specs.declared.replies.Answer.TheVariants as answer
use Rattle.command_text.specs.declared.replies.Reply.{Reply}
use Rattle.command_text.specs.Replies.{reply_text}
use Rattle.deploy_laws.specs.Apps.{App, app_at}
use Rattle.deploy_laws.specs.Places.{storage_shape}
use Rattle.deploy_rows.specs.Rows.{InProgress, installing, installed_app, finishing, rolling_back, wiping, offered}
use Rattle.deploy_rows.specs.Rows.{updated_app}
use Rattle.deploy_rows.specs.Recovering.{recovering, resetting}
use Rattle.run_model.specs.Converters.{Converters}
use Rattle.run_model.specs.Sessions.{on_keys, on_working}
use Rattle.run_model.specs.Worlds.{Application, World, world_at, update_in, disks, no_app, resting, app_of, with_app}
use Rattle.run_model.specs.Worlds.{formatted, after_run, after_start, application_at}
use Rattle.run_model.specs.Calls.{Outcome, answered, concluded, app_step, with_update, with_update_begun, open_step}
use Rattle.run_model.specs.Calls.{durable}
use Rattle.run_model.specs.Calls.{beside_update, CallStep, StepBeside}
use Rattle.run_model.specs.Steps.{Step, FailsElsewhere, failure, root_opened, doubt_after, calls_device, reaches_device}
use Rattle.run_model.specs.Steps.{after_failure, found_named}

-- ---- a course of commands, where the device does not fail

-- what a call gives by itself; one that begins an update is given the plan
abbrev pub given_step : (app now : ℕ) → Application → InProgress → Call → Outcome
given_step app now r p (call.Update text) = concluded r (with_update r p)
given_step app now r p (call.UpdateBegin text) = concluded r (with_update_begun r p)
given_step app now r p other = concluded r (app_step app r now other)

-- and beside an update in progress
abbrev pub given_beside : (app now : ℕ) → Application → InProgress → Call → Option PerError → Outcome
given_beside app now r p c (Some e) = answered (answer.Error e) r
given_beside app now r p c None = given_step app now r p c

abbrev pub outcome_of : (app now : ℕ) → Application → InProgress → Call → Outcome
outcome_of app now r p c = given_beside app now (root_opened r) p c
    (beside_update (update_in (root_opened r).stage) c)

abbrev pub after_outcome : World → (app : ℕ) → Call → Outcome → World
after_outcome w app c outcome = record (with_app w app outcome.1) {
  doubt =
      doubt_after (calls_device (app_of w app) c) w.doubt;
}

-- the reply, and the world after it
abbrev pub stepped : InProgress → World → Event → Reply × World
stepped p w (event.Now t) = (record { reports = []; answer = answer.Done }, record w { now = t })
stepped p w (event.App app c) = let outcome = outcome_of app w.now (app_of w app) p c in
    (outcome.0, after_outcome w app c outcome)

-- the texts of all replies, and the last world
abbrev pub course : InProgress → World → List Event → List ℕ × World
course p w [] = ([], w)
course p w (e ∷ es) = (
  reply_text (stepped p w e).0 ++ (course p (stepped p w e).1 es).0,
  (course p (stepped p w e).1 es).1,
)

-- a plan that no command asks for
abbrev pub no_plan : InProgress
no_plan = record { manifest = []; deployment = record { version = 0; storages = [] }; contents = []; built = 0 }

abbrev pub replies : World → List Event → List ℕ
replies w es = (course no_plan w es).0

abbrev pub world_after : World → List Event → World
world_after w es = (course no_plan w es).1

-- ---- a course goes by steps

abbrev pub begins_update : Call → Bool
begins_update (call.Update text) = true
begins_update (call.UpdateBegin text) = true
begins_update other = false

call_is : (converters : Converters) (app now : ℕ) (r : Application) (p : InProgress) (c : Call)
    → begins_update c ≡ false
    → CallStep converters (application_at app now r) c (given_step app now r p c)
call_is converters app now r p (call.Update text) calm = absurd (true≢false calm)
call_is converters app now r p (call.UpdateBegin text) calm = absurd (true≢false calm)
call_is converters app now r p other calm = refl

beside_is : (converters : Converters) (app now : ℕ) (r : Application) (p : InProgress) (c : Call)
    (e : Option PerError) → begins_update c ≡ false
    → StepBeside converters (application_at app now r) c e (given_beside app now r p c e)
beside_is converters app now r p c (Some e) calm = refl
beside_is converters app now r p c None calm = call_is converters app now r p c calm

-- each command of a course is a step of the world, where it begins no update
pub step_is : (converters : Converters) (p : InProgress) (w : World) (app : ℕ) (c : Call)
    → begins_update c ≡ false
    → Step converters w (event.App app c) (stepped p w (event.App app c)).0 (stepped p w (event.App app c)).1
step_is converters p w app c calm = (
  outcome_of app w.now (app_of w app) p c,
  beside_is converters app w.now (root_opened (app_of w app)) p c
      (beside_update (update_in (root_opened (app_of w app)).stage) c) calm,
  refl,
  refl,
)

-- a command of application 0
abbrev pub on : Call → Event
on c = event.App 0 c

-- the world in which an application has just been installed
abbrev pub with_installed : World → (app now : ℕ) → DeploymentData → World
with_installed w app now d = with_app w app (resting (installed_app 1 now d))

-- all that is to be computed
unfoldable pub computed : ℕ
unfolding digits chars is_utf8 decoded kind_at counted_at kinds_by list_kind_by group_kind_by trees_by committed
    reports
    fresh_state mended_view storage_shape installing installed_app finishing rolling_back wiping offered updated_app
    recovering resetting on_keys on_working app_step open_step durable
computed = 0

-- ---- keys

abbrev pub fav : List ℕ
fav = codes "fav"

abbrev pub home : List ℕ
home = codes "home"

-- a key-value storage of one copy
abbrev pub key_storage : List ℕ → (maximum m n : ℕ) → List ElementData → StorageData
key_storage name maximum m n elements = record {
  name = name;
  kind = Keys;
  minimum = 0;
  maximum = maximum;
  strategy = collection.KeepExisting;
  read_only = false;
  m = m;
  n = n;
  scope = scope.Element;
  elements = elements;
}

-- `home`, of type u16 and initially u16:513
abbrev pub home_key : ElementData
home_key = record {
  name = home;
  value_type = Some (unsigned_kind two);
  initial = Some (3 ∷ 1 ∷ 2 ∷ []);
  strategy =
      None;
}

abbrev pub favourites : DeploymentData
favourites = record { version = 1; storages = key_storage fav 1048576 1 1 (home_key ∷ []) ∷ [] }

abbrev pub at_first : World
at_first = with_installed formatted 0 0 favourites

abbrev pub set_home : ℕ → Event
set_home n = on (call.Set fav home (unsigned_tree two n))

empty_input : replies formatted [] ≡ []
empty_input = refl

reading : replies at_first (on (call.OpenKvs fav) ∷ on (call.Get fav home) ∷ on (call.Size fav) ∷ on (call.Keys fav)
    ∷ [])
    ≡ codes "ok\nvalue u16:513\nnumber 7\nnames home\n"
unfolding computed
reading = refl

changing : replies at_first (on (call.OpenKvs fav) ∷ set_home 9 ∷ on (call.Get fav home) ∷ on (call.Discard fav)
    ∷ on (call.Get fav home) ∷ on (call.RemoveAll fav) ∷ on (call.Size fav)
    ∷ on (call.Exists fav home) ∷ on (call.Discard fav) ∷ on (call.Exists fav home) ∷ [])
    ≡ codes "ok\nok\nvalue u16:9\nok\nvalue u16:513\nok\nnumber 0\nno\nok\nyes\n"
unfolding computed
changing = refl

-- a second run, after a sync and after none
second_run : replies (after_start (after_run (world_after at_first
    (on (call.OpenKvs fav) ∷ set_home 9 ∷ on (call.Sync fav) ∷ []))))
    (on (call.OpenKvs fav) ∷ on (call.Get fav home) ∷ [])
    ≡ codes "ok\nvalue u16:9\n"
unfolding computed
second_run = refl

second_run_unsynced : replies
    (after_start (after_run (world_after at_first (on (call.OpenKvs fav) ∷ set_home 9 ∷ []))))
    (on (call.OpenKvs fav) ∷ on (call.Get fav home) ∷ [])
    ≡ codes "ok\nvalue u16:513\n"
unfolding computed
second_run_unsynced = refl

refusing_keys : replies at_first (on (call.OpenKvs fav) ∷ on (call.GetAs fav home (unsigned_kind four))
    ∷ on (call.Set fav home (unsigned_tree four 1)) ∷ on (call.Get fav (codes "work"))
    ∷ on (call.GetAs fav home (unsigned_kind two)) ∷ on (call.ResetKey fav (codes "work")) ∷ [])
    ≡ codes
    "ok\nerror 7 DataTypeMismatch u16 u32\nerror 7 DataTypeMismatch u16 u32\nerror 2 KeyNotFound\nvalue u16:513\nerror 8 InitValueNotAvailable\n"
unfolding computed
refusing_keys = refl

restoring_keys : replies at_first (on (call.OpenKvs fav) ∷ set_home 9 ∷ on (call.ResetKey fav home)
    ∷ on (call.Get fav home) ∷ on (call.Remove fav home) ∷ on (call.Exists fav home) ∷ [])
    ≡ codes "ok\nok\nok\nvalue u16:513\nok\nno\n"
unfolding computed
restoring_keys = refl

-- a storage of twelve bytes
abbrev pub box : List ℕ
box = codes "box"

abbrev pub a_box : World
a_box = with_installed formatted 0 0 (record { version = 1; storages = key_storage box 12 1 1 [] ∷ [] })

full_storage : replies a_box (on (call.OpenKvs box) ∷ on
    (call.Set box (codes "a") (bytes_tree (1 ∷ 2 ∷ 3 ∷ 4 ∷ 5 ∷ 6 ∷ []))) ∷ on (call.Size box)
    ∷ on (call.Set box (codes "a") (bytes_tree (1 ∷ 2 ∷ 3 ∷ 4 ∷ 5 ∷ 6 ∷ 7 ∷ [])))
    ∷ on (call.Set box (codes "b") (bool_tree true)) ∷ on (call.Size box) ∷ [])
    ≡ codes "ok\nok\nnumber 12\nerror 10 OutOfStorageSpace 13 12\nerror 10 OutOfStorageSpace 15 12\nnumber 12\n"
unfolding computed
full_storage = refl

-- refusals that calls share, in their order
shared_refusals : replies at_first (on (call.Get fav home) ∷ on (call.OpenKvs (codes "nope"))
    ∷ event.App 1 (call.OpenKvs fav) ∷ on (call.Install []) ∷ on call.Rollback ∷ on (call.OpenKvs fav)
    ∷ on (call.OpenKvs fav) ∷ on (call.RecoverStorage fav) ∷ on (call.OpenFiles fav) ∷ [])
    ≡ codes
    "error 24 NotOpen\nerror 1 StorageNotFound\nerror 20 NotInstalled\nerror 21 AlreadyInstalled\nerror 23 NoPreviousVersion\nok\nerror 9 ResourceBusy storage fav\nerror 9 ResourceBusy storage fav\nerror 1 StorageNotFound\n"
unfolding computed
shared_refusals = refl

-- a bad root, which says nothing
bad_root : replies (with_app formatted 0 (resting no_app)) (on call.Status ∷ on call.Wipe ∷ on call.Status ∷ [])
    ≡ codes "error 5 IntegrityCorrupted root\nok\nstatus absent\n"
unfolding computed
bad_root = refl

-- ---- copies that lack what they should hold

-- `home` in three copies of which two must agree, with this content, which these copies lack
abbrev pub in_copies : Content → List ℕ → World
in_copies content lacking = with_app formatted 0 (resting
    (record (installed_app 1 0 (record {
      version = 1;
      storages =
          key_storage fav 1048576 2 3 (home_key ∷ []) ∷ [];
    })) {
      states = Opens (record {
        generation = 2;
        lacking = [];
        sole = true;
        entries = record {
          name = home;
          info = None;
          changed = 2;
          len = 3;
          content = content;
          lacking = lacking;
        } ∷ [];
      }) [] ∷ [];
    }))

one_copy_mended : replies (in_copies (Good (3 ∷ 9 ∷ 0 ∷ [])) (1 ∷ []))
    (on (call.OpenKvs fav) ∷ on (call.Get fav home) ∷ on (call.Close fav) ∷ on (call.OpenKvs fav) ∷ [])
    ≡ codes "report key-recovered fav:home 1\nok\nvalue u16:9\nok\nok\n"
unfolding computed
one_copy_mended = refl

salvaged_key : replies (in_copies (Bad (Some (3 ∷ 9 ∷ 0 ∷ []))) (1 ∷ 2 ∷ []))
    (on (call.OpenKvs fav) ∷ on (call.Get fav home) ∷ on (call.RecoverKey fav home) ∷ on (call.Get fav home)
    ∷ on (call.Sync fav) ∷ [])
    ≡ codes "report key-failed fav:home 1,2\nok\nerror 5 IntegrityCorrupted fav:home\nok\nvalue u16:9\nok\n"
unfolding computed
salvaged_key = refl

corrupt_storage : replies (with_app formatted 0 (resting
    (record (installed_app 1 0 (record {
      version = 1;
      storages =
          key_storage fav 1048576 2 3 (home_key ∷ []) ∷ [];
    })) { states = Corrupt None [] ∷ [] })))
    (on (call.OpenKvs fav) ∷ on (call.RecoverStorage fav) ∷ on (call.OpenKvs fav) ∷ on (call.Get fav home) ∷ [])
    ≡ codes "report kvs-failed fav 1,2,3\nerror 5 IntegrityCorrupted fav\nok\nok\nvalue u16:513\n"
unfolding computed
corrupt_storage = refl

-- ---- files

abbrev pub cal : List ℕ
cal = codes "cal"

abbrev pub map_file : List ℕ
map_file = codes "map"

-- a storage of files of one copy
abbrev pub file_storage : List ℕ → (maximum : ℕ) → List ElementData → StorageData
file_storage name maximum elements = record {
  name = name;
  kind = Files;
  minimum = 0;
  maximum = maximum;
  strategy = collection.KeepExisting;
  read_only = false;
  m = 1;
  n = 1;
  scope = scope.Element;
  elements = elements;
}

-- in three copies of which two must agree, sealed whole and only read
abbrev pub sealed_storage : StorageData → StorageData
sealed_storage s = record s { read_only = true; m = 2; n = 3; scope = scope.Storage }

abbrev pub a_file : List ℕ → List ℕ → ElementData
a_file name bytes = record { name = name; value_type = None; initial = Some bytes; strategy = None }

-- the file `map` holds ab, a line feed, cd
abbrev pub a_map : World
a_map = with_installed formatted 0 0 (record {
  version = 1;
  storages = file_storage cal 1048576 (a_file map_file (97 ∷ 98 ∷ 10 ∷ 99 ∷ 100 ∷ []) ∷ []) ∷ [];
})

abbrev pub opening : OpenKind → ℕ → Event
opening k bits = on (call.OpenFile cal map_file k (record { 0 = bits }))

busy_handles : replies a_map
    (on (call.OpenFiles cal) ∷ opening kind.Read 0 ∷ opening kind.Read 0 ∷ opening kind.Write 0
    ∷ on (call.CloseFile cal 1) ∷ on (call.CloseFile cal 2) ∷ opening kind.Write 0
    ∷ opening kind.Read 0 ∷ on (call.Close cal) ∷ [])
    ≡ codes
    "ok\nhandle 1\nhandle 2\nerror 9 ResourceBusy handle 1\nok\nok\nhandle 1\nerror 9 ResourceBusy handle 1\nerror 9 ResourceBusy handle 1\n"
unfolding computed
busy_handles = refl

moving : replies a_map (on (call.OpenFiles cal) ∷ opening kind.ReadWrite 0 ∷ on (call.Line cal 1 10)
    ∷ on (call.Position cal 1) ∷ on (call.Read cal 1 9) ∷ on (call.Eof cal 1) ∷ on (call.Byte cal 1)
    ∷ on (call.Read cal 1 0) ∷ on (call.Seek cal 1 6) ∷ on (call.Seek cal 1 5) ∷ on (call.SetSize cal 1 6)
    ∷ on (call.SetSize cal 1 2) ∷ on (call.Position cal 1)
    ∷ on (call.Move cal 1 origin.End (negsuc 1)) ∷ on (call.Peek cal 1) ∷ [])
    ≡ codes
    "ok\nhandle 1\nbytes 6162\nnumber 3\nbytes 6364\nyes\nerror 13 IsEof\nerror 13 IsEof\nerror 12 InvalidPosition\nok\nerror 15 InvalidSize\nok\nnumber 2\nnumber 0\nbyte 61\n"
unfolding computed
moving = refl

appending : replies a_map (on (call.OpenFiles cal) ∷ opening kind.Read 4 ∷ opening kind.ReadWrite 3
    ∷ opening kind.ReadWrite 8 ∷ on (call.Seek cal 1 0) ∷ on (call.Write cal 1 (101 ∷ []))
    ∷ on (call.CloseFile cal 1) ∷ on (call.Cat cal map_file) ∷ [])
    ≡ codes "ok\nerror 14 InvalidOpenMode\nerror 14 InvalidOpenMode\nhandle 1\nok\nok\nok\nbytes 61620a636465\n"
unfolding computed
appending = refl

whole_files : replies a_map (on (call.OpenFiles cal) ∷ on (call.Cat cal map_file) ∷ opening kind.Write 0
    ∷ on (call.Read cal 1 1) ∷ on (call.OpenFile cal (codes "no") kind.Read (record { 0 = 0 }))
    ∷ on (call.Put cal (codes "no") (0 ∷ 255 ∷ [])) ∷ on (call.Files cal) ∷ on (call.SizeOf cal (codes "no")) ∷ [])
    ≡ codes
    "ok\nbytes 61620a6364\nhandle 1\nerror 26 IllegalReadAccess\nerror 11 FileNotFound\nok\nnames map no\nnumber 2\n"
unfolding computed
whole_files = refl

restoring_files : replies a_map (event.Now 50 ∷ on (call.OpenFiles cal) ∷ on (call.Put cal map_file (0 ∷ []))
    ∷ on (call.ResetFile cal map_file) ∷ opening kind.Read 2 ∷ on (call.HandleSize cal 1)
    ∷ on (call.Seek cal 1 3) ∷ on (call.ReadAll cal 1) ∷ on (call.CloseFile cal 1) ∷ on
    (call.RecoverFile cal map_file)
    ∷ on (call.Info cal map_file) ∷ on (call.Delete cal map_file)
    ∷ on (call.FileExists cal map_file) ∷ on (call.Close cal) ∷ on (call.ResetStorage cal) ∷ on (call.OpenFiles cal)
    ∷ on (call.Info cal map_file) ∷ [])
    ≡ codes
    "ok\nok\nok\nok\nhandle 1\nnumber 5\nok\nbytes 6364\nok\nok\ninfo 0 50 50 installation reset\nok\nno\nok\nok\nok\ninfo 50 50 50 reset reset\n"
unfolding computed
restoring_files = refl

-- ---- a device that fails

abbrev pub nothing_read : Case
nothing_read = record { base = λ f. []; full = λ f. []; left = λ f. [] }

-- The world after a command whose device failed before it wrote anything, with what reads then gave. The courses below
-- compute what `after_failure` leaves, whatever that was; where it is what was on the disk, the device's failure leads
-- there.
abbrev pub failing : World → Call → (read : Case) → World
failing w c read = record (with_app w 0 (after_failure (app_of w 0).disk (root_opened (app_of w 0))
    (found_named (root_opened (app_of w 0)) c))) {
      doubt = Some (record { before = disks w; after = disks w; case = read });
    }

failing_is : (converters : Converters) (w : World) (c : Call) (read : Case)
    → IsTrue (reaches_device 0 (root_opened (app_of w 0)) w.now c)
    → app_at read.left 0 ≡ (app_of w 0).disk → world_at read.left ≡ after_run (failing w c read)
    → FailsElsewhere converters w (on c) failure (failing w c read)
failing_is converters w c read reaches same there = (
  after_failure (app_of w 0).disk (root_opened (app_of w 0)) (found_named (root_opened (app_of w 0)) c),
  disks w,
  read,
  inr (
    reaches,
    ap (λ (a : App). after_failure a (root_opened (app_of w 0)) (found_named (root_opened (app_of w 0)) c))
        (sym same),
  ),
  inl refl,
  refl,
  refl,
  there,
)

-- `fav` is open, and `home` is set and not synchronised
abbrev pub at_nine : World
at_nine = world_after at_first (on (call.OpenKvs fav) ∷ set_home 9 ∷ [])

-- a sync reaches the device, and `finish` is refused before it does
reaching : reaches_device 0 (app_of at_nine 0) 0 (call.Sync fav) ≡ true
unfolding computed
reaching = refl

refused_before : reaches_device 0 (app_of at_nine 0) 0 call.Finish ≡ false
unfolding computed
refused_before = refl

finish_refused : replies at_nine (on call.Finish ∷ []) ≡ codes "error 23 NoPreviousVersion\n"
unfolding computed
finish_refused = refl

-- the sync failed: its session is gone, and what was not synchronised with it
after_failed_sync : replies (failing at_nine (call.Sync fav) nothing_read)
    (on (call.Get fav home) ∷ on (call.OpenKvs fav) ∷ on (call.Get fav home) ∷ [])
    ≡ codes "error 24 NotOpen\nok\nvalue u16:513\n"
unfolding computed
after_failed_sync = refl

-- a status calls no device, and the doubt stays; an opening would sync
doubt_stays : calls_device (app_of (failing at_nine (call.Sync fav) nothing_read) 0) call.Status ≡ false
unfolding computed
doubt_stays = refl

opening_syncs : calls_device (app_of (failing at_nine (call.Sync fav) nothing_read) 0) (call.OpenKvs fav) ≡ true
unfolding computed
opening_syncs = refl

status_in_doubt : replies (failing at_nine (call.Sync fav) nothing_read)
    (on call.Status ∷ event.App 1 call.Status ∷ [])
    ≡ codes "status version 1\nstatus absent\n"
unfolding computed
status_in_doubt = refl

-- ---- an update

abbrev pub settings : List ℕ
settings = codes "s"

abbrev pub key : List ℕ → Kind → List ℕ → Option ElementStrategy → ElementData
key name k initial strategy = record { name = name; value_type = Some k; initial = Some initial; strategy = strategy }

abbrev pub first_version : DeploymentData
first_version = record {
  version = 1;
  storages = key_storage settings 1048576 1 1 (key (codes "conv") (unsigned_kind two) (3 ∷ 4 ∷ 0 ∷ []) None
      ∷ key (codes "gone") (unsigned_kind one) (2 ∷ 3 ∷ []) None
      ∷ key (codes "keep") (unsigned_kind one) (2 ∷ 1 ∷ []) None
      ∷ key (codes "over") (unsigned_kind one) (2 ∷ 2 ∷ []) None ∷ []) ∷ [];
}

abbrev pub second_version : DeploymentData
second_version = record {
  version = 2;
  storages = key_storage settings 1048576 1 1 (key (codes "conv") (unsigned_kind four) (4 ∷ 14 ∷ 0 ∷ 0 ∷ 0 ∷ []) None
      ∷ record {
        name = codes "gone";
        value_type = Some (unsigned_kind one);
        initial = None;
        strategy =
            Some strategy.Delete;
      } ∷ key (codes "keep") (unsigned_kind one) (2 ∷ 11 ∷ []) None
      ∷ key (codes "new") bool_kind (1 ∷ 1 ∷ []) None ∷ key (codes "over") (unsigned_kind one) (2 ∷ 12 ∷ [])
      (Some strategy.Overwrite) ∷ []) ∷ [];
}

abbrev pub plain_key : List ℕ → List ℕ → Fresh
plain_key name bytes = record { name = name; info = None; bytes = bytes }

-- what the plan of the second version gives where `keep` is u8:5, `over` is u8:6 and `conv` is u16:7
abbrev pub the_plan : InProgress
the_plan = record {
  manifest = [];
  deployment = second_version;
  contents = (plain_key (codes "conv") (4 ∷ 7 ∷ 0 ∷ 0 ∷ 0 ∷ []) ∷ plain_key (codes "keep") (2 ∷ 5 ∷ [])
      ∷ plain_key (codes "new") (1 ∷ 1 ∷ []) ∷ plain_key (codes "over") (2 ∷ 12 ∷ []) ∷ []) ∷ [];
  built = 0;
}

abbrev pub get : List ℕ → Event
get name = on (call.Get settings name)

abbrev pub set : List ℕ → Tree → Event
set name v = on (call.Set settings name v)

abbrev pub at_version_one : World
at_version_one = world_after (with_installed formatted 0 0 first_version)
    (on (call.OpenKvs settings) ∷ set (codes "keep") (unsigned_tree one 5) ∷ set (codes "over") (unsigned_tree one 6)
    ∷ set (codes "conv") (unsigned_tree two 7) ∷ on (call.Sync settings) ∷ on (call.Close settings) ∷ [])

abbrev pub at_version_two : World
at_version_two = (course the_plan at_version_one (on (call.Update []) ∷ [])).1

updated_at_once : replies at_version_two (on call.Status ∷ on (call.OpenKvs settings) ∷ on (call.Keys settings)
    ∷ get (codes "keep") ∷ get (codes "over") ∷ get (codes "conv") ∷ get (codes "new") ∷ [])
    ≡ codes
    "status version 2 previous 1\nok\nnames conv keep new over\nvalue u8:5\nvalue u8:12\nvalue u32:7\nvalue bool:true\n"
unfolding computed
updated_at_once = refl

update_refused : offered None [] (app_of at_version_two 0).disk ≡ Err (error.UpdateNotFinished 1)
unfolding computed
update_refused = refl

rolled_back : replies at_version_two (on (call.OpenKvs settings) ∷ on call.Rollback ∷ on (call.Close settings)
    ∷ on call.Rollback ∷ on call.Status ∷ on (call.OpenKvs settings) ∷ get (codes "over")
    ∷ get (codes "conv") ∷ on (call.Exists settings (codes "new")) ∷ on (call.Exists settings (codes "gone"))
    ∷ on (call.Close settings) ∷ on call.Finish ∷ [])
    ≡ codes
    "ok\nerror 9 ResourceBusy storage s\nok\nok\nstatus version 1\nok\nvalue u8:6\nvalue u16:7\nno\nyes\nok\nerror 23 NoPreviousVersion\n"
unfolding computed
rolled_back = refl

finished : replies at_version_two (on call.Finish ∷ on call.Status ∷ []) ≡ codes "ok\nstatus version 2\n"
unfolding computed
finished = refl

-- two applications: an update in steps, beside calls of the other one
abbrev pub two_applications : World
two_applications = world_after (with_installed (with_installed formatted 0 0 first_version) 1 0 favourites)
    (event.App 1 (call.OpenKvs fav) ∷ [])

update_in_steps : (course the_plan two_applications (on (call.UpdateBegin []) ∷ on (call.OpenKvs settings)
    ∷ event.App 1 (call.Set fav home (unsigned_tree two 9)) ∷ event.App 1 (call.Sync fav)
    ∷ on (call.UpdateBegin []) ∷ on call.UpdateNext ∷ on call.UpdateNext ∷ on call.Status ∷ on call.UpdateCommit
    ∷ on call.Status ∷ on call.UpdateCommit ∷ [])).0
    ≡ codes
    "ok\nerror 9 ResourceBusy update 2\nok\nok\nerror 9 ResourceBusy update 2\nnumber 0\nnumber 0\nstatus version 1\nok\nstatus version 2 previous 1\nerror 30 NoUpdateInProgress\n"
unfolding computed
update_in_steps = refl

update_given_up : (course the_plan two_applications (on (call.UpdateBegin []) ∷ on call.UpdateAbort
    ∷ on (call.OpenKvs settings) ∷ [])).0 ≡ codes "ok\nok\nok\n"
unfolding computed
update_given_up = refl

-- the end of a run forgets an update in progress
update_forgotten : replies (after_start (after_run (course the_plan two_applications
    (on (call.UpdateBegin []) ∷ on call.UpdateNext ∷ [])).1)) (on call.Status ∷ []) ≡ codes "status version 1\n"
unfolding computed
update_forgotten = refl

-- ---- a day: two applications, four storages

abbrev pub place_type : Kind
place_type = fields_kind (kind_then (signed_kind four) (kind_then (signed_kind four) (kind_then text_kind no_kinds)))

abbrev pub place : (lat lon : ℤ) → List ℕ → Tree
place lat lon label = fields_tree (tree_then (signed_tree four lat)
    (tree_then (signed_tree four lon) (tree_then (text_tree label) no_trees)))

abbrev pub navigation : DeploymentData
navigation = record {
  version = 7;
  storages = key_storage (codes "favourites") 65536 1 2
      (record {
        name = home;
        value_type = Some place_type;
        initial =
            Some (encoding (place (pos 0) (pos 0) []));
        strategy = None;
      } ∷ [])
      ∷ key_storage (codes "odometer") 256 2 3 (record {
        name = codes "metres";
        value_type =
            Some (unsigned_kind eight);
        initial = Some (encoding (unsigned_tree eight 0));
        strategy = None;
      } ∷ [])
      ∷ [];
}

abbrev pub driving : DeploymentData
driving = record {
  version = 3;
  storages = sealed_storage
      (file_storage (codes "calibration") 1048576 (a_file (codes "lidar.cal") (10 ∷ 11 ∷ 12 ∷ []) ∷ []))
      ∷ file_storage (codes "logs") 4194304 [] ∷ [];
}

abbrev pub morning : World
morning = with_installed (with_installed (record formatted { now = 1000 }) 0 1000 navigation) 1 1000 driving

abbrev pub log : List ℕ
log = codes "logs"

abbrev pub drive : List ℕ
drive = codes "drive.log"

abbrev pub lidar : List ℕ
lidar = codes "lidar.cal"

abbrev pub day : List Event
day = on (call.OpenKvs (codes "favourites")) ∷ on (call.OpenKvs (codes "odometer"))
    ∷ event.App 1 (call.OpenFiles (codes "calibration")) ∷ event.App 1 (call.OpenFiles log)
    ∷ on (call.Set (codes "odometer") (codes "metres") (unsigned_tree eight 51200))
    ∷ event.App 1 (call.Cat (codes "calibration") lidar)
    ∷ on (call.Set (codes "favourites") home (place (pos 481351) (pos 115820) (codes "Home, Munich")))
    ∷ event.App 1 (call.OpenFile log drive kind.Write (record { 0 = 8 }))
    ∷ event.App 1 (call.Write log 1 (codes "start\n")) ∷ event.Now 1060 ∷ on (call.Sync (codes "odometer"))
    ∷ event.App 1 (call.Write log 1 (codes "stop\n")) ∷ event.App 1 (call.Flush log 1)
    ∷ event.App 1 (call.Info log drive) ∷ event.App 1 (call.Info (codes "calibration") lidar)
    ∷ event.App 1 (call.Size log) ∷ on (call.Size (codes "odometer")) ∷ on (call.Discard (codes "favourites"))
    ∷ on (call.Get (codes "favourites") home) ∷ on (call.Get (codes "odometer") (codes "metres"))
    ∷ event.App 1 (call.CloseFile log 1) ∷ event.App 1 (call.Close log)
    ∷ event.App 1 (call.Put (codes "calibration") lidar (0 ∷ [])) ∷ []

a_day : replies morning day
    ≡ codes
    "ok\nok\nok\nok\nok\nbytes 0a0b0c\nok\nhandle 1\nok\nok\nok\nok\nok\ninfo 1000 1060 1000 application application\ninfo 1000 1000 1000 installation installation\nnumber 20\nnumber 15\nok\nvalue {i32:0,i32:0,text:\"\"}\nvalue u64:51200\nok\nok\nerror 3 IllegalWriteAccess\n"
unfolding computed
a_day = refl
