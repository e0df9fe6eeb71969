-- How many bytes each call writes at most.
use Rattle.std.specs.Prelude.{ℕ, zero, suc, ◌+◌, ◌*◌, List, ◌∷◌, [], drop, take, cond, Option, Some, None, Result, Ok}
use Rattle.std.specs.Prelude.{Err}
use Rattle.per_base.specs.declared.elements.Cause.TheVariants as cause
use Rattle.per_base.specs.declared.errors.PerError.{PerError}
use Rattle.disk_model.specs.Image.{Image}
use Rattle.element_state.specs.Chosen.{opened_of}
use Rattle.element_state.specs.States.{State, Opens, Corrupt, salvage_of}
use Rattle.element_state.specs.Written.{map_cost}
use Rattle.element_maps.specs.Sessions.{same_map, view_once_synced}
use Rattle.element_store.specs.Committing.{index_length}
use Rattle.element_store.specs.Mends.{mending_cost}
use Rattle.element_store.specs.Rebuilds.{rebuilding_cost}
use Rattle.update_plan.specs.Rows.{initial_contents}
use Rattle.command_text.specs.declared.calls.Call.{Call}
use Rattle.command_text.specs.declared.calls.Call.TheVariants as call
use Rattle.deploy_laws.specs.Apps.{Says, nothing, absent, installed}
use Rattle.deploy_rows.specs.Costs.{format_cost, install_cost, making_costs, manifests_at, root_cost}
use Rattle.deploy_rows.specs.Recovering.{recovered_contents}
use Rattle.deploy_rows.specs.Rows.{InProgress}
use Rattle.run_model.specs.Calls.{session_at}
use Rattle.run_model.specs.Found.{FoundStorage, shape_in}
use Rattle.run_model.specs.Sessions.{Session, keys, files, seen_of, synced_in_session}
use Rattle.run_model.specs.Steps.{found_named}
use Rattle.run_model.specs.Worlds.{Application, Stage, is_to_open, update_in}

-- ---- roots

-- what the opening of a root costs before a call, where it is to be opened: it is written once, with the manifests that
-- it keeps
abbrev pub opening_cost : (kept : List (List ℕ)) → Stage → ℕ
opening_cost kept stage = cond (is_to_open stage) (root_cost kept) 0

-- what the opening of the roots costs that an image has of so many applications
abbrev pub roots_cost : Image → (count : ℕ) → ℕ
roots_cost image zero = 0
roots_cost image (suc app) = roots_cost image app + root_cost (manifests_at image app)

-- what a wipe costs: a root with no manifest, and where there is none that counts its formatting
abbrev pub wipe_cost : Says → ℕ
wipe_cost nothing = format_cost
wipe_cost (absent g) = root_cost []
wipe_cost (installed g active previous) = root_cost []

-- ---- updates

-- what an update to this manifest costs that begins so, over a root that keeps these manifests: its storages, and then
-- the root, which keeps the manifest before them
abbrev pub update_cost : (kept : List (List ℕ)) → (manifest : List ℕ) → InProgress → ℕ
update_cost kept manifest p = making_costs p.deployment.storages p.contents + root_cost (manifest ∷ kept)

-- what the next storage of an update in progress costs, and nothing where none is in progress
abbrev pub next_cost : Option InProgress → ℕ
next_cost None = 0
next_cost (Some p) = making_costs (take 1 (drop p.built p.deployment.storages)) (drop p.built p.contents)

-- what its commit costs: all storages that are not made yet, and then the root
abbrev pub finishing_cost : (kept : List (List ℕ)) → Option InProgress → ℕ
finishing_cost kept None = 0
finishing_cost kept (Some p) = making_costs (drop p.built p.deployment.storages) (drop p.built p.contents)
    + root_cost (p.manifest ∷ kept)

-- ---- storages

-- what making a session durable costs where both maps differ: in each copy the contents that are new or differ, the
-- next index with its head of 44 bytes, and 44 bytes that blank the old one
abbrev pub differing_cost : (app : ℕ) → FoundStorage → Session → State → ℕ
differing_cost app f s (Opens v others) = (shape_in app f).place.copies
    * (map_cost f.config.kind (synced_in_session s) (seen_of s)
    + index_length f.config.kind (view_once_synced (shape_in app f) v (synced_in_session s) (seen_of s)).entries + 88)
-- no open storage is corrupt
differing_cost app f s (Corrupt salvage others) = 0

-- and nothing where they are the same, or none is open
abbrev pub session_cost : (app : ℕ) → FoundStorage → Option Session → ℕ
session_cost app f None = 0
session_cost app f (Some s) = cond (same_map (synced_in_session s) (seen_of s)) 0 (differing_cost app f s f.state)

-- a close drops what is pending of keys, and makes working files durable
abbrev pub closing_cost : (app : ℕ) → FoundStorage → Option Session → ℕ
closing_cost app f None = 0
closing_cost app f (Some (keys s)) = 0
closing_cost app f (Some (files s)) = session_cost app f (Some (files s))

-- What a call costs at the moment `now` that names a storage, whose session is this where it is open: what an opening
-- mends, what a recovery and a reset make anew, and what differs of an open one. All other calls write nothing.
abbrev pub storage_cost : (app now : ℕ) → FoundStorage → Option Session → Call → ℕ
storage_cost app now f s (call.OpenKvs n) = mending_cost f.config.n (opened_of f.state)
storage_cost app now f s (call.OpenFiles n) = mending_cost f.config.n (opened_of f.state)
storage_cost app now f s (call.RecoverStorage n) =
    rebuilding_cost f.config.n (recovered_contents f.config now (salvage_of f.state))
storage_cost app now f s (call.ResetStorage n) =
    rebuilding_cost f.config.n (initial_contents f.config cause.Reset now)
storage_cost app now f s (call.Sync n) = session_cost app f s
storage_cost app now f s (call.Flush n h) = session_cost app f s
storage_cost app now f s (call.Close n) = closing_cost app f s
storage_cost app now f s other = 0

-- the same of the storage that it names; where it names none that calls the device, or one that is not found, nothing
abbrev pub named_cost : (app now : ℕ) → Application → Call → Option (Result FoundStorage PerError) → ℕ
named_cost app now r c None = 0
named_cost app now r c (Some (Err e)) = 0
named_cost app now r c (Some (Ok f)) = storage_cost app now f (session_at r f.number) c

-- ---- calls

-- What a call costs at most at the moment `now`, of an application whose root is open and keeps these manifests: the
-- storages that it makes, and a root, once; or what it writes into the storage that it names. An update is not among
-- them (`CostsUpdate`), since its contents rest on what converters answer.
abbrev pub call_cost : (app now : ℕ) → (kept : List (List ℕ)) → Application → Call → ℕ
call_cost app now kept r (call.Install manifest) = install_cost now manifest
call_cost app now kept r call.UpdateNext = next_cost (update_in r.stage)
call_cost app now kept r call.UpdateCommit = finishing_cost kept (update_in r.stage)
call_cost app now kept r call.Finish = root_cost (take 1 kept)
call_cost app now kept r call.Rollback = root_cost (drop 1 kept)
call_cost app now kept r call.Wipe = wipe_cost r.disk.says
call_cost app now kept r other = named_cost app now r other (found_named r other)
