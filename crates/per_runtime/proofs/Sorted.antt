-- What holds of a call by what answers it.
use Rattle.std.proofs.Common.{◌≡◌, ◌∙◌, ℕ, List, Bool, true, false, IsTrue, Option, Some, is_none, is_some, ap, refl, sym}
use Rattle.std.specs.Prelude.{◌||◌}
use Rattle.per_base.specs.declared.elements.StoreKind.{StoreKind}
use Rattle.per_base.specs.declared.elements.StoreKind.TheVariants.{Keys, Files}
use Rattle.command_text.specs.declared.calls.Call.{Call}
use Rattle.command_text.specs.declared.calls.Call.TheVariants as call
use Rattle.deploy_laws.specs.Apps.{App}
use Rattle.run_model.specs.Calls.{goes_beside, local_on}
use Rattle.run_model.specs.Steps.{calls_device, device_storage, uses_device}
use Rattle.run_model.specs.Worlds.{Application, is_to_open}
use Rattle.per_runtime.specs.Sorting.{storing_call}
use Rattle.per_runtime.specs.declared.local_call.LocalCall.{LocalCall}
use Rattle.per_runtime.specs.declared.sorting.Storing.{Storing}
use Rattle.per_runtime.specs.declared.sorting.Storing.TheVariants.{Open, Close, Recover, Reset, Sync, Flush, Local}
use Rattle.per_runtime.specs.storages.Answers.{is_on_storage}

abbrev On : Type 0
On = List ℕ × Option StoreKind

-- ---- a call on an open storage that touches no disk

local_alone : (c : Call) (on : On) → local_on c ≡ Some on → goes_beside c ≡ false
local_alone call.Status on is = absurd cc
local_alone (call.Install text) on is = absurd cc
local_alone call.UpdateNext on is = absurd cc
local_alone call.UpdateCommit on is = absurd cc
local_alone call.UpdateAbort on is = absurd cc
local_alone other on is = refl

local_uses : (a : App) (c : Call) (on : On) → local_on c ≡ Some on → uses_device a c ≡ false
local_uses a call.Status on is = absurd cc
local_uses a call.UpdateAbort on is = absurd cc
local_uses a (call.Close n) on is = absurd cc
local_uses a other on is = ap is_none is

-- ---- one that names a storage

pub storing_on : (s : Storing) → IsTrue (is_on_storage (storing_call s))
storing_on (Open name Keys) = refl
storing_on (Open name Files) = refl
storing_on (Close name) = refl
storing_on (Recover name) = refl
storing_on (Reset name) = refl
storing_on (Sync name) = refl
storing_on (Flush name handle) = refl
storing_on (Local l) = ap (λ (o : Option On). is_some o || is_some (device_storage l.call.now)) l.on

pub storing_alone : (s : Storing) → goes_beside (storing_call s) ≡ false
storing_alone (Open name Keys) = refl
storing_alone (Open name Files) = refl
storing_alone (Close name) = refl
storing_alone (Recover name) = refl
storing_alone (Reset name) = refl
storing_alone (Sync name) = refl
storing_alone (Flush name handle) = refl
storing_alone (Local l) = local_alone l.call.now (l.name.now, l.kind) l.on

-- ---- which call the device

-- where the root is not to be opened first
pub calls_if_uses : (r : Application) (c : Call) (uses : Bool) → false ≡ is_to_open r.stage
    → uses ≡ uses_device r.disk c → uses ≡ calls_device r c
calls_if_uses r c uses opened is = is ∙ ap (λ (first : Bool). first || uses_device r.disk c) opened

pub storing_local : (a : App) (l : LocalCall) → false ≡ uses_device a (storing_call (Local l))
storing_local a l = sym (local_uses a l.call.now (l.name.now, l.kind) l.on)

pub storing_uses : (a : App) (s : Storing) → ((l : LocalCall) → s ≡ Local l → ⊥)
    → ((name : _) → s ≡ Close name → ⊥) → true ≡ uses_device a (storing_call s)
storing_uses a (Open name Keys) not_local not_close = refl
storing_uses a (Open name Files) not_local not_close = refl
storing_uses a (Close name) not_local not_close = absurd (not_close name refl)
storing_uses a (Recover name) not_local not_close = refl
storing_uses a (Reset name) not_local not_close = refl
storing_uses a (Sync name) not_local not_close = refl
storing_uses a (Flush name handle) not_local not_close = refl
storing_uses a (Local l) not_local not_close = absurd (not_local l refl)
