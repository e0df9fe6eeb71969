-- What no call of a deployment makes of an application, beside the row that excludes it: one statement for each
-- mistake. `g` and `h` are generations, `p` is an update in progress, `o` what an update is offered, and `s ∷ ss` are
-- the storages of the next version; `busy` is the name of a storage that is open, if one is.
use Rattle.std.specs.Prelude.{◌≡◌, ℕ, ◌≤◌, List, [], ◌∷◌, Option, Some, None, Result, Ok, Err}
use Rattle.per_base.specs.declared.elements.Content.TheVariants.{Good}
use Rattle.per_base.specs.declared.elements.Entry.{Entry}
use Rattle.per_base.specs.declared.elements.Fresh.{Fresh}
use Rattle.per_base.specs.declared.errors.PerError.{PerError}
use Rattle.per_base.specs.declared.errors.PerError.TheVariants as error
use Rattle.per_base.specs.declared.errors.Limit.TheVariants as limit
use Rattle.disk_model.specs.Image.{Image}
use Rattle.value_model.specs.Encoding.{encoding}
use Rattle.value_model.specs.Trees.{Tree}
use Rattle.value_code.specs.Reading.{decoded}
use Rattle.deployment_model.specs.Data.{StorageData}
use Rattle.deployment_model.specs.Lookups.{initial_content}
use Rattle.per_base.specs.declared.elements.StoreKind.TheVariants.{Keys}
use Rattle.element_state.specs.declared.shapes.View.{View}
use Rattle.element_state.specs.States.{State, Opens, fresh_map, fresh_state}
use Rattle.update_plan.specs.declared.contents.StorageContents.TheVariants.{Damaged}
use Rattle.update_plan.specs.Fates.{Renews, converted}
use Rattle.update_plan.specs.Plans.{stored_for}
use Rattle.migrate_fns.specs.Rules.{ConvertsTo, Rule}
use Rattle.migrate_fns.specs.Rules as fns
use Rattle.deploy_laws.specs.Apps.{App, nothing, absent, installed, app_at, AreInTwoBanks}
use Rattle.deploy_laws.specs.Places.{Named}
use Rattle.deploy_rows.specs.Recovering.{recovering}
use Rattle.deploy_rows.specs.Rows.{InProgress, Offer, BeginsWith, after, finishing, reopened, rolling_back}
use Rattle.deploy_rows.specs.Rows.{contents_stored}
use Rattle.deploy_rows.specs.Rows.{updated_app, wiping}

-- an opening formats a bad root
abbrev pub BadRootFormatted : Type 0
BadRootFormatted = (app generation : ℕ) (old new : Image) → app_at new app ≡ reopened (app_at old app)
    → (app_at old app).says ≡ nothing → ¬ ((app_at new app).says ≡ absent generation)

-- a finish keeps the previous version
abbrev pub PreviousKept : Type 0
PreviousKept = (app h : ℕ) (old new : Image) (done : App) (active previous : Named)
    → app_at new app ≡ after (app_at old app) (finishing (app_at old app)) → finishing (app_at old app) ≡ Ok done
    → ¬ ((app_at new app).says ≡ installed h active (Some previous))

-- a rollback keeps the new contents, under the old version
abbrev pub NewContentsKept : Type 0
NewContentsKept = (app g h : ℕ) (busy : Option (List ℕ)) (old new : Image) (active previous : Named)
    → app_at new app ≡ after (app_at old app) (rolling_back busy (app_at old app))
    → (app_at old app).says ≡ installed g active (Some previous) → AreInTwoBanks active previous
    → ¬ ((app_at new app).says ≡ installed h (record { bank = active.bank; deployment = previous.deployment }) None)

-- a wipe leaves a copy of the root that lacks it
abbrev pub CopyLeft : Type 0
CopyLeft = (app copy : ℕ) (rest : List ℕ) (busy : Option (List ℕ)) (old new : Image) (done : App)
    → app_at new app ≡ after (app_at old app) (wiping busy (app_at old app)) → wiping busy (app_at old app) ≡ Ok done
    → ¬ ((app_at new app).lacking ≡ copy ∷ rest)

-- an update goes into the bank of the active version
abbrev pub ActiveBankTaken : Type 0
ActiveBankTaken = (app g h : ℕ) (p : InProgress) (old new : Image) (active next : Named) (previous : Option Named)
    → app_at new app ≡ updated_app p (app_at old app) → (app_at old app).says ≡ installed g active None
    → active.bank ≤ 1 → next.bank ≡ active.bank → ¬ ((app_at new app).says ≡ installed h next previous)

-- what an update begins from is not what the storages of the active version hold: one of them is damaged, and the
-- update begins
abbrev pub OtherBankRead : List Rule → fns.Answers → Type 0
OtherBankRead rules answers = (now : ℕ) (states : List State) (o : Offer)
    (s : StorageData) (ss : List StorageData) (p : InProgress) (result : Result InProgress PerError)
    → BeginsWith rules answers now states (Ok o) result → o.deployment.storages ≡ s ∷ ss
    → stored_for o.active.deployment (contents_stored o.active.deployment.storages states) s ≡ Damaged
    → ¬ (result ≡ Ok p)

-- that no generation is left is judged before the plan, which is refused
abbrev pub GenerationsFirst : List Rule → fns.Answers → Type 0
GenerationsFirst rules answers = (now : ℕ) (states : List State) (o : Offer)
    (s : StorageData) (ss : List StorageData) (result : Result InProgress PerError)
    → BeginsWith rules answers now states (Ok o) result → o.deployment.storages ≡ s ∷ ss
    → stored_for o.active.deployment (contents_stored o.active.deployment.storages states) s ≡ Damaged
    → ¬ (result ≡ Err (error.LimitReached limit.Generations))

-- a key gets another value, as its initial one, where a chain of converters is due: its bytes are none that they may
-- give
abbrev pub InitialWhereConverted : fns.Answers → Type 0
InitialWhereConverted answers = (name : List ℕ) (value : Tree) (places : List ℕ) (given : Fresh)
    → Renews answers name (converted value places) (Ok (Some given))
    → ¬ ((w : Tree) → ConvertsTo answers places value w → ¬ (given.bytes ≡ encoding w))

-- a key whose bytes encode no value, and that starts with nothing, is there after a recovery
abbrev pub UnreadableKept : Type 0
UnreadableKept = (s : StorageData) (now generation : ℕ) (view : View) (e : Entry) (bytes : List ℕ) (others : List View)
    (kept : Fresh) (next : State) → s.kind ≡ Keys → view.entries ≡ e ∷ [] → e.content ≡ Good bytes
    → decoded bytes ≡ None → initial_content s e.name ≡ None → recovering s now (Opens view others) ≡ Ok next
    → ¬ (next ≡ fresh_state generation (fresh_map (kept ∷ [])))
