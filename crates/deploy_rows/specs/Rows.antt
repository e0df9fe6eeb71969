-- What a call makes of an application: the application after it, or the refusal.
use Rattle.std.specs.Prelude.{◌≡◌, ◌⊎◌, ℕ, ◌+◌, ◌-◌, List, [], ◌∷◌, ◌++◌, length, map, take, drop, nat_le, cond, Option}
use Rattle.std.specs.Prelude.{Some, None, Result, Ok, Err, ⊤, IsErrOf, nat_lt, suc}
use Rattle.per_base.specs.declared.elements.Cause.TheVariants as cause
use Rattle.per_base.specs.declared.elements.Fresh.{Fresh}
use Rattle.per_base.specs.declared.errors.PerError.{PerError}
use Rattle.per_base.specs.declared.errors.PerError.TheVariants as error
use Rattle.per_base.specs.declared.errors.Unit.TheVariants as unit
use Rattle.per_base.specs.declared.errors.Holder.TheVariants as holder
use Rattle.per_base.specs.declared.errors.Limit.TheVariants as limit
use Rattle.deployment_model.specs.Data.{DeploymentData, StorageData}
use Rattle.element_state.specs.States.{State, Opens, Corrupt, fresh_map, fresh_state, greatest_generation}
use Rattle.manifest.specs.Reading.{broken_rule, deployment_in}
use Rattle.migrate_fns.specs.Rules.{Rule}
use Rattle.migrate_fns.specs.Rules as fns
use Rattle.update_plan.specs.declared.contents.Stored.{Stored}
use Rattle.update_plan.specs.declared.contents.StorageContents.{StorageContents}
use Rattle.update_plan.specs.declared.contents.StorageContents.TheVariants.{Damaged, Present}
use Rattle.update_plan.specs.Plans.{PlansAll, stored_for}
use Rattle.update_plan.specs.Rows.{initial_contents}
use Rattle.deploy_laws.specs.Places.{Named}
use Rattle.deploy_laws.specs.Apps.{nothing, absent, installed, App}

-- one step after another: a refusal ends a row, and else the next step goes on with what the first one gave
infixl 10 ◌>>=◌
abbrev pub ◌>>=◌ : {A B E : Type 0} → Result A E → (A → Result B E) → Result B E
(Ok x) >>= f = f x
(Err e) >>= f = Err e

-- ---- refusals

-- this result, or the refusal that names the storage that is open, if one is
abbrev pub not_busy : {A : Type 0} → Option (List ℕ) → Result A PerError → Result A PerError
not_busy None x = x
not_busy (Some name) x = Err (error.ResourceBusy (holder.Storage name))

-- this result, or the refusal that no generation is left after this one
abbrev pub not_worn : {A : Type 0} → ℕ → Result A PerError → Result A PerError
not_worn g x = cond (nat_le greatest_generation g) (Err (error.LimitReached limit.Generations)) x

-- the deployment that a text says, or the refusal with the rule that it breaks; a text that says none breaks a rule, so
-- that 0 never comes
abbrev pub said_or_broken : Option DeploymentData → Option ℕ → Result DeploymentData PerError
said_or_broken (Some d) rule = Ok d
said_or_broken None None = Err (error.ManifestRejected 0)
said_or_broken None (Some rule) = Err (error.ManifestRejected rule)

-- the deployment that a manifest says, or `ManifestRejected` with the first rule that it violates
unfoldable pub deployment_of : List ℕ → Result DeploymentData PerError
deployment_of text = said_or_broken (deployment_in text) (broken_rule text)

-- ---- states of storages that are made

-- the state of each storage that is made with its contents: it opens, under generation 1
abbrev pub made_states : List (List Fresh) → List State
made_states contents = map (λ fs. fresh_state 1 (fresh_map fs)) contents

-- what each storage of a deployment is installed with at the moment now, in the order of the storages
abbrev pub initial_all : ℕ → DeploymentData → List (List Fresh)
initial_all now d = map (λ (s : StorageData). initial_contents s cause.Installation now) d.storages

-- ---- install

-- what an install makes at the moment now, where the root had this generation: the deployment in bank 0, each storage
-- with its initial contents
unfoldable pub installed_app : (generation now : ℕ) → DeploymentData → App
installed_app g now d = record {
  says = installed (g + 1) (record { bank = 0; deployment = d }) None;
  lacking = [];
  states = made_states (initial_all now d);
}

-- an install: the application with the version that the manifest describes in bank 0, or the refusal
unfoldable pub installing : (now : ℕ) → List ℕ → App → Result App PerError
installing now text a = elim a.says [
  | nothing ↦ Err (error.IntegrityCorrupted unit.Root)
  | absent g ↦ deployment_of text >>= (λ d. not_worn g (Ok (installed_app g now d)))
  | installed g active previous ↦ Err error.AlreadyInstalled
]

-- ---- finish, rollback and wipe

-- how many storages a version has
abbrev pub storage_count : Named → ℕ
storage_count v = length v.deployment.storages

-- the previous version is forgotten, and so are the states of its storages, which come after those of the active one
abbrev pub finish_with : App → ℕ → Named → Option Named → Result App PerError
finish_with a g active None = Err error.NoPreviousVersion
finish_with a g active (Some previous) = not_worn g (Ok (record {
  says = installed (g + 1) active None;
  lacking = [];
  states = take (storage_count active) a.states;
}))

-- a finish: the application without its previous version, or the refusal
unfoldable pub finishing : App → Result App PerError
finishing a = elim a.says [
  | nothing ↦ Err (error.IntegrityCorrupted unit.Root)
  | absent g ↦ Err error.NotInstalled
  | installed g active previous ↦ finish_with a g active previous
]

-- the previous version is active again, and the active one is forgotten with the states of its storages
abbrev pub rollback_with : (busy : Option (List ℕ)) → App → ℕ → Named → Option Named → Result App PerError
rollback_with busy a g active None = Err error.NoPreviousVersion
rollback_with busy a g active (Some previous) = not_busy busy (not_worn g (Ok (record {
  says = installed (g + 1) previous None;
  lacking = [];
  states = drop (storage_count active) a.states;
})))

-- a rollback: the application with its previous version active, or the refusal
unfoldable pub rolling_back : (busy : Option (List ℕ)) → App → Result App PerError
rolling_back busy a = elim a.says [
  | nothing ↦ Err (error.IntegrityCorrupted unit.Root)
  | absent g ↦ Err error.NotInstalled
  | installed g active previous ↦ rollback_with busy a g active previous
]

-- the application in which nothing is installed, under this generation
abbrev pub empty_app : ℕ → App
empty_app g = record { says = absent g; lacking = []; states = [] }

-- a wipe: the application without a version, also where its root is bad, or the refusal
unfoldable pub wiping : (busy : Option (List ℕ)) → App → Result App PerError
wiping busy a = not_busy busy (elim a.says [
  | nothing ↦ Ok (empty_app 1)
  | absent g ↦ not_worn g (Ok (empty_app (g + 1)))
  | installed g active previous ↦ not_worn g (Ok (empty_app (g + 1)))
])

-- ---- update

-- what is stored in a storage in this state: its elements, or damage where it does not open
abbrev pub contents_of : State → StorageContents
contents_of (Opens v others) = Present v.entries
contents_of (Corrupt salvage others) = Damaged

-- what is stored in the storages of a version; the states of further storages do not matter
abbrev pub contents_stored : List StorageData → List State → List Stored
contents_stored [] states = []
contents_stored (s ∷ ss) [] = []
contents_stored (s ∷ ss) (state ∷ states) = record { name = s.name; contents = contents_of state } ∷ contents_stored ss
    states

-- what an update starts from: the root's generation, the active version, and the manifest of the next one with the
-- deployment that it says
pub record Offer : Type 0 where
  pub generation : ℕ
  pub active : Named
  pub manifest : List ℕ
  pub deployment : DeploymentData

-- an update to the deployment that this manifest says, or the refusal of one whose version is not greater
abbrev pub newer_version : Named → ℕ → List ℕ → DeploymentData → Result Offer PerError
newer_version active g text d = cond (nat_le d.version active.deployment.version)
    (Err (error.VersionNotNewer active.deployment.version d.version))
    (Ok (record { generation = g; active = active; manifest = text; deployment = d }))

-- an update over an installed version, or its refusal beside a previous version or while a storage is open
abbrev pub offer_over : (busy : Option (List ℕ)) → List ℕ → ℕ → Named → Option Named → Result Offer PerError
offer_over busy text g active (Some previous) = Err (error.UpdateNotFinished previous.deployment.version)
offer_over busy text g active None = not_busy busy (deployment_of text >>= newer_version active g text)

-- what an update to this manifest starts from, or its refusal for a reason that comes before what storages hold
unfoldable pub offered : (busy : Option (List ℕ)) → List ℕ → App → Result Offer PerError
offered busy text a = elim a.says [
  | nothing ↦ Err (error.IntegrityCorrupted unit.Root)
  | absent g ↦ Err error.NotInstalled
  | installed g active previous ↦ offer_over busy text g active previous
]

-- an update in progress: the new manifest with the deployment that it says, the contents of its storages, and how many
-- of them are built
pub record InProgress : Type 0 where
  pub manifest : List ℕ
  pub deployment : DeploymentData
  pub contents : List (List Fresh)
  pub built : ℕ

-- one more storage is built, where one remains
abbrev pub one_more : InProgress → InProgress
one_more p = record p { built = cond (nat_lt p.built (length p.contents)) (suc p.built) p.built }

-- how an update begins with a plan, which is what each storage of the next version is to start with, or a refusal
abbrev pub begun : Offer → Result (List (List Fresh)) PerError → Result InProgress PerError
begun o plan = plan >>= (λ contents. not_worn o.generation
    (Ok (record { manifest = o.manifest; deployment = o.deployment; contents = contents; built = 0 })))

-- an update from this offer over storages in these states begins so: the offer's refusal, or one plan's contents
abbrev pub BeginsWith : List Rule → fns.Answers → (now : ℕ) → List State → Result Offer PerError
    → Result InProgress PerError → Type 0
BeginsWith rules answers now states (Err e) result = IsErrOf result e
BeginsWith rules answers now states (Ok o) result = (plan : Result (List (List Fresh)) PerError)
    × PlansAll rules answers now (stored_for o.active.deployment (contents_stored o.active.deployment.storages states))
    o.deployment.storages plan
    × (result ≡ begun o plan)

-- an update of this application to this manifest may begin so: the refusal, or the contents of one plan, of which there
-- are several where the converters may answer several values
abbrev pub BeginsUpdate : List Rule → fns.Answers → (now : ℕ) → (busy : Option (List ℕ)) → List ℕ → App
    → Result InProgress PerError → Type 0
BeginsUpdate rules answers now busy text a result = BeginsWith rules answers now a.states (offered busy text a) result

-- the application once an update in progress is committed: the new version in the other bank, and the old one after it
-- as it was
unfoldable pub updated_app : InProgress → App → App
updated_app p a = elim a.says [
  | nothing ↦ a
  | absent g ↦ a
  | installed g active previous ↦ record {
    says = installed (g + 1) (record { bank = 1 - active.bank; deployment = p.deployment }) (Some active);
    lacking = [];
    states = made_states p.contents ++ take (storage_count active) a.states;
  }
]

-- an update in one call: the application once it is committed, or the refusal
abbrev pub updated_row : App → Result InProgress PerError → Result App PerError
updated_row a (Ok p) = Ok (updated_app p a)
updated_row a (Err e) = Err e

-- ---- answers

-- a call answered a refusal exactly where its row has one, and that one: the row is what the call makes of an
-- application or a storage, or why it is refused
abbrev pub AnswersRow : {A : Type 0} → Option PerError → Result A PerError → Type 0
AnswersRow None (Ok x) = ⊤
AnswersRow None (Err e) = ⊥
AnswersRow (Some e) (Ok x) = ⊥
AnswersRow (Some e) (Err f) = f ≡ e

-- the application after a call: that of the row, or the same where it is refused
abbrev pub after : App → Result App PerError → App
after a (Ok b) = b
after a (Err e) = a

-- ---- what a call may lead to

-- after an opening no copy lacks the root
abbrev pub reopened : App → App
reopened a = record a { lacking = [] }

-- the next application is the same as before, or one to which a row of the update leads
abbrev pub UpdateMayLead : List Rule → fns.Answers → (now : ℕ) → (busy : Option (List ℕ)) → List ℕ
    → (before after : App)
    → Type 0
UpdateMayLead rules answers now busy manifest before next = (next ≡ before)
    ⊎ ((row : Result InProgress PerError) × BeginsUpdate rules answers now busy manifest before row
    × (next ≡ after before (updated_row before row)))
