-- What the rows refuse has a text, and is no failure of the device.
use Rattle.std.proofs.Common.{◌≢◌, ℕ, List, [], ◌∷◌, length, Bool, true, false, cond, nat_le, nat_lt, Option}
use Rattle.std.proofs.Common.{Some, None, IfErr, IfSome, Result, Ok, Err, refl, sym, subst, filter_map, sum_by}
use Rattle.std.specs.List.{cons_option}
use Rattle.per_base.specs.declared.elements.Content.{Content}
use Rattle.per_base.specs.declared.elements.Content.TheVariants.{Bad, Good}
use Rattle.per_base.specs.declared.elements.Entry.{Entry}
use Rattle.per_base.specs.declared.elements.FileInfo.{FileInfo}
use Rattle.per_base.specs.declared.elements.Fresh.{Fresh}
use Rattle.per_base.specs.declared.elements.StoreKind.{StoreKind}
use Rattle.per_base.specs.declared.elements.StoreKind.TheVariants as kinds
use Rattle.per_base.specs.declared.errors.Limit.TheVariants as limit
use Rattle.per_base.specs.declared.errors.PerError.{PerError}
use Rattle.per_base.specs.declared.errors.PerError.TheVariants as error
use Rattle.per_base.specs.declared.errors.Unit.TheVariants as unit
use Rattle.index_text.specs.Contents.{fresh_size}
use Rattle.value_model.specs.Kinds.{Kind, same_kind}
use Rattle.value_model.specs.Trees.{Tree, type_of}
use Rattle.value_code.specs.Reading.{decoded}
use Rattle.deployment_model.specs.Data.{DeploymentData, ElementData, StorageData}
use Rattle.deployment_model.specs.Lookups.{element_named}
use Rattle.element_state.specs.States.{State, greatest_generation}
use Rattle.manifest.specs.Reading.{broken_rule, deployment_in}
use Rattle.migrate_fns.specs.Chains.{chain_of}
use Rattle.migrate_fns.specs.Rules.{Rule}
use Rattle.migrate_fns.specs.Rules as fns
use Rattle.update_plan.specs.declared.contents.StorageContents.{StorageContents}
use Rattle.update_plan.specs.declared.contents.StorageContents.TheVariants.{Damaged, Missing, Present}
use Rattle.update_plan.specs.Fates.{gets, by_chain, by_row, of_bytes, of_content, of_type, of_value, refusal}
use Rattle.update_plan.specs.Fates.{strategy_of, initial_configured, type_configured}
use Rattle.update_plan.specs.Plans.{Continues, PlansAll, PlansFor, PlansOver, entry_refusal, first_or_none}
use Rattle.update_plan.specs.Plans.{first_refusal}
use Rattle.update_plan.specs.Plans.{stored_for, with_first, within_limits}
use Rattle.update_plan.specs.Rows as update_rows
use Rattle.update_plan.specs.Rows.{Row, row_by}
use Rattle.command_text.specs.declared.replies.Answer.TheVariants as answer
use Rattle.command_text.specs.Replies.{HasText}
use Rattle.deploy_laws.specs.Apps.{App, Says, absent, installed, nothing}
use Rattle.deploy_laws.specs.Places.{Named}
use Rattle.deploy_rows.specs.Rows.{◌>>=◌, BeginsUpdate, BeginsWith, InProgress, Offer, begun, deployment_of}
use Rattle.deploy_rows.specs.Rows.{finish_with, finishing, installing, newer_version, not_busy, not_worn, offer_over}
use Rattle.deploy_rows.specs.Rows.{offered}
use Rattle.deploy_rows.specs.Rows.{contents_stored, rollback_with, rolling_back, said_or_broken, wiping}

pub record IsPlain (e : PerError) : Type 0 where
  pub sound : answer.Error e ≢ answer.Error error.PhysicalStorageFailure
  pub text : HasText (answer.Error e)

chain : {A B : Type 0} → (row : Result A PerError) (f : A → Result B PerError) → IfErr row IsPlain
    → ((x : A) → IfErr (f x) IsPlain) → IfErr (row >>= f) IsPlain
chain (Ok x) f is each = each x
chain (Err e) f is each = is

damaged_root : IsPlain (error.IntegrityCorrupted unit.Root)
damaged_root = record { sound = λ e. cc; text = refl }

not_installed : IsPlain error.NotInstalled
not_installed = record { sound = λ e. cc; text = refl }

no_generation : IsPlain (error.LimitReached limit.Generations)
no_generation = record { sound = λ e. cc; text = refl }

abbrev worn_or : {A : Type 0} → Bool → Result A PerError → Result A PerError
worn_or test x = cond test (Err (error.LimitReached limit.Generations)) x

worn_plain : {A : Type 0} → (g : ℕ) (x : Result A PerError) → IfErr x IsPlain → IfErr (not_worn g x) IsPlain
worn_plain {A} g x is = by (nat_le greatest_generation g)
  where
    by : (test : Bool) → IfErr (worn_or test x) IsPlain
    by true = no_generation
    by false = is

busy_plain : {A : Type 0} → (busy : Option (List ℕ)) (x : Result A PerError) → IfErr x IsPlain
    → IfErr (not_busy busy x) IsPlain
busy_plain None x is = is
busy_plain (Some name) x is = record { sound = λ e. cc; text = refl }

broken_plain : (d : Option DeploymentData) (rule : Option ℕ) → IfErr (said_or_broken d rule) IsPlain
broken_plain (Some d) rule = tt
broken_plain None None = record { sound = λ e. cc; text = refl }
broken_plain None (Some rule) = record { sound = λ e. cc; text = refl }

manifest_plain : (text : List ℕ) → IfErr (deployment_of text) IsPlain
unfolding deployment_of
manifest_plain text = broken_plain (deployment_in text) (broken_rule text)

-- ---- the rows

install_plain_by : (now : ℕ) (text : List ℕ) (says : Says) (lacking : List ℕ) (states : List State)
    → IfErr (installing now text (record { says = says; lacking = lacking; states = states })) IsPlain
unfolding installing
install_plain_by now text nothing lacking states = damaged_root
install_plain_by now text (absent g) lacking states = chain (deployment_of text) _ (manifest_plain text)
    (λ d. worn_plain g _ tt)
install_plain_by now text (installed g active previous) lacking states = record { sound = λ e. cc; text = refl }

pub install_plain : (now : ℕ) (text : List ℕ) (a : App) → IfErr (installing now text a) IsPlain
install_plain now text a = install_plain_by now text a.says a.lacking a.states

finish_with_plain : (a : App) (g : ℕ) (active : Named) (previous : Option Named)
    → IfErr (finish_with a g active previous) IsPlain
finish_with_plain a g active None = record { sound = λ e. cc; text = refl }
finish_with_plain a g active (Some previous) = worn_plain g _ tt

finish_plain_by : (says : Says) (lacking : List ℕ) (states : List State)
    → IfErr (finishing (record { says = says; lacking = lacking; states = states })) IsPlain
unfolding finishing
finish_plain_by nothing lacking states = damaged_root
finish_plain_by (absent g) lacking states = not_installed
finish_plain_by (installed g active previous) lacking states =
    finish_with_plain (record { says = installed g active previous; lacking = lacking; states = states }) g active
    previous

pub finish_plain : (a : App) → IfErr (finishing a) IsPlain
finish_plain a = finish_plain_by a.says a.lacking a.states

rollback_with_plain : (busy : Option (List ℕ)) (a : App) (g : ℕ) (active : Named) (previous : Option Named)
    → IfErr (rollback_with busy a g active previous) IsPlain
rollback_with_plain busy a g active None = record { sound = λ e. cc; text = refl }
rollback_with_plain busy a g active (Some previous) = busy_plain busy _ (worn_plain g _ tt)

rollback_plain_by : (busy : Option (List ℕ)) (says : Says) (lacking : List ℕ) (states : List State)
    → IfErr (rolling_back busy (record { says = says; lacking = lacking; states = states })) IsPlain
unfolding rolling_back
rollback_plain_by busy nothing lacking states = damaged_root
rollback_plain_by busy (absent g) lacking states = not_installed
rollback_plain_by busy (installed g active previous) lacking states =
    rollback_with_plain busy (record { says = installed g active previous; lacking = lacking; states = states }) g
    active previous

pub rollback_plain : (busy : Option (List ℕ)) (a : App) → IfErr (rolling_back busy a) IsPlain
rollback_plain busy a = rollback_plain_by busy a.says a.lacking a.states

wipe_plain_by : (busy : Option (List ℕ)) (says : Says) (lacking : List ℕ) (states : List State)
    → IfErr (wiping busy (record { says = says; lacking = lacking; states = states })) IsPlain
unfolding wiping
wipe_plain_by busy nothing lacking states = busy_plain busy _ tt
wipe_plain_by busy (absent g) lacking states = busy_plain busy _ (worn_plain g _ tt)
wipe_plain_by busy (installed g active previous) lacking states = busy_plain busy _ (worn_plain g _ tt)

pub wipe_plain : (busy : Option (List ℕ)) (a : App) → IfErr (wiping busy a) IsPlain
wipe_plain busy a = wipe_plain_by busy a.says a.lacking a.states

abbrev newer_by : Named → ℕ → List ℕ → DeploymentData → Bool → Result Offer PerError
newer_by active g text d test = cond test (Err (error.VersionNotNewer active.deployment.version d.version))
    (Ok (record { generation = g; active = active; manifest = text; deployment = d }))

newer_plain : (active : Named) (g : ℕ) (text : List ℕ) (d : DeploymentData)
    → IfErr (newer_version active g text d) IsPlain
newer_plain active g text d = by (nat_le d.version active.deployment.version)
  where
    by : (test : Bool) → IfErr (newer_by active g text d test) IsPlain
    by true = record { sound = λ e. cc; text = refl }
    by false = tt

offer_over_plain : (busy : Option (List ℕ)) (text : List ℕ) (g : ℕ) (active : Named) (previous : Option Named)
    → IfErr (offer_over busy text g active previous) IsPlain
offer_over_plain busy text g active (Some previous) = record { sound = λ e. cc; text = refl }
offer_over_plain busy text g active None = busy_plain busy _
    (chain (deployment_of text) (newer_version active g text) (manifest_plain text) (λ d. newer_plain active g text d))

offer_plain_by : (busy : Option (List ℕ)) (text : List ℕ) (says : Says) (lacking : List ℕ) (states : List State)
    → IfErr (offered busy text (record { says = says; lacking = lacking; states = states })) IsPlain
unfolding offered
offer_plain_by busy text nothing lacking states = damaged_root
offer_plain_by busy text (absent g) lacking states = not_installed
offer_plain_by busy text (installed g active previous) lacking states = offer_over_plain busy text g active previous

pub offer_plain : (busy : Option (List ℕ)) (text : List ℕ) (a : App) → IfErr (offered busy text a) IsPlain
offer_plain busy text a = offer_plain_by busy text a.says a.lacking a.states

-- ---- plans

chain_plain : (v : Tree) (to : Kind) (places : Option (List ℕ)) → IfSome (refusal (by_chain v to places)) IsPlain
chain_plain v to None = record { sound = λ e. cc; text = refl }
chain_plain v to (Some places) = tt

type_plain : (rules : List Rule) (same : Fresh) (v : Tree) (to : Option Kind)
    → IfSome (refusal (of_type rules same v to)) IsPlain
type_plain rules same v None = tt
type_plain rules same v (Some to) = by (same_kind (type_of v) to)
  where
    by : (test : Bool) → IfSome (refusal (cond test (gets same)
        (by_chain v to (chain_of rules same.name (type_of v) to)))) IsPlain
    by true = tt
    by false = chain_plain v to (chain_of rules same.name (type_of v) to)

value_plain : (rules : List Rule) (storage : List ℕ) (same : Fresh) (to : Option Kind) (v : Option Tree)
    → IfSome (refusal (of_value rules storage same to v)) IsPlain
value_plain rules storage same to None = record { sound = λ e. cc; text = refl }
value_plain rules storage same to (Some v) = type_plain rules same v to

bytes_plain : (rules : List Rule) (kind : StoreKind) (storage : List ℕ) (same : Fresh) (to : Option Kind)
    → IfSome (refusal (of_bytes rules kind storage same to)) IsPlain
bytes_plain rules kinds.Keys storage same to = value_plain rules storage same to (decoded same.bytes)
bytes_plain rules kinds.Files storage same to = tt

content_plain : (rules : List Rule) (kind : StoreKind) (storage name : List ℕ) (info : Option FileInfo)
    (to : Option Kind) (content : Content)
    → IfSome (refusal (of_content rules kind storage name info to content)) IsPlain
content_plain rules kind storage name info to (Good bytes) =
    bytes_plain rules kind storage (record { name = name; info = info; bytes = bytes }) to
content_plain rules kind storage name info to (Bad salvage) = record { sound = λ e. cc; text = refl }

row_plain : (rules : List Rule) (now : ℕ) (s : StorageData) (name : List ℕ) (configured : Option ElementData)
    (stored : Option Entry) (row : Row)
    → IfSome (refusal (by_row rules now s name configured stored row)) IsPlain
row_plain rules now s name configured stored update_rows.nothing = tt
row_plain rules now s name configured stored (update_rows.initial bytes) = tt
row_plain rules now s name configured stored (update_rows.kept e) =
    content_plain rules s.kind s.name name e.info (type_configured configured) e.content

entry_plain : (rules : List Rule) (now : ℕ) (s : StorageData) (e : Entry) → IfSome (entry_refusal rules now s e) IsPlain
entry_plain rules now s e = row_plain rules now s e.name (element_named s e.name) (Some e)
    (row_by (strategy_of (element_named s e.name)) s.strategy (initial_configured (element_named s e.name)) (Some e))

first_by : (refused : Option PerError) (others : List PerError) → IfSome refused IsPlain
    → IfSome (first_or_none others) IsPlain → IfSome (first_or_none (cons_option refused others)) IsPlain
first_by None others is then = then
first_by (Some r) others is then = is

first_some : (rules : List Rule) (now : ℕ) (s : StorageData) (old : List Entry)
    → IfSome (first_refusal rules now s old) IsPlain
first_some rules now s [] = tt
first_some rules now s (e ∷ old) = first_by (entry_refusal rules now s e) (filter_map (entry_refusal rules now s) old)
    (entry_plain rules now s e) (first_some rules now s old)

abbrev limited : ℕ → List Fresh → (many large : Bool) → Result (List Fresh) PerError
limited maximum new many large = cond many (Err (error.LimitReached limit.Elements))
    (cond large (Err (error.OutOfStorageSpace (sum_by fresh_size new) maximum)) (Ok new))

limits_plain : (maximum : ℕ) (new : List Fresh) → IfErr (within_limits maximum new) IsPlain
limits_plain maximum new = by (nat_lt 1024 (length new)) (nat_lt maximum (sum_by fresh_size new))
  where
    by : (many large : Bool) → IfErr (limited maximum new many large) IsPlain
    by true large = record { sound = λ e. cc; text = refl }
    by false true = record { sound = λ e. cc; text = refl }
    by false false = tt

over_plain : (rules : List Rule) (answers : fns.Answers) (now : ℕ) (s : StorageData) (old : List Entry)
    (refused : Option PerError) (plan : Result (List Fresh) PerError)
    → IfSome refused IsPlain → PlansOver rules answers now s old refused plan → IfErr plan IsPlain
over_plain rules answers now s old (Some e) plan is plans =
    subst (λ (p : Result (List Fresh) PerError). IfErr p IsPlain) (sym plans) is
over_plain rules answers now s old None plan is plans =
    subst (λ (p : Result (List Fresh) PerError). IfErr p IsPlain) (sym plans.2) (limits_plain s.maximum plans.0)

for_plain : (rules : List Rule) (answers : fns.Answers) (now : ℕ) (s : StorageData) (contents : StorageContents)
    (plan : Result (List Fresh) PerError)
    → PlansFor rules answers now s contents plan → IfErr plan IsPlain
for_plain rules answers now s Missing plan plans = over_plain rules answers now s [] None plan tt plans
for_plain rules answers now s Damaged plan plans = subst (λ (p : Result (List Fresh) PerError). IfErr p IsPlain)
    (sym plans) (record { sound = λ e. cc; text = refl })
for_plain rules answers now s (Present old) plan plans =
    over_plain rules answers now s old (first_refusal rules now s old) plan (first_some rules now s old) plans

with_plain : (new : List Fresh) (rest : Result (List (List Fresh)) PerError) → IfErr rest IsPlain
    → IfErr (with_first new rest) IsPlain
with_plain new (Ok xs) is = tt
with_plain new (Err e) is = is

goes_plain : (first : Result (List Fresh) PerError) (others : Result (List (List Fresh)) PerError → Type 0)
    (plan : Result (List (List Fresh)) PerError) → IfErr first IsPlain
    → ((rest : Result (List (List Fresh)) PerError) → others rest → IfErr rest IsPlain) → Continues first others plan
    → IfErr plan IsPlain
goes_plain (Err e) others plan is each goes_on = subst (λ (p : Result (List (List Fresh)) PerError). IfErr p IsPlain)
    (sym goes_on) is
goes_plain (Ok new) others plan is each goes_on = subst (λ (p : Result (List (List Fresh)) PerError). IfErr p IsPlain)
    (sym goes_on.2) (with_plain new goes_on.0 (each goes_on.0 goes_on.1))

plans_plain : (rules : List Rule) (answers : fns.Answers) (now : ℕ) (stored : StorageData → StorageContents)
    (ss : List StorageData) (plan : Result (List (List Fresh)) PerError)
    → PlansAll rules answers now stored ss plan → IfErr plan IsPlain
plans_plain rules answers now stored [] plan plans = subst
    (λ (p : Result (List (List Fresh)) PerError). IfErr p IsPlain) (sym plans) tt
plans_plain rules answers now stored (s ∷ ss) plan plans =
    goes_plain plans.0 (PlansAll rules answers now stored ss) plan
    (for_plain rules answers now s (stored s) plans.0 plans.1)
    (λ rest is. plans_plain rules answers now stored ss rest is) plans.2

begun_plain : (o : Offer) (plan : Result (List (List Fresh)) PerError) → IfErr plan IsPlain
    → IfErr (begun o plan) IsPlain
begun_plain o plan is = chain plan _ is (λ contents. worn_plain o.generation _ tt)

begins_with_plain : (rules : List Rule) (answers : fns.Answers) (now : ℕ) (states : List State)
    (offer : Result Offer PerError) (row : Result InProgress PerError)
    → IfErr offer IsPlain → BeginsWith rules answers now states offer row → IfErr row IsPlain
begins_with_plain rules answers now states (Err e) row is begins =
    subst (λ (r : Result InProgress PerError). IfErr r IsPlain) (sym begins) is
begins_with_plain rules answers now states (Ok o) row is begins =
    subst (λ (r : Result InProgress PerError). IfErr r IsPlain) (sym begins.2)
    (begun_plain o begins.0 (plans_plain rules answers now
    (stored_for o.active.deployment (contents_stored o.active.deployment.storages states)) o.deployment.storages
    begins.0 begins.1))

pub begins_plain : (rules : List Rule) (answers : fns.Answers) (now : ℕ) (busy : Option (List ℕ)) (text : List ℕ)
    (a : App) (row : Result InProgress PerError)
    → BeginsUpdate rules answers now busy text a row → IfErr row IsPlain
begins_plain rules answers now busy text a row begins =
    begins_with_plain rules answers now a.states (offered busy text a) row (offer_plain busy text a) begins
