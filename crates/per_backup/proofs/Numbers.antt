-- Every refusal of an export, of an import and of a restore has a number.
use Rattle.std.proofs.Common.{ℕ, List, [], ◌∷◌, Bool, true, false, cond, Option, Some, None, Result, Ok, Err, refl}
use Rattle.std.proofs.Common.{IfErr, IfSome, sum_by, nat_lt}
use Rattle.std.specs.Prelude.{IsSome, nat_le}
use Rattle.per_base.specs.Errors.{error_number}
use Rattle.per_base.specs.declared.elements.Content.{Content}
use Rattle.per_base.specs.declared.elements.Content.TheVariants.{Good, Bad}
use Rattle.per_base.specs.declared.elements.Entry.{Entry}
use Rattle.per_base.specs.declared.elements.Fresh.{Fresh}
use Rattle.per_base.specs.declared.elements.StoreKind.{StoreKind}
use Rattle.per_base.specs.declared.errors.Limit.TheVariants as limit
use Rattle.per_base.specs.declared.errors.PerError.{PerError}
use Rattle.per_base.specs.declared.errors.PerError.TheVariants as error
use Rattle.per_base.specs.Refusals.{or_next, refused_by}
use Rattle.value_code.specs.Reading.{is_content}
use Rattle.value_text.specs.Texts.{mismatch}
use Rattle.deployment_model.specs.Data.{DeploymentData, StorageData}
use Rattle.deployment_model.specs.Lookups.{storage_number}
use Rattle.element_state.specs.States.{State, Opens, Corrupt, greatest_generation, salvage_of}
use Rattle.manifest.specs.Reading.{broken_rule, deployment_in}
use Rattle.element_state.specs.Views.{judged_content}
use Rattle.index_text.specs.Contents.{fresh_size}
use Rattle.update_plan.specs.Plans.{is_kind}
use Rattle.value_model.specs.Kinds.{Kind, same_kind}
use Rattle.deploy_laws.specs.Places.{Named}
use Rattle.deploy_laws.specs.Apps.{App, Says, absent, installed, nothing}
use Rattle.deploy_rows.specs.Recovering.{if_contents_fit, is_worn_out, rebuilding}
use Rattle.deploy_rows.specs.Rows.{◌>>=◌, deployment_of, said_or_broken}
use Rattle.export_text.specs.declared.exports.Export.{Export}
use Rattle.export_text.specs.Exports.{export_of, export_text}
use Rattle.run_model.specs.Found.{FoundStorage, found_at, found_in, found_with, of_kind, storage_in, with_storage_state}
use Rattle.per_backup.specs.Backups.{configured_type, differing, export_for, exported_contents, exported_from}
use Rattle.per_backup.specs.Backups.{exported_type, exporting, fresh_by, fresh_of, importing, importing_into}
use Rattle.per_backup.specs.Backups.{least_mismatch, mismatch_of, text_from}
use Rattle.per_backup.specs.Backups.{restoring, states_from, taken}
use Rattle.per_backup.specs.Laws.{ExportNumbersLaw, ImportNumbersLaw, RestoreNumbersLaw}

abbrev IsNumbered : PerError → Type 0
IsNumbered e = IsSome (error_number e)

abbrev Numbered : {A : Type 0} → Result A PerError → Type 0
Numbered r = IfErr r IsNumbered

-- ---- rows of rows

both : {A B : Type 0} (r : Result A PerError) (f : A → Result B PerError) → Numbered r → ((x : A) → Numbered (f x))
    → Numbered (r >>= f)
both (Ok x) f first rest = rest x
both (Err e) f first rest = first

either : {A : Type 0} (b : Bool) (one other : Result A PerError) → Numbered one → Numbered other
    → Numbered (cond b one other)
either true one other first second = first
either false one other first second = second

unless_numbered : {A : Type 0} (o : Option PerError) (row : Result A PerError) → IfSome o IsNumbered → Numbered row
    → Numbered (refused_by o row)
unless_numbered None row first rest = rest
unless_numbered (Some e) row first rest = first

-- ---- the storage of a name

with_numbered : (bank number : ℕ) (kind : Option StoreKind) (config : Option StorageData) (state : Option State)
    → Numbered (found_with bank number kind config state)
with_numbered bank number kind (Some config) (Some state) = either (of_kind kind config.kind) _ _ tt refl
with_numbered bank number kind (Some config) None = refl
with_numbered bank number kind None state = refl

at_numbered : (v : Named) (states : List State) (kind : Option StoreKind) (number : Option ℕ)
    → Numbered (found_at v states kind number)
at_numbered v states kind None = refl
at_numbered v states kind (Some number) = with_numbered v.bank number kind _ _

in_numbered : (says : Says) (states : List State) (name : List ℕ) (kind : Option StoreKind)
    → Numbered (found_in says states name kind)
in_numbered nothing states name kind = refl
in_numbered (absent g) states name kind = refl
in_numbered (installed g active previous) states name kind =
    at_numbered active states kind (storage_number active.deployment name)

-- ---- an export

fresh_numbered : (storage : List ℕ) (e : Entry) (content : Content) → Numbered (fresh_by storage e content)
fresh_numbered storage e (Good bytes) = tt
fresh_numbered storage e (Bad salvage) = refl

contents_numbered : (s : StorageData) (es : List Entry) → Numbered (exported_contents s es)
contents_numbered s [] = tt
contents_numbered s (e ∷ es) =
    both (fresh_of s e) _ (fresh_numbered s.name e (judged_content (is_content s.kind) e.content))
    (λ f. both (exported_contents s es) _ (contents_numbered s es) (λ fs. tt))

from_numbered : (s : StorageData) (state : State) → Numbered (exported_from s state)
from_numbered s (Corrupt salvage others) = refl
from_numbered s (Opens v others) = both (exported_contents s v.entries) _ (contents_numbered s v.entries)
    (λ contents. tt)

pub exports : ExportNumbersLaw
unfolding exporting
exports a name = both (storage_in a name None) _ (in_numbered a.says a.states name None)
    (λ f. both (exported_from f.config f.state) _ (from_numbered f.config f.state) (λ x. tt))

-- ---- an import

for_numbered : (kind : StoreKind) (x : Option Export) → Numbered (export_for kind x)
for_numbered kind None = refl
for_numbered kind (Some x) = either (is_kind kind x.kind) _ _ tt refl

same_numbered : (b : Bool) (e : PerError) → IsNumbered e → IfSome (cond b None (Some e)) IsNumbered
same_numbered true e is = tt
same_numbered false e is = is

differing_numbered : (exported configured : Option Kind) → IfSome (differing exported configured) IsNumbered
differing_numbered exported None = tt
differing_numbered None (Some configured) = tt
differing_numbered (Some exported) (Some configured) =
    same_numbered (same_kind exported configured) (mismatch exported configured) refl

next_numbered : (first next : Option PerError) → IfSome first IsNumbered → IfSome next IsNumbered
    → IfSome (or_next first next) IsNumbered
next_numbered None next one other = other
next_numbered (Some e) next one other = one

least_numbered : (s : StorageData) (fs : List Fresh) → IfSome (least_mismatch s fs) IsNumbered
least_numbered s [] = tt
least_numbered s (f ∷ fs) = next_numbered (mismatch_of s f) (least_mismatch s fs)
    (differing_numbered (exported_type f) (configured_type s f.name)) (least_numbered s fs)

fits_numbered : (s : StorageData) (state : State) (contents : List Fresh) → Numbered (if_contents_fit s state contents)
fits_numbered s state contents = either (nat_lt s.maximum (sum_by fresh_size contents)) _ _ refl
    (either (is_worn_out (salvage_of state)) _ _ refl tt)

importing_numbered : (s : StorageData) (state : State) (text : List ℕ) → Numbered (importing s state text)
unfolding importing
importing_numbered s state text = both (export_for s.kind (export_of text)) _ (for_numbered s.kind (export_of text))
    (λ x. unless_numbered (least_mismatch s x.contents) _ (least_numbered s x.contents)
    (fits_numbered s state x.contents))

pub imports : ImportNumbersLaw
unfolding importing_into
imports a name text = both (storage_in a name None) _ (in_numbered a.says a.states name None)
    (λ f. both (importing f.config f.state text) _ (importing_numbered f.config f.state text) (λ state. tt))

-- ---- a restore

taken_numbered : (says : Says) → IfSome (taken says) IsNumbered
taken_numbered nothing = refl
taken_numbered (absent g) = by (nat_le greatest_generation g)
  where
    by : (b : Bool) → IfSome (cond b (Some (error.LimitReached limit.Generations)) None) IsNumbered
    by true = refl
    by false = tt
taken_numbered (installed g active previous) = refl

said_numbered : (d : Option DeploymentData) (rule : Option ℕ) → Numbered (said_or_broken d rule)
said_numbered (Some d) rule = tt
said_numbered None None = refl
said_numbered None (Some rule) = refl

deployment_numbered : (manifest : List ℕ) → Numbered (deployment_of manifest)
unfolding deployment_of
deployment_numbered manifest = said_numbered (deployment_in manifest) (broken_rule manifest)

states_numbered : (ss : List StorageData) (texts : List (List ℕ)) → Numbered (states_from ss texts)
states_numbered [] [] = tt
states_numbered [] (text ∷ texts) = refl
states_numbered (s ∷ ss) [] = refl
states_numbered (s ∷ ss) (text ∷ texts) = both (importing s (Corrupt None []) text) _
    (importing_numbered s (Corrupt None []) text)
    (λ state. both (states_from ss texts) _ (states_numbered ss texts) (λ states. tt))

pub restores : RestoreNumbersLaw
unfolding restoring
restores a manifest texts = unless_numbered (taken a.says) _ (taken_numbered a.says)
    (both (deployment_of manifest) _ (deployment_numbered manifest)
    (λ d. both (states_from d.storages texts) _ (states_numbered d.storages texts) (λ states. tt)))
