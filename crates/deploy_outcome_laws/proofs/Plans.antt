-- What a plan and a recovery exclude.
use Rattle.std.specs.Prelude.{◌≡◌, ℕ, ◌+◌, List, [], ◌∷◌, Option, Some, None, Bool, true, false, cond, nat_lt, is_some}
use Rattle.std.specs.Prelude.{Result, Ok, Err, filter_map, option_map}
use Rattle.std.specs.List.{cons_option}
use Rattle.std.proofs.Common.{refl, sym, ap, ◌∙◌, subst}
use Rattle.per_base.specs.declared.elements.Content.{Content}
use Rattle.per_base.specs.declared.elements.Content.TheVariants.{Good, Bad}
use Rattle.per_base.specs.declared.elements.Entry.{Entry}
use Rattle.per_base.specs.declared.elements.Fresh.{Fresh}
use Rattle.per_base.specs.declared.elements.StoreKind.{StoreKind}
use Rattle.per_base.specs.declared.elements.StoreKind.TheVariants.{Keys}
use Rattle.per_base.specs.declared.errors.PerError.{PerError}
use Rattle.per_base.specs.declared.errors.PerError.TheVariants as error
use Rattle.per_base.specs.declared.errors.Limit.TheVariants as limit
use Rattle.per_base.specs.declared.errors.Unit.TheVariants as unit
use Rattle.value_model.specs.Trees.{Tree}
use Rattle.value_code.specs.Reading.{decoded, is_content}
use Rattle.deployment_model.specs.Data.{StorageData}
use Rattle.deployment_model.specs.Lookups.{initial_content}
use Rattle.element_state.specs.States.{State, Opens, Corrupt, fresh_map, fresh_state, is_worn}
use Rattle.element_state.specs.Views.{judged_content}
use Rattle.migrate_fns.specs.Rules.{Rule}
use Rattle.migrate_fns.specs.Rules as fns
use Rattle.update_plan.specs.declared.contents.StorageContents.{StorageContents}
use Rattle.update_plan.specs.declared.contents.StorageContents.TheVariants.{Damaged}
use Rattle.update_plan.specs.Plans.{Continues, PlansAll, PlansFor, stored_for}
use Rattle.deploy_rows.specs.Recovering.{if_contents_fit, recovered_contents, recovering, rescued, rescued_as}
use Rattle.deploy_rows.specs.Rows.{BeginsWith, InProgress, Offer, begun, contents_stored}
use Rattle.deploy_outcome_laws.specs.Rows.{GenerationsFirst, InitialWhereConverted, OtherBankRead}
use Rattle.deploy_outcome_laws.specs.Rows.{UnreadableKept}

-- ---- a plan over a damaged storage

abbrev damaged : StorageData → PerError
damaged s = error.IntegrityCorrupted (unit.Whole s.name)

module _ (rules : List Rule) (answers : fns.Answers) (now : ℕ) where
  damaged_first : (stored : StorageData → StorageContents) (s : StorageData) (ss : List StorageData)
      (plan : Result (List (List Fresh)) PerError)
      → stored s ≡ Damaged → PlansAll rules answers now stored (s ∷ ss) plan → plan ≡ Err (damaged s)
  damaged_first stored s ss plan is planned =
      let first = subst (λ (c : StorageContents). PlansFor rules answers now s c planned.0) is planned.1 in
      subst (λ (r : Result (List Fresh) PerError). Continues r (PlansAll rules answers now stored ss) plan) first
      planned.2

  refused : (states : List State) (o : Offer) (s : StorageData) (ss : List StorageData)
      (result : Result InProgress PerError)
      → BeginsWith rules answers now states (Ok o) result → o.deployment.storages ≡ s ∷ ss
      → stored_for o.active.deployment (contents_stored o.active.deployment.storages states) s ≡ Damaged
      → result ≡ Err (damaged s)
  refused states o s ss result begins are is =
      let stored = stored_for o.active.deployment (contents_stored o.active.deployment.storages states) in
      let plan = begins.0 in
      let planned = subst (λ (xs : List StorageData). PlansAll rules answers now stored xs plan) are begins.1 in
      begins.2 ∙ ap (begun o) (damaged_first stored s ss plan is planned)

not_begun : (e : PerError) (p : InProgress) → ◌≡◌ {A = Result InProgress PerError} (Err e) (Ok p) → ⊥
not_begun e p is = absurd cc

not_worn_out : (s : StorageData)
    → ◌≡◌ {A = Result InProgress PerError} (Err (damaged s)) (Err (error.LimitReached limit.Generations)) → ⊥
not_worn_out s is = absurd cc

pub other_bank_read : (rules : List Rule) (answers : fns.Answers) → OtherBankRead rules answers
other_bank_read rules answers now states o s ss p result begins are is ok =
    not_begun (damaged s) p (sym (refused rules answers now states o s ss result begins are is) ∙ ok)

pub generations_first : (rules : List Rule) (answers : fns.Answers) → GenerationsFirst rules answers
generations_first rules answers now states o s ss result begins are is worn =
    not_worn_out s (sym (refused rules answers now states o s ss result begins are is) ∙ worn)

-- ---- a conversion

some_same : (x y : Fresh) → Some x ≡ Some y → x ≡ y
some_same x y is = cc

pub initial_where_converted : (answers : fns.Answers) → InitialWhereConverted answers
initial_where_converted answers name value places given renews none =
    none renews.0 renews.1 (ap (λ (f : Fresh). f.bytes) (some_same given _ renews.2))

-- ---- a recovery

abbrev rescued_of : StorageData → ℕ → Entry → Option Fresh
rescued_of s now e = rescued s now e (judged_content (is_content s.kind) e.content)

no_value : (s : StorageData) (now : ℕ) (e : Entry) (value : Option Tree) (bytes : List ℕ) → value ≡ None
    → initial_content s e.name ≡ None → (test : List ℕ → Bool) → test bytes ≡ is_some value
    → rescued s now e (judged_content test (Good bytes)) ≡ None
no_value s now e value bytes none nothing test is =
    let no : test bytes ≡ false = is ∙ ap (λ (v : Option Tree). is_some v) none in
    ap (λ (b : Bool). rescued s now e (cond b (Good bytes) (Bad None))) no
    ∙ ap (λ (i : Option (List ℕ)). option_map (rescued_as s now e) i) nothing

rescues_none : (s : StorageData) (now : ℕ) (e : Entry) (bytes : List ℕ) → s.kind ≡ Keys → e.content ≡ Good bytes
    → decoded bytes ≡ None → initial_content s e.name ≡ None → rescued_of s now e ≡ None
rescues_none s now e bytes keys good none nothing =
    ap (λ (k : StoreKind). rescued s now e (judged_content (is_content k) e.content)) keys
    ∙ ap (λ (c : Content). rescued s now e (judged_content (is_content Keys) c)) good
    ∙ no_value s now e (decoded bytes) bytes none nothing (is_content Keys) refl

filtered_none : {A B : Type 0} (f : A → Option B) (x : A) (xs : List A) → f x ≡ None → xs ≡ x ∷ []
    → filter_map f xs ≡ []
filtered_none {A} {B} f x xs none is = ap (filter_map f) is ∙ ap (λ (o : Option B). cons_option o []) none

either_ok : (small worn : Bool) (d e : PerError) (x b : State)
    → ◌≡◌ {A = Result State PerError} (cond small (Err d) (cond worn (Err e) (Ok x))) (Ok b) → x ≡ b
either_ok true worn d e x b is = absurd cc
either_ok false true d e x b is = absurd cc
either_ok false false d e x b is = cc

entries_in : State → List Entry
entries_in (Opens v others) = v.entries
entries_in (Corrupt salvage others) = []

some_entry : (e : Entry) (es : List Entry) → [] ≡ e ∷ es → ⊥
some_entry e es is = absurd cc

not_kept : (g h : ℕ) (f : Fresh) → fresh_state g (fresh_map []) ≡ fresh_state h (fresh_map (f ∷ [])) → ⊥
unfolding fresh_state entries_in
not_kept g h f is = some_entry _ _ (ap entries_in is)

pub unreadable_kept : UnreadableKept
unfolding recovering
unreadable_kept s now g view e bytes others f next keys one good none nothing row is =
    let no : recovered_contents s now (Some view) ≡ [] = filtered_none (rescued_of s now) e view.entries
    (rescues_none s now e bytes keys good none nothing) one in
    let empty : if_contents_fit s (Opens view others) [] ≡ Ok next =
    sym (ap (λ (xs : List Fresh). if_contents_fit s (Opens view others) xs) no) ∙ row in
    not_kept (view.generation + 1) g f
    (either_ok (nat_lt s.maximum 0) (is_worn view) _ _ _ next empty ∙ is)
