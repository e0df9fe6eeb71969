-- A command keeps what holds of every world: what the calls of a deployment make of their application.
use Rattle.std.specs.Prelude.{◌≡◌, ◌≤◌, ◌<◌, ◌+◌, ℕ, suc, List, [], ◌∷◌, length, take, replicate, Bool, true, false}
use Rattle.std.specs.Prelude.{cond, nat_lt, nat_le, Option, Some, None, Result, Ok, Err, IfOk}
use Rattle.std.specs.List.{AllByRecursion}
use Rattle.std.proofs.Common.{refl, sym, ap, ◌∙◌, subst, arith}
use Rattle.std.proofs.lemmas.Bool.Decides.{nat_tests}
use Rattle.per_base.specs.declared.elements.Fresh.{Fresh}
use Rattle.per_base.specs.declared.errors.Limit.TheVariants as limit
use Rattle.per_base.specs.declared.errors.PerError.{PerError}
use Rattle.per_base.specs.declared.errors.PerError.TheVariants as error
use Rattle.deployment_model.specs.Data.{StorageData, DeploymentData}
use Rattle.element_state.specs.States.{State, greatest_generation}
use Rattle.update_plan.specs.declared.contents.StorageContents.{StorageContents}
use Rattle.update_plan.specs.Plans.{PlansAll, Continues, with_first, stored_for}
use Rattle.command_text.specs.declared.replies.Answer.TheVariants as answer
use Rattle.deploy_laws.specs.Places.{Named}
use Rattle.deploy_laws.specs.Apps.{Says, nothing, absent, installed, App}
use Rattle.deploy_rows.specs.Rows.{◌>>=◌, not_worn, not_busy, deployment_of, installed_app, installing, finishing}
use Rattle.deploy_rows.specs.Rows.{rolling_back, wiping, empty_app, storage_count, contents_stored, Offer, offered}
use Rattle.deploy_rows.specs.Rows.{newer_version}
use Rattle.deploy_rows.specs.Rows.{offer_over, InProgress, begun as begun_by, BeginsWith, updated_app}
use Rattle.run_model.specs.Converters.{Converters}
use Rattle.run_model.specs.Sessions.{Session}
use Rattle.run_model.specs.Worlds.{Application, Stage, to_open, at_rest, updating, update_in, Sessions}
use Rattle.run_model.specs.Lasting.{AreSessionsOn, IsStageOn, IsApplication, none_on}
use Rattle.run_model.specs.LastingCalls.{Lasts, rest_so, some_none}
use Rattle.run_model.specs.Calls.{Outcome, answered, status_step, first_open, active_storages, least_open, done_with}
use Rattle.run_model.specs.Calls.{progress_in, next_step, commit_step, abort_step, with_update, with_update_begun}
use Rattle.run_model.specs.Calls.{BeginsBy}

-- ---- no storage is open

-- no storage is open
abbrev pub NoneOpen : Sessions → Type 0
NoneOpen ss = AllByRecursion (λ (s : Option Session). s ≡ None) ss

none_any : (ss : Sessions) (cs : List StorageData) (states : List State) → NoneOpen ss → AreSessionsOn ss cs states
none_any [] cs states none = tt
none_any (s ∷ ss) [] states none = (none.0, none_any ss [] states none.1)
none_any (s ∷ ss) (c ∷ cs) [] none = (none.0, none_any ss cs [] none.1)
none_any (None ∷ ss) (c ∷ cs) (state ∷ states) none = (tt, none_any ss cs states none.1)
none_any (Some s ∷ ss) (c ∷ cs) (state ∷ states) none = absurd (some_none s none.0)

none_beyond : (ss : Sessions) (states : List State) → AreSessionsOn ss [] states → NoneOpen ss
none_beyond [] states are = tt
none_beyond (s ∷ ss) states are = (are.0, none_beyond ss states are.1)

none_least : (ss : Sessions) (cs : List StorageData) (states : List State) → first_open ss cs ≡ None
    → AreSessionsOn ss cs states → NoneOpen ss
none_least [] cs states least are = tt
none_least (s ∷ ss) [] states least are = (are.0, none_beyond ss states are.1)
none_least (Some s ∷ ss) (c ∷ cs) states least are = absurd (some_none c.name least)
none_least (None ∷ ss) (c ∷ cs) [] least are = (refl, none_least ss cs [] least are.1)
none_least (None ∷ ss) (c ∷ cs) (state ∷ states) least are = (refl, none_least ss cs states least are.1)

none_all : (ss : Sessions) → NoneOpen ss → ss ≡ replicate (length ss) None
none_all [] none = refl
none_all (s ∷ ss) none = ap (λ (x : Option Session). x ∷ ss) none.0
    ∙ ap (λ (xs : Sessions). None ∷ xs) (none_all ss none.1)

-- the states of the active version are enough for its sessions
take_so : (ss : Sessions) (cs : List StorageData) (states : List State) → AreSessionsOn ss cs states
    → AreSessionsOn ss cs (take (length cs) states)
take_so [] cs states are = tt
take_so (s ∷ ss) [] states are = (are.0, take_so ss [] states are.1)
take_so (s ∷ ss) (c ∷ cs) [] are = are
take_so (s ∷ ss) (c ∷ cs) (state ∷ states) are = (are.0, take_so ss cs states are.1)

-- ---- an application by its parts

abbrev pub of_parts : Says → List ℕ → List State → Stage → Sessions → Application
of_parts says lacking states stage slots = record {
  disk =
      record { says = says; lacking = lacking; states = states };
  stage = stage;
  sessions = slots;
}

pub status_row : (r : Application) (says : Says) → IsApplication r → IfOk (status_step r says) Lasts
status_row r nothing is = tt
status_row r (absent g) is = is
status_row r (installed g active previous) is = is

absent_stage : (stage : Stage) (g : ℕ) (says : Says) (ss : Sessions) → IsStageOn stage (absent g) ss
    → IsStageOn stage says ss
absent_stage to_open g says ss on = on
absent_stage at_rest g says ss on = tt
absent_stage (updating p) g says ss on = absurd on

install_parts : (now : ℕ) (text : List ℕ) (says : Says) (lacking : List ℕ) (states : List State) (stage : Stage)
    (slots : Sessions) → IsApplication (of_parts says lacking states stage slots)
    → IfOk (done_with (of_parts says lacking states stage slots)
    (installing now text (of_parts says lacking states stage slots).disk)) Lasts
unfolding installing installed_app
install_parts now text nothing lacking states stage slots is = tt
install_parts now text (installed g active previous) lacking states stage slots is = tt
install_parts now text (absent g) lacking states stage slots is = by (deployment_of text)
  where
    worn : (d : DeploymentData) (test : Bool)
        → IfOk ((cond test (Err (error.LimitReached limit.Generations)) (Ok (installed_app g now d))) >>= λ after.
        Ok (answered answer.Done (record (of_parts (absent g) lacking states stage slots) { disk = after })))
        Lasts
    worn d true = tt
    worn d false = record {
      room = is.room;
      sessions = none_any slots d.storages (installed_app g now d).states (none_beyond slots states is.sessions);
      stage = absent_stage stage g (installed_app g now d).says slots is.stage;
    }

    by : (said : Result DeploymentData PerError)
        → IfOk ((said >>= (λ d. not_worn g (Ok (installed_app g now d)))) >>= λ after.
        Ok (answered answer.Done (record (of_parts (absent g) lacking states stage slots) { disk = after })))
        Lasts
    by (Ok d) = worn d (nat_le greatest_generation g)
    by (Err e) = tt

pub install_row : (r : Application) (now : ℕ) (text : List ℕ) → IsApplication r
    → IfOk (done_with r (installing now text r.disk)) Lasts
install_row r now text is = install_parts now text r.disk.says r.disk.lacking r.disk.states r.stage r.sessions is

-- a row that ends at a generation that is left
worn_so : (r : Application) (g : ℕ) (a : App) → IsApplication (record r { disk = a })
    → IfOk (done_with r (not_worn g (Ok a))) Lasts
worn_so r g a is = by (nat_le greatest_generation g)
  where
    by : (test : Bool) → IfOk ((cond test (Err (error.LimitReached limit.Generations)) (Ok a)) >>= λ after.
        Ok (answered answer.Done (record r { disk = after }))) Lasts
    by true = tt
    by false = is

finish_parts : (says : Says) (lacking : List ℕ) (states : List State) (stage : Stage) (slots : Sessions)
    → stage ≡ at_rest → IsApplication (of_parts says lacking states stage slots)
    → IfOk (done_with (of_parts says lacking states stage slots)
    (finishing (of_parts says lacking states stage slots).disk)) Lasts
unfolding finishing
finish_parts nothing lacking states stage slots rests is = tt
finish_parts (absent g) lacking states stage slots rests is = tt
finish_parts (installed g active None) lacking states stage slots rests is = tt
finish_parts (installed g active (Some previous)) lacking states stage slots rests is =
    worn_so (of_parts (installed g active (Some previous)) lacking states stage slots) g
    (record { says = installed (g + 1) active None; lacking = []; states = take (storage_count active) states })
    (record {
      room = is.room;
      sessions = take_so slots active.deployment.storages states is.sessions;
      stage =
          rest_so stage (installed (g + 1) active None) slots rests;
    })

pub finish_row : (r : Application) → r.stage ≡ at_rest → IsApplication r → IfOk (done_with r (finishing r.disk)) Lasts
finish_row r rests is = finish_parts r.disk.says r.disk.lacking r.disk.states r.stage r.sessions rests is

-- a row that is refused where a storage is open
busy_so : (r : Application) (busy : Option (List ℕ)) (row : Result App PerError)
    → (busy ≡ None → IfOk (done_with r row) Lasts) → IfOk (done_with r (not_busy busy row)) Lasts
busy_so r None row has = has refl
busy_so r (Some name) row has = tt

-- at rest, with no storage open, whatever is on the disk
closed_so : (r : Application) (a : App) → r.stage ≡ at_rest → IsApplication r → least_open r ≡ None
    → IsApplication (record r { disk = a })
closed_so r a rests is least = record {
  room = is.room;
  sessions = none_any r.sessions (active_storages a.says) a.states
      (none_least r.sessions (active_storages r.disk.says) r.disk.states least is.sessions);
  stage = rest_so r.stage a.says r.sessions rests;
}

rollback_parts : (says : Says) (lacking : List ℕ) (states : List State) (stage : Stage) (slots : Sessions)
    → stage ≡ at_rest → IsApplication (of_parts says lacking states stage slots)
    → IfOk (done_with (of_parts says lacking states stage slots)
    (rolling_back (least_open (of_parts says lacking states stage slots))
    (of_parts says lacking states stage slots).disk)) Lasts
unfolding rolling_back
rollback_parts nothing lacking states stage slots rests is = tt
rollback_parts (absent g) lacking states stage slots rests is = tt
rollback_parts (installed g active None) lacking states stage slots rests is = tt
rollback_parts (installed g active (Some previous)) lacking states stage slots rests is =
    let r : Application = of_parts (installed g active (Some previous)) lacking states stage slots in
    busy_so r (least_open r) _ (λ least. worn_so r g _ (closed_so r _ rests is least))

pub rollback_row : (r : Application) → r.stage ≡ at_rest → IsApplication r
    → IfOk (done_with r (rolling_back (least_open r) r.disk)) Lasts
rollback_row r rests is = rollback_parts r.disk.says r.disk.lacking r.disk.states r.stage r.sessions rests is

wipe_parts : (says : Says) (lacking : List ℕ) (states : List State) (stage : Stage) (slots : Sessions) → stage ≡ at_rest
    → IsApplication (of_parts says lacking states stage slots)
    → IfOk (done_with (of_parts says lacking states stage slots)
    (wiping (least_open (of_parts says lacking states stage slots))
    (of_parts says lacking states stage slots).disk)) Lasts
unfolding wiping
wipe_parts nothing lacking states stage slots rests is =
    let r : Application = of_parts nothing lacking states stage slots in
    busy_so r (least_open r) _ (λ least. closed_so r (empty_app 1) rests is least)
wipe_parts (absent g) lacking states stage slots rests is =
    let r : Application = of_parts (absent g) lacking states stage slots in
    busy_so r (least_open r) _ (λ least. worn_so r g _ (closed_so r _ rests is least))
wipe_parts (installed g active previous) lacking states stage slots rests is =
    let r : Application = of_parts (installed g active previous) lacking states stage slots in
    busy_so r (least_open r) _ (λ least. worn_so r g _ (closed_so r _ rests is least))

pub wipe_row : (r : Application) → r.stage ≡ at_rest → IsApplication r
    → IfOk (done_with r (wiping (least_open r) r.disk)) Lasts
wipe_row r rests is = wipe_parts r.disk.says r.disk.lacking r.disk.states r.stage r.sessions rests is

-- ---- an update in progress

one_more_within : (p : InProgress) (test : Bool) → nat_lt p.built (length p.contents) ≡ test
    → p.built ≤ length p.contents → cond test (suc p.built) p.built ≤ length p.contents
one_more_within p true less le = let more : p.built < length p.contents =
    grind (arith, nat_tests, less) in omega (arith, more)
one_more_within p false less le = le

next_parts : (says : Says) (lacking : List ℕ) (states : List State) (stage : Stage) (slots : Sessions)
    → IsApplication (of_parts says lacking states stage slots)
    → IfOk (next_step (of_parts says lacking states stage slots)) Lasts
next_parts nothing lacking states stage slots is = tt
next_parts (absent g) lacking states stage slots is = tt
next_parts (installed g active previous) lacking states to_open slots is = tt
next_parts (installed g active previous) lacking states at_rest slots is = tt
next_parts (installed g active None) lacking states (updating p) slots is = record {
  room = is.room;
  sessions = is.sessions;
  stage = (is.stage.0, is.stage.1, one_more_within p (nat_lt p.built (length p.contents)) refl is.stage.2);
}
next_parts (installed g active (Some previous)) lacking states (updating p) slots is = absurd is.stage

pub next_row : (r : Application) → IsApplication r → IfOk (next_step r) Lasts
next_row r is = next_parts r.disk.says r.disk.lacking r.disk.states r.stage r.sessions is

commit_parts : (says : Says) (lacking : List ℕ) (states : List State) (stage : Stage) (slots : Sessions)
    → IsApplication (of_parts says lacking states stage slots)
    → IfOk (commit_step (of_parts says lacking states stage slots)) Lasts
unfolding updated_app
commit_parts nothing lacking states stage slots is = tt
commit_parts (absent g) lacking states stage slots is = tt
commit_parts (installed g active previous) lacking states to_open slots is = tt
commit_parts (installed g active previous) lacking states at_rest slots is = tt
commit_parts (installed g active None) lacking states (updating p) slots is =
    let after : App = updated_app p (record { says = installed g active None; lacking = lacking; states = states }) in
    record {
      room = is.room;
      sessions = subst (λ (ss : Sessions). AreSessionsOn ss (active_storages after.says) after.states) (sym is.stage.0)
          (none_on 16 (active_storages after.says) after.states);
      stage = tt;
    }
commit_parts (installed g active (Some previous)) lacking states (updating p) slots is = absurd is.stage

pub commit_row : (r : Application) → IsApplication r → IfOk (commit_step r) Lasts
commit_row r is = commit_parts r.disk.says r.disk.lacking r.disk.states r.stage r.sessions is

pub abort_row : (r : Application) → IsApplication r → IfOk (abort_step r) Lasts
abort_row r is = by (progress_in r.disk.says (update_in r.stage))
  where
    by : (row : Result InProgress PerError) → IfOk (row >>= λ p.
        Ok (answered answer.Done (record r { stage = at_rest }))) Lasts
    by (Ok p) = record { room = is.room; sessions = is.sessions; stage = tt }
    by (Err e) = tt

-- ---- an update begins

refused_so : (f : InProgress → Result Outcome PerError) (row : Result InProgress PerError) (e : PerError) → row ≡ Err e
    → IfOk (row >>= f) Lasts
refused_so f row e is = subst (λ (x : Result InProgress PerError). IfOk (x >>= f) Lasts) (sym is) tt

-- as many contents as storages
plan_length : (converters : Converters) (now : ℕ) (stored : StorageData → StorageContents)
    (ss : List StorageData) (plan : Result (List (List Fresh)) PerError)
    → PlansAll converters.rules converters.answers now stored ss plan
    → IfOk plan (λ contents. length contents ≡ length ss)
plan_length converters now stored [] plan is = subst
    (λ (x : Result (List (List Fresh)) PerError). IfOk x (λ contents. length contents ≡ 0)) (sym is) refl
plan_length converters now stored (s ∷ ss) plan is =
    by (λ rest. plan_length converters now stored ss rest) is.0 is.2
  where
    with_rest : (new : List Fresh) (rest : Result (List (List Fresh)) PerError)
        → IfOk rest (λ contents. length contents ≡ length ss)
        → IfOk (with_first new rest) (λ contents. length contents ≡ suc (length ss))
    with_rest new (Ok contents) same = ap suc same
    with_rest new (Err e) same = tt

    by : ((rest : Result (List (List Fresh)) PerError) → PlansAll converters.rules converters.answers now stored ss rest
        → IfOk rest (λ contents. length contents ≡ length ss))
        → (first : Result (List Fresh) PerError)
        → Continues first (PlansAll converters.rules converters.answers now stored ss) plan
        → IfOk plan (λ contents. length contents ≡ suc (length ss))
    by later (Err e) cont = subst (λ (x : Result (List (List Fresh)) PerError).
        IfOk x (λ contents. length contents ≡ suc (length ss))) (sym cont) tt
    by later (Ok new) cont = subst (λ (x : Result (List (List Fresh)) PerError).
        IfOk x (λ contents. length contents ≡ suc (length ss))) (sym cont.2)
        (with_rest new cont.0 (later cont.0 cont.1))

-- an update in one call, where no storage is open
updated_so : (r : Application) (row : Result InProgress PerError) → r.stage ≡ at_rest → IsApplication r
    → least_open r ≡ None → IfOk (row >>= with_update r) Lasts
updated_so r (Ok p) rests is least = closed_so r (updated_app p r.disk) rests is least
updated_so r (Err e) rests is least = tt

begun_plan : (converters : Converters) (now : ℕ) (stored : StorageData → StorageContents) (o : Offer)
    (plan : Result (List (List Fresh)) PerError)
    → PlansAll converters.rules converters.answers now stored o.deployment.storages plan
    → IfOk (begun_by o plan) (λ p. (length p.contents ≡ length p.deployment.storages) × (p.built ≡ 0))
begun_plan converters now stored o (Ok contents) plans = by (nat_le greatest_generation o.generation)
  where
    same : length contents ≡ length o.deployment.storages
    same = plan_length converters now stored o.deployment.storages (Ok contents) plans

    by : (test : Bool) → IfOk {T = InProgress} (cond test (Err (error.LimitReached limit.Generations))
        (Ok (record { manifest = o.manifest; deployment = o.deployment; contents = contents; built = 0 })))
        (λ p. (length p.contents ≡ length p.deployment.storages) × (p.built ≡ 0))
    by true = tt
    by false = (same, refl)
begun_plan converters now stored o (Err e) plans = tt

-- the same of one that goes on in steps, with contents for each storage
stepwise_so : (r : Application) (g : ℕ) (active : Named) (row : Result InProgress PerError) → IsApplication r
    → r.disk.says ≡ installed g active None → NoneOpen r.sessions
    → IfOk row (λ p. (length p.contents ≡ length p.deployment.storages) × (p.built ≡ 0))
    → IfOk (row >>= with_update_begun r) Lasts
stepwise_so r g active (Ok p) is says none planned = record {
  room = is.room;
  sessions = is.sessions;
  stage = subst (λ (says' : Says). IsStageOn (updating p) says' r.sessions) (sym says) (
    none_all r.sessions none ∙ ap (λ (n : ℕ). replicate n None) is.room,
    planned.0,
    subst (λ (n : ℕ). n ≤ length p.contents) (sym planned.1) (omega arith),
  );
}
stepwise_so r g active (Err e) is says none planned = tt

-- either by what is done with the plan: where a storage is open it is refused
offered_so : (converters : Converters) (now : ℕ) (busy : Option (List ℕ)) (text : List ℕ)
    (states : List State) (g : ℕ) (active : Named) (row : Result InProgress PerError)
    (f : InProgress → Result Outcome PerError) → BeginsWith converters.rules converters.answers now states
    (offer_over busy text g active None) row
    → (busy ≡ None → IfOk row (λ p. (length p.contents ≡ length p.deployment.storages) × (p.built ≡ 0))
    → IfOk (row >>= f) Lasts) → IfOk (row >>= f) Lasts
offered_so converters now (Some name) text states g active row f begins go = refused_so f row _ begins
offered_so converters now None text states g active row f begins go =
    by (deployment_of text >>= newer_version active g text) begins
  where
    by : (offer : Result Offer PerError) → BeginsWith converters.rules converters.answers now states offer row
        → IfOk (row >>= f) Lasts
    by (Err e) is = refused_so f row e is
    by (Ok o) is = go refl (subst (λ (x : Result InProgress PerError).
        IfOk x (λ p. (length p.contents ≡ length p.deployment.storages) × (p.built ≡ 0))) (sym is.2)
        (begun_plan converters now (stored_for o.active.deployment
        (contents_stored o.active.deployment.storages states)) o
        is.0 is.1))

begins_parts : (converters : Converters) (now : ℕ) (text : List ℕ) (says : Says) (lacking : List ℕ)
    (states : List State) (busy : Option (List ℕ)) (row : Result InProgress PerError)
    (f : InProgress → Result Outcome PerError) → BeginsWith converters.rules converters.answers now states
    (offered busy text (record { says = says; lacking = lacking; states = states })) row
    → ((g : ℕ) (active : Named) → says ≡ installed g active None → busy ≡ None
    → IfOk row (λ p. (length p.contents ≡ length p.deployment.storages) × (p.built ≡ 0)) → IfOk (row >>= f) Lasts)
    → IfOk (row >>= f) Lasts
unfolding offered
begins_parts converters now text nothing lacking states busy row f begins go = refused_so f row _ begins
begins_parts converters now text (absent g) lacking states busy row f begins go = refused_so f row _ begins
begins_parts converters now text (installed g active (Some previous)) lacking states busy row f begins go =
    refused_so f row _ begins
begins_parts converters now text (installed g active None) lacking states busy row f begins go =
    offered_so converters now busy text states g active row f begins
    (λ least planned. go g active refl least planned)

pub update_row : (converters : Converters) (now : ℕ) (r : Application) (text : List ℕ) (outcome : Outcome)
    → r.stage ≡ at_rest → IsApplication r
    → (by_plan : BeginsBy converters now r text (with_update r) outcome) → IfOk (by_plan.0 >>= with_update r) Lasts
update_row converters now r text outcome rests is by_plan =
    begins_parts converters now text r.disk.says r.disk.lacking r.disk.states (least_open r) by_plan.0
    (with_update r)
    by_plan.1
    (λ g active says least planned. updated_so r by_plan.0 rests is least)

pub begin_row : (converters : Converters) (now : ℕ) (r : Application) (text : List ℕ) (outcome : Outcome)
    → IsApplication r
    → (by_plan : BeginsBy converters now r text (with_update_begun r) outcome)
    → IfOk (by_plan.0 >>= with_update_begun r) Lasts
begin_row converters now r text outcome is by_plan =
    begins_parts converters now text r.disk.says r.disk.lacking r.disk.states (least_open r) by_plan.0
    (with_update_begun r)
    by_plan.1
    (λ g active says least planned. stepwise_so r g active by_plan.0 is says
    (none_least r.sessions (active_storages r.disk.says) r.disk.states least is.sessions) planned)
