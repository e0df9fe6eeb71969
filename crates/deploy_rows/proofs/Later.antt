-- What a row leads to comes later.
use Rattle.std.specs.Prelude.{◌≡◌, ◌+◌, ℕ, List, [], Option, Some, None, Bool, true, false, cond, nat_le, Result, Ok}
use Rattle.std.specs.Prelude.{Err}
use Rattle.std.proofs.Common.{refl, subst, arith}
use Rattle.per_base.specs.declared.errors.PerError.{PerError}
use Rattle.deployment_model.specs.Data.{DeploymentData}
use Rattle.element_state.specs.States.{State, greatest_generation}
use Rattle.deploy_laws.specs.Apps.{Says, nothing, absent, installed, App, says_generation}
use Rattle.deploy_laws.specs.Stands.{IsLater, same_root, next_root}
use Rattle.deploy_rows.specs.Rows.{◌>>=◌, not_worn, finishing, rolling_back, wiping, installing, installed_app}
use Rattle.deploy_rows.specs.Rows.{deployment_of, InProgress, updated_app}

no_ok : (e : PerError) (b : App) → ◌≡◌ {A = Result App PerError} (Err e) (Ok b) → ⊥
no_ok e b is = absurd cc

ok_is : (x b : App) → ◌≡◌ {A = Result App PerError} (Ok x) (Ok b) → x ≡ b
ok_is x b is = cc

worn_or : (worn : Bool) (e : PerError) (x b : App) → ◌≡◌ {A = Result App PerError} (cond worn (Err e) (Ok x)) (Ok b)
    → x ≡ b
worn_or true e x b is = absurd (no_ok e b is)
worn_or false e x b is = ok_is x b is

row_ok : (g : ℕ) (x b : App) → not_worn g (Ok x) ≡ Ok b → x ≡ b
row_ok g x b is = worn_or (nat_le greatest_generation g) _ x b is

-- a root of the next generation
later_root : (a x b : App) → x ≡ b → says_generation x.says ≡ says_generation a.says + 1 → IsLater a b
later_root a x b is next = subst (λ (y : App). IsLater a y) is (next_root (omega (arith, next)))

abbrev app : Says → List ℕ → List State → App
app says lacking states = record { says = says; lacking = lacking; states = states }

finish_later : (s : Says) (lacking : List ℕ) (states : List State) (b : App) → finishing (app s lacking states) ≡ Ok b
    → IsLater (app s lacking states) b
unfolding finishing
finish_later nothing lacking states b is = absurd (no_ok _ b is)
finish_later (absent g) lacking states b is = absurd (no_ok _ b is)
finish_later (installed g active None) lacking states b is = absurd (no_ok _ b is)
finish_later (installed g active (Some previous)) lacking states b is = later_root _ _ b (row_ok g _ b is) refl

pub later_finish : (a b : App) → finishing a ≡ Ok b → IsLater a b
later_finish a b is = finish_later a.says a.lacking a.states b is

rollback_later : (busy : Option (List ℕ)) (s : Says) (lacking : List ℕ) (states : List State) (b : App)
    → rolling_back busy (app s lacking states) ≡ Ok b → IsLater (app s lacking states) b
unfolding rolling_back
rollback_later busy nothing lacking states b is = absurd (no_ok _ b is)
rollback_later busy (absent g) lacking states b is = absurd (no_ok _ b is)
rollback_later busy (installed g active None) lacking states b is = absurd (no_ok _ b is)
rollback_later (Some name) (installed g active (Some previous)) lacking states b is = absurd (no_ok _ b is)
rollback_later None (installed g active (Some previous)) lacking states b is = later_root _ _ b (row_ok g _ b is) refl

pub later_rollback : (busy : Option (List ℕ)) (a b : App) → rolling_back busy a ≡ Ok b → IsLater a b
later_rollback busy a b is = rollback_later busy a.says a.lacking a.states b is

wipe_later : (busy : Option (List ℕ)) (s : Says) (lacking : List ℕ) (states : List State) (b : App)
    → wiping busy (app s lacking states) ≡ Ok b → IsLater (app s lacking states) b
unfolding wiping
wipe_later (Some name) s lacking states b is = absurd (no_ok _ b is)
wipe_later None nothing lacking states b is = later_root _ _ b (ok_is _ b is) refl
wipe_later None (absent g) lacking states b is = later_root _ _ b (row_ok g _ b is) refl
wipe_later None (installed g active previous) lacking states b is = later_root _ _ b (row_ok g _ b is) refl

pub later_wipe : (busy : Option (List ℕ)) (a b : App) → wiping busy a ≡ Ok b → IsLater a b
later_wipe busy a b is = wipe_later busy a.says a.lacking a.states b is

update_later : (p : InProgress) (s : Says) (lacking : List ℕ) (states : List State)
    → IsLater (app s lacking states) (updated_app p (app s lacking states))
unfolding updated_app
update_later p nothing lacking states = same_root refl refl
update_later p (absent g) lacking states = same_root refl refl
update_later p (installed g active previous) lacking states = next_root (omega arith)

pub later_update : (p : InProgress) (a : App) → IsLater a (updated_app p a)
later_update p a = update_later p a.says a.lacking a.states

install_by : (g now : ℕ) (d : Result DeploymentData PerError) (lacking : List ℕ) (states : List State) (b : App)
    → (d >>= (λ x. not_worn g (Ok (installed_app g now x)))) ≡ Ok b
    → IsLater (app (absent g) lacking states) b
unfolding installed_app
install_by g now (Err e) lacking states b is = absurd (no_ok e b is)
install_by g now (Ok d) lacking states b is = later_root _ _ b (row_ok g _ b is) refl

install_later : (now : ℕ) (text : List ℕ) (s : Says) (lacking : List ℕ) (states : List State) (b : App)
    → installing now text (app s lacking states) ≡ Ok b → IsLater (app s lacking states) b
unfolding installing
install_later now text nothing lacking states b is = absurd (no_ok _ b is)
install_later now text (absent g) lacking states b is = install_by g now (deployment_of text) lacking states b is
install_later now text (installed g active previous) lacking states b is = absurd (no_ok _ b is)

pub later_install : (now : ℕ) (text : List ℕ) (a b : App) → installing now text a ≡ Ok b → IsLater a b
later_install now text a b is = install_later now text a.says a.lacking a.states b is

pub later_reopened : (a : App) → IsLater a (record a { lacking = [] })
later_reopened a = same_root refl refl
