-- The row of an installation.
use Rattle.std.proofs.Common.{◌≡◌, ℕ, ◌+◌, ◌≤◌, ◌<◌, List, [], ◌++◌, Bool, None, refl, sym, ap, ◌∙◌, subst}
use Rattle.std.specs.Prelude.{Result, Ok, Err, cond}
use Rattle.std.proofs.lemmas.Bool.{le-leb, lt-leb}
use Rattle.std.proofs.lemmas.List.{append-nil}
use Rattle.per_base.specs.declared.errors.PerError.{PerError}
use Rattle.per_base.specs.declared.errors.PerError.TheVariants as error
use Rattle.per_base.specs.declared.errors.Limit.TheVariants as limit
use Rattle.per_base.specs.declared.errors.Unit.TheVariants as unit
use Rattle.per_base.specs.declared.elements.Fresh.{Fresh}
use Rattle.deployment_model.specs.Data.{DeploymentData}
use Rattle.element_state.specs.States.{State, greatest_generation}
use Rattle.root_text.specs.RootText.{Version}
use Rattle.deploy_laws.specs.Apps.{App, Says, absent}
use Rattle.deploy_rows.specs.Rows.{◌>>=◌, deployment_of, initial_all, installed_app, installing, made_states, not_worn}
use Rattle.deploy.specs.declared.roots.Installed.{Installed}
use Rattle.deploy.specs.declared.roots.Root.TheVariants as root
use Rattle.deploy.specs.Filled.{filled_app}
use Rattle.deploy.specs.Next.{next_app}
use Rattle.deploy.specs.Roots.{root_app}

by_says : (now g : ℕ) (text lacking : List ℕ) (states : List State) (s : Says) → s ≡ absent g
    → installing now text (record { says = s; lacking = lacking; states = states })
    ≡ (deployment_of text >>= (λ d. not_worn g (Ok (installed_app g now d))))
unfolding installing
by_says now g text lacking states s is = subst (λ (t : Says).
    installing now text (record { says = t; lacking = lacking; states = states })
    ≡ (deployment_of text >>= (λ d. not_worn g (Ok (installed_app g now d))))) (sym is) refl

pub install_row : (now g : ℕ) (text : List ℕ) (a : App) → a.says ≡ absent g
    → installing now text a ≡ (deployment_of text >>= (λ d. not_worn g (Ok (installed_app g now d))))
install_row now g text a is = by_says now g text a.lacking a.states a.says is

-- ---- whether a generation is left

pub worn : {A : Type 0} (g : ℕ) (x : Result A PerError) → greatest_generation ≤ g
    → not_worn g x ≡ Err (error.LimitReached limit.Generations)
worn {A} g x le = ap (λ (b : Bool). cond b (Err (error.LimitReached limit.Generations)) x)
    (le-leb greatest_generation g le)

pub left : {A : Type 0} (g : ℕ) (x : Result A PerError) → g < greatest_generation → not_worn g x ≡ x
left {A} g x lt = ap (λ (b : Bool). cond b (Err (error.LimitReached limit.Generations)) x)
    (lt-leb greatest_generation g lt)

-- ---- the ways that it goes

module _ (now g : ℕ) (text : List ℕ) (a : App) (is : a.says ≡ absent g) where
  pub rejected : (e : PerError) → deployment_of text ≡ Err e → installing now text a ≡ Err e
  rejected e refusal = install_row now g text a is
      ∙ ap (λ (r : Result DeploymentData PerError). r >>= (λ d. not_worn g (Ok (installed_app g now d)))) refusal

  pub worn_out : (d : DeploymentData) → deployment_of text ≡ Ok d → greatest_generation ≤ g
      → installing now text a ≡ Err (error.LimitReached limit.Generations)
  worn_out d said le = install_row now g text a is
      ∙ ap (λ (r : Result DeploymentData PerError). r >>= (λ d. not_worn g (Ok (installed_app g now d)))) said
      ∙ worn g (Ok (installed_app g now d)) le

  pub installs : (d : DeploymentData) → deployment_of text ≡ Ok d → g < greatest_generation
      → installing now text a ≡ Ok (installed_app g now d)
  installs d said lt = install_row now g text a is
      ∙ ap (λ (r : Result DeploymentData PerError). r >>= (λ d. not_worn g (Ok (installed_app g now d)))) said
      ∙ left g (Ok (installed_app g now d)) lt

-- what is filled is the next version, where nothing was
pub filled_next : (g : ℕ) (v : Version) (contents : List (List Fresh)) (a : App) → a.states ≡ []
    → next_app (g + 1) 0 v None contents a ≡ filled_app g v.deployment contents
unfolding filled_app
filled_next g v contents a none =
    ap (λ (states : List State). record {
      says = (next_app (g + 1) 0 v None contents a).says;
      lacking = [];
      states =
          states;
    })
    (ap (λ (states : List State). made_states contents ++ states) none ∙ append-nil (made_states contents))

filled_initially : (g now : ℕ) (d : DeploymentData) → filled_app g d (initial_all now d) ≡ installed_app g now d
unfolding filled_app installed_app
filled_initially g now d = refl

-- with the initial contents it is what the row installs
pub filled_installs : (g now : ℕ) (d : DeploymentData) (contents : List (List Fresh)) → contents ≡ initial_all now d
    → filled_app g d contents ≡ installed_app g now d
filled_installs g now d contents are = ap (λ (cs : List (List Fresh)). filled_app g d cs) are
    ∙ filled_initially g now d

-- ---- over another root

pub over_bad : (now : ℕ) (text : List ℕ) → installing now text (root_app root.Bad [])
    ≡ Err (error.IntegrityCorrupted unit.Root)
unfolding installing
over_bad now text = refl

pub over_installed : (now : ℕ) (text : List ℕ) (i : Installed)
    → installing now text (root_app (root.Installed i) []) ≡ Err error.AlreadyInstalled
unfolding installing
over_installed now text i = refl
