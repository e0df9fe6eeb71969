-- A call that was refused, or that stopped before any call of the disk: the application stands as it was.
use Rattle.std.proofs.Common.{◌≡◌, ℕ, ◌<◌, [], Bool, IsTrue, Some, refl, sym, ap, ◌∙◌, subst}
use Rattle.std.specs.Prelude.{IsOk, Option, None, Result, Ok, Err}
use Rattle.per_base.specs.declared.errors.PerError.{PerError}
use Rattle.disk_model.specs.Image.{Image}
use Rattle.disk_model.specs.Laws.{goes_none}
use Rattle.disk_model.specs.Medium.{IsLawful, Medium}
use Rattle.disk_model.specs.lemmas.Frames.{settled_on}
use Rattle.deploy_laws.specs.Apps.{App, app_at}
use Rattle.deploy_laws.specs.Laws.{AloneLaw, StillAppLaw}
use Rattle.deploy_laws.specs.Places.{IsFileOf}
use Rattle.deploy_laws.specs.Stands.{IsLater, StandsCase, StandsThroughout, same_root}
use Rattle.deploy_rows.specs.Laws.{RefusesAlike}
use Rattle.deploy_rows.specs.Rows.{AnswersRow, after}
use Rattle.deploy.specs.declared.roots.Outcome.{Outcome}
use Rattle.deploy.specs.declared.roots.Root.{Root}
use Rattle.deploy.specs.Roots.{RootAt, root_app, root_says}
use Rattle.deploy.proofs.InUse.{AgainLaw, app_says, in_use_says}

-- ---- a refusal

module _ (row : App → Result App PerError) (e : PerError) where
  pub refused : (a : App) → row a ≡ Err e → AnswersRow (Some e) (row a)
  refused a refusal = subst (λ (r : Result App PerError). AnswersRow (Some e) r) (sym refusal) refl

  pub same_after : (a : App) → row a ≡ Err e → a ≡ after a (row a)
  same_after a refusal = ap (λ (r : Result App PerError). after a r) (sym refusal)

  pub says_after : (root : Root) → row (root_app root []) ≡ Err e
      → root_says root ≡ (after (root_app root []) (row (root_app root []))).says
  says_after root refusal = ap (λ (a : App). a.says) (same_after (root_app root []) refusal)

  -- what is refused by the root in memory is so by what the disk says
  pub app_after : AgainLaw → AloneLaw → RefusesAlike row → (told : Bool) (image : Image) (app : ℕ) (root : Root)
      → RootAt told image app root
      → row (root_app root []) ≡ Err e → IsTrue told → app_at image app
      ≡ after (app_at image app) (row (app_at image app))
  app_after again alone alike told image app root at refusal tells = same_after (app_at image app)
      (alike (root_app root []) (app_at image app) e (sym
      (app_says image app ∙ in_use_says again alone image app root at.memory (at.disk tells))) refusal)

-- as a call answers it: the root is handed back
module _ (row : App → Result App PerError) (e : PerError) (r given : Root) (o : Outcome) (same : given ≡ r)
    (is : o ≡ record { root = r; refused = Some e })
    (refusal : row (root_app r []) ≡ Err e) where
  pub row_given : row (root_app given []) ≡ Err e
  row_given = ap (λ (x : Root). row (root_app x [])) same ∙ refusal

  pub answered : AnswersRow o.refused (row (root_app given []))
  answered = subst (λ (x : Outcome). AnswersRow x.refused (row (root_app given []))) (sym is)
      (refused row e (root_app given []) row_given)

  pub says_still : root_says o.root ≡ (after (root_app given []) (row (root_app given []))).says
  says_still = ap (λ (x : Outcome). root_says x.root) is ∙ ap root_says (sym same) ∙ says_after row e given row_given

  pub in_use_still : (told : Bool) (image : Image) (app : ℕ) → RootAt told image app given
      → RootAt told image app o.root
  in_use_still told image app at = subst (λ (x : Outcome). RootAt told image app x.root) (sym is)
      (subst (λ (x : Root). RootAt told image app x) same at)

  pub handed_back : o.root ≡ given
  handed_back = ap (λ (x : Outcome). x.root) is ∙ sym same

-- ---- every moment

pub later_after : (a : App) (r : Result App PerError) → ((b : App) → r ≡ Ok b → IsLater a b) → IsLater a (after a r)
later_after a (Ok b) leads = leads b refl
later_after a (Err e) leads = same_root refl refl

-- where nothing was done, the application stands on its way to whatever may come of it
pub stands_still : StillAppLaw → (told : Bool) (app : ℕ) (m : Medium) (next : App) → IsLawful told m → app < 8
    → IsLater (app_at m.image app) next
    → StandsThroughout app next m m
stands_still still told app m next law lt later quiet clean = goes_none (StandsCase app (app_at m.image app) next) law
    (λ c now. still app m.image next c lt clean (settled_on (IsFileOf app) (quiet c now)) later)

-- ---- a call that its row leads on

pub led_answers : (o : Option PerError) (r : Result App PerError) (b : App) → o ≡ None → r ≡ Ok b → AnswersRow o r
led_answers o r b none is = subst (λ (p : Option PerError). AnswersRow p r) (sym none)
    (subst (λ (s : Result App PerError). AnswersRow None s) (sym is) tt)

pub led_after : (a b : App) (r : Result App PerError) → r ≡ Ok b → b ≡ after a r
led_after a b r is = ap (λ (s : Result App PerError). after a s) (sym is)

pub led_never_refused : {P : Type 0} (b : App) (r : Result App PerError) (e : PerError) → r ≡ Ok b → r ≡ Err e → P
led_never_refused b r e is refusal = cc

pub led_is_ok : (b : App) (r : Result App PerError) → r ≡ Ok b → IsOk r
led_is_ok b r is = subst (λ (s : Result App PerError). IsOk s) (sym is) refl
