-- What a call on a root answers, by its row, where the root is in use.
use Rattle.std.proofs.Common.{◌≡◌, ℕ, List, [], Bool, IsTrue, Option, Some, None, Result, Ok, Err, IfErr, IfOk, OnOk}
use Rattle.std.proofs.Common.{IsOk, refl, sym, ap, ◌∙◌, subst}
use Rattle.per_base.specs.declared.errors.PerError.{PerError}
use Rattle.disk_model.specs.Image.{Image}
use Rattle.disk_model.specs.Medium.{Medium}
use Rattle.guarded_cell.specs.declared.cell.Cell.{Cell}
use Rattle.deploy_laws.specs.Apps.{App, AreClean, IsCleanApp, Says, app_at, app_saying, says_at, shapes_named}
use Rattle.deploy_laws.specs.Laws.{AloneLaw}
use Rattle.deploy_laws.specs.Stands.{StandsThroughout}
use Rattle.deploy_rows.specs.Laws.{RefusesAlike, SaysAlike}
use Rattle.deploy_rows.specs.Rows.{AnswersRow, after}
use Rattle.deploy.specs.declared.errors.Stop.{Stop}
use Rattle.deploy.specs.declared.roots.Outcome.{Outcome}
use Rattle.deploy.specs.declared.roots.Root.{Root}
use Rattle.deploy.specs.Leaving.{IfRegister, IsRegisterAt, IsRootRefused, LeadsToRoot}
use Rattle.deploy.specs.Roots.{RootAt, root_app, root_says, root_texts}
use Rattle.deploy.proofs.InUse.{AgainLaw, in_use, in_use_says}

pub if_ok : {T E : Type 0} (P Q : T → Type 0) (r : Result T E) → ((x : T) → P x → Q x) → IfOk r P → IfOk r Q
if_ok P Q (Ok x) less is = less x is
if_ok P Q (Err e) less is = tt

pub ok_of : {T E : Type 0} (P : T → Type 0) (r : Result T E) (x : T) → r ≡ Ok x → IfOk r P → P x
ok_of {T} {E} P r x is found = subst (λ (s : Result T E). IfOk s P) is found

pub err_of : {T E : Type 0} (P : E → Type 0) (r : Result T E) (e : E) → r ≡ Err e → IfErr r P → P e
err_of {T} {E} P r e is found = subst (λ (s : Result T E). IfErr s P) is found

answers_err : (refused : Option PerError) (r : Result App PerError) (e : PerError) → refused ≡ Some e → r ≡ Err e
    → AnswersRow refused r
answers_err refused r e is row = subst (λ (o : Option PerError). AnswersRow o r) (sym is)
    (subst (λ (s : Result App PerError). AnswersRow (Some e) s) (sym row) refl)

answers_ok : (refused : Option PerError) (r : Result App PerError) (x : App) → refused ≡ None → r ≡ Ok x
    → AnswersRow refused r
answers_ok refused r x is row = subst (λ (o : Option PerError). AnswersRow o r) (sym is)
    (subst (λ (s : Result App PerError). AnswersRow None s) (sym row) tt)

-- ---- the root on the disk

module _ (again : AgainLaw) (alone : AloneLaw) (told : Bool) (image : Image) (app : ℕ) (root : Root)
    (at : RootAt told image app root) (tells : IsTrue told) where
  pub app_is : app_at image app ≡ app_saying image app (root_says root)
  app_is = in_use again alone image app root at.memory (at.disk tells)

  pub says_is : says_at image app ≡ root_says root
  says_is = in_use_says again alone image app root at.memory (at.disk tells)

  pub named_clean : IsCleanApp app image → AreClean image (shapes_named app (root_says root))
  named_clean clean = subst (λ (s : Says). AreClean image (shapes_named app s)) says_is clean.storages

-- its register, which a bad root has not
pub register_at : AgainLaw → AloneLaw → (told : Bool) (image : Image) (app : ℕ) (root : Root) (cell : Option Cell)
    → RootAt told image app root → IfRegister root cell
    → IsRegisterAt told image app cell
register_at again alone told image app root None at bad =
    λ tells. says_is again alone told image app root at tells ∙ bad
register_at again alone told image app root (Some cell) at is =
    (is.of_root app at.memory, is.left, λ tells. is.held image app (at.disk tells))

-- ---- a call that is refused

module _ (row : App → Result App PerError) (root : Root) (o : Outcome) (refused : IsRootRefused row root o) where
  pub refused_root : (told : Bool) (image : Image) (app : ℕ) → RootAt told image app root → RootAt told image app o.root
  refused_root told image app at = subst (λ (r : Root). RootAt told image app r) (sym refused.same) at

  pub refused_answers : AnswersRow o.refused (row (root_app root []))
  refused_answers = answers_err o.refused (row (root_app root [])) refused.refusal.0 refused.refusal.1 refused.refusal.2

  pub refused_says : root_says o.root ≡ (after (root_app root []) (row (root_app root []))).says
  refused_says = ap root_says refused.same ∙ sym (ap (λ (r : Result App PerError). (after (root_app root []) r).says)
      refused.refusal.2)

  pub refused_some : o.refused ≡ None → ⊥
  refused_some none = let some = refused.refusal.1 in absurd cc

  pub refused_text : (texts : List (List ℕ)) → o.refused ≡ None → root_texts o.root ≡ texts
  refused_text texts none = absurd (refused_some none)

  pub refused_app : RefusesAlike row → AgainLaw → AloneLaw → (told : Bool) (image : Image) (app : ℕ)
      → RootAt told image app root → IsTrue told
      → app_at image app ≡ after (app_at image app) (row (app_at image app))
  refused_app alike again alone told image app at tells =
      sym (ap (λ (r : Result App PerError). after (app_at image app) r)
      (alike (root_app root []) (app_at image app) refused.refusal.0
      (sym (ap (λ (a : App). a.says) (app_is again alone told image app root at tells))) refused.refusal.2))

-- ---- a call that leads to the next root

pub led_text : (result : Result Outcome Stop) (written next : List (List ℕ))
    → IfOk result (λ o. root_texts o.root ≡ written) → written ≡ next
    → IfOk result (λ o. o.refused ≡ None → root_texts o.root ≡ next)
led_text result written next is so = if_ok (λ (o : Outcome). root_texts o.root ≡ written)
    (λ (o : Outcome). o.refused ≡ None → root_texts o.root ≡ next) result
    (λ o holds none. holds ∙ so) is

module _ (row : App → Result App PerError) (alike : RefusesAlike row) (so_said : SaysAlike row) (root : Root)
    (next : Says) (leads : LeadsToRoot row (root_says root) next) where
  in_memory : (r : Result App PerError) → row (root_app root []) ≡ r → (x : App) × (r ≡ Ok x) × (x.says ≡ next)
  in_memory (Ok x) so = (
    x,
    refl,
    sym (ap (λ (r : Result App PerError). (after (root_app root []) r).says) so)
        ∙ so_said (root_app root []) (app_saying (λ f. []) 0 (root_says root)) refl
        ∙ ap (λ (r : Result App PerError). (after (app_saying (λ f. []) 0 (root_says root)) r).says)
        (leads.row_is (λ f. []) 0),
  )
  in_memory (Err e) so = absurd (
      let err = alike (root_app root []) (app_saying (λ f. []) 0 (root_says root)) e refl so in
      let ok = leads.row_is (λ f. []) 0 in
      cc)

  pub led : (x : App) × (row (root_app root []) ≡ Ok x) × (x.says ≡ next)
  led = in_memory (row (root_app root [])) refl

  pub not_refused : (e : PerError) → row (root_app root []) ≡ Err e → ⊥
  not_refused e err = let ok = led.1 in absurd cc

  pub led_ok : IsOk (row (root_app root []))
  led_ok = subst (λ (r : Result App PerError). IsOk r) (sym led.1) refl

  pub led_answers : (result : Result Outcome Stop) → IfOk result (λ o. o.refused ≡ None)
      → IfOk result (λ o. AnswersRow o.refused (row (root_app root [])))
  led_answers result done = if_ok (λ (o : Outcome). o.refused ≡ None)
      (λ (o : Outcome). AnswersRow o.refused (row (root_app root []))) result
      (λ o none. answers_ok o.refused (row (root_app root [])) led.0 none led.1) done

  pub led_says : (result : Result Outcome Stop) → IfOk result (λ o. root_says o.root ≡ next)
      → IfOk result (λ o. root_says o.root ≡ (after (root_app root []) (row (root_app root []))).says)
  led_says result said = if_ok (λ (o : Outcome). root_says o.root ≡ next)
      (λ (o : Outcome). root_says o.root ≡ (after (root_app root []) (row (root_app root []))).says) result
      (λ o so. so ∙ sym led.2 ∙ sym (ap (λ (r : Result App PerError). (after (root_app root []) r).says) led.1)) said

  pub led_unchanged : (result : Result Outcome Stop) (Same : Outcome → Type 0) → IfOk result (λ o. o.refused ≡ None)
      → IfOk result (λ o. (o.refused ≡ None → ⊥) → Same o)
  led_unchanged result Same done = if_ok (λ (o : Outcome). o.refused ≡ None)
      (λ (o : Outcome). (o.refused ≡ None → ⊥) → Same o) result
      (λ o none refused. absurd (refused none)) done

  module _ (again : AgainLaw) (alone : AloneLaw) (told : Bool) (image : Image) (app : ℕ)
      (at : RootAt told image app root) (tells : IsTrue told) where
    pub after_is : after (app_at image app) (row (app_at image app)) ≡ app_saying image app next
    after_is = ap (λ (a : App). after a (row a)) (app_is again alone told image app root at tells)
        ∙ ap (λ (r : Result App PerError). after (app_saying image app (root_says root)) r) (leads.row_is image app)

    pub led_app : (result : Result Outcome Stop) (new : Image)
        → OnOk result (app_at new app ≡ app_saying image app next)
        → OnOk result (app_at new app ≡ after (app_at image app) (row (app_at image app)))
    led_app result new on = if_ok (λ (o : Outcome). app_at new app ≡ app_saying image app next)
        (λ (o : Outcome). app_at new app ≡ after (app_at image app) (row (app_at image app))) result
        (λ o so. so ∙ sym after_is) on

    pub next_clean : IsCleanApp app image → AreClean image (shapes_named app next)
    next_clean clean = leads.clean image app (named_clean again alone told image app root at tells clean)

  pub led_stands : AgainLaw → AloneLaw → (told : Bool) (app : ℕ) (old new : Medium) → RootAt told old.image app root
      → IsTrue told
      → (AreClean old.image (shapes_named app next) → StandsThroughout app (app_saying old.image app next) old new)
      → StandsThroughout app (after (app_at old.image app) (row (app_at old.image app))) old new
  led_stands again alone told app old new at tells stands quiet clean =
      subst (λ (a : App). StandsThroughout app a old new) (sym (after_is again alone told old.image app at tells))
      (stands (next_clean again alone told old.image app at tells clean)) quiet clean
