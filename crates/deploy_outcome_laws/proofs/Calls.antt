-- What the clauses of a deployment exclude besides its rows.
use Rattle.std.specs.Prelude.{◌≡◌, ℕ, suc, List, [], ◌∷◌, length, Option, Some, None, Bool, true, cond}
use Rattle.std.specs.Prelude.{nat_lt, Result, Ok, Err, IsOk, IsErrOf}
use Rattle.std.proofs.Common.{sym, ap, ◌∙◌, subst, inl, arith}
use Rattle.std.proofs.lemmas.Bool.{lt-ltb}
use Rattle.per_base.specs.declared.errors.PerError.{PerError}
use Rattle.per_base.specs.declared.errors.PerError.TheVariants as error
use Rattle.disk_model.specs.Image.{Image}
use Rattle.disk_model.specs.Medium.{Medium}
use Rattle.element_state.specs.States.{State}
use Rattle.migrate_fns.specs.Rules.{Rule}
use Rattle.migrate_fns.specs.Rules as fns
use Rattle.deploy_laws.specs.Apps.{Says, nothing, absent, installed, App, app_at}
use Rattle.deploy_laws.specs.Places.{Named}
use Rattle.deploy_laws.specs.Refused.{RootTooEarly}
use Rattle.deploy_rows.specs.Rows.{AnswersRow, BeginsWith, InProgress, Offer, offered}
use Rattle.deploy.specs.declared.errors.Stop.{Stop}
use Rattle.deploy.specs.declared.updating.Begin.{Begin}
use Rattle.deploy.specs.Roots.{root_says}
use Rattle.deploy_outcome_laws.specs.Calls.{DueAllocates, LookMends, MadeAgain, MadeTwice, RefusalWrote, RefusedDone}
use Rattle.deploy_outcome_laws.specs.Calls.{RootFirst, RootStamped}

-- ---- what changes on a disk

no_copy : (copy : ℕ) (rest : List ℕ) → [] ≡ copy ∷ rest → ⊥
no_copy copy rest is = absurd cc

some_error : (e : PerError) (o : Option PerError) → o ≡ Some e → o ≡ None → ⊥
some_error e o some none = absurd cc

module _ {D : Type 0} (medium : D → Medium) where
  pub root_stamped : RootStamped medium
  root_stamped app generation text old new already alone less =
      let same = (already generation text alone).1 in omega (arith, same, less)

  pub look_mends : LookMends medium
  look_mends app copy rest old new image lacks none =
      no_copy copy rest (sym none ∙ ap (λ (i : Image). (app_at i app).lacking) image ∙ lacks)

  pub refusal_wrote : RefusalWrote medium
  refusal_wrote file root o e old new unchanged refused differs =
      differs (ap (λ (d : D). (medium d).image file) (unchanged (some_error e o.refused refused)).0)

  pub made_again : MadeAgain medium
  made_again told app bank built count file old new c leaves tells quiet since no_slot below differs =
      differs ((leaves.throughout tells quiet c since).full file (no_slot, inl below))

  pub root_first : RootTooEarly → RootFirst medium
  root_first too_early app number next old new c damaged image shape state stands quiet clean since sound decays is at
      not_kept other says =
      too_early app number image damaged (app_at (medium old).image app) next shape state is at not_kept says other
      (stands quiet clean c since sound damaged image decays)

-- ---- what is answered

abbrev app : Says → List ℕ → List State → App
app s lacking states = record { says = s; lacking = lacking; states = states }

abbrev unfinished : Named → PerError
unfinished previous = error.UpdateNotFinished previous.deployment.version

same_previous : (k g : ℕ) (v w p q : Named) → installed k v (Some p) ≡ installed g w (Some q) → p ≡ q
same_previous k g v w p q is = cc

not_offered : (busy : Option (List ℕ)) (manifest : List ℕ) (s : Says) (l : List ℕ) (xs : List State) (g : ℕ)
    (active previous : Named) → s ≡ installed g active (Some previous)
    → offered busy manifest (app s l xs) ≡ Err (unfinished previous)
unfolding offered
not_offered busy manifest nothing l xs g v p e = absurd cc
not_offered busy manifest (absent k) l xs g v p e = absurd cc
not_offered busy manifest (installed k u None) l xs g v p e = absurd cc
not_offered busy manifest (installed k u (Some q)) l xs g v p e =
    ap (λ (n : Named). Err (unfinished n)) (same_previous k g u v q p e)

ok_or_err : (r : Result Begin Stop) (e : Stop) → IsOk r → IsErrOf r e → ⊥
ok_or_err (Ok b) e ok err = absurd cc
ok_or_err (Err f) e ok err = absurd cc

pub due_wants_memory : DueAllocates
due_wants_memory busy manifest g v p root result due says err =
    ok_or_err result _ (due (unfinished p) (not_offered busy manifest (root_says root) [] [] g v p says) tt) err

not_done : (row : Result InProgress PerError) (e : PerError) → IsErrOf row e → AnswersRow None row → ⊥
not_done (Ok p) e err answered = absurd cc
not_done (Err f) e err answered = answered

pub refused_done : (rules : List Rule) (answers : fns.Answers) → RefusedDone rules answers
refused_done rules answers told now busy manifest app g old new v p root o updated says none =
    let begins = subst (λ (r : Result Offer PerError). BeginsWith rules answers now updated.states r updated.row)
    (not_offered busy manifest (root_says root) [] updated.states g v p says) updated.begins in
    not_done updated.row (unfinished p) begins
    (subst (λ (r : Option PerError). AnswersRow r updated.row) none updated.refused)

one_more_is : (n b : ℕ) (less : Bool) → less ≡ true → cond less (suc b) b ≡ suc b
one_more_is n b less is = ap (λ (t : Bool). cond t (suc b) b) is

pub made_twice : MadeTwice
made_twice before next is lt same =
    let less : nat_lt before.built (length before.contents) ≡ true = lt-ltb _ _ lt in
    let more : next.built ≡ suc before.built =
    ap (λ (p : InProgress). p.built) is ∙ one_more_is (length before.contents) before.built _ less in
    absurd (omega (arith, more, same))
