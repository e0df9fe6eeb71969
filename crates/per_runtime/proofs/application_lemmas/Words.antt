-- Each call that is one row of a deployment, of an application at rest.
use Rattle.std.proofs.Common.{◌≡◌, ◌⊎◌, ℕ, List, Bool, true, IsTrue, Option, Some, None, is_ok, IsOk, Result, Ok, Err}
use Rattle.std.proofs.Common.{refl, sym, subst, inl, inr}
use Rattle.std.specs.Prelude.{⊤}
use Rattle.per_base.specs.declared.errors.Holder.TheVariants as holder
use Rattle.per_base.specs.declared.errors.PerError.{PerError}
use Rattle.per_base.specs.declared.errors.PerError.TheVariants as error
use Rattle.per_base.specs.declared.errors.Unit.TheVariants as unit
use Rattle.per_base.specs.Refusals.{CarriesText, NeedsMemory}
use Rattle.element_state.specs.States.{State}
use Rattle.disk_model.specs.Image.{Image}
use Rattle.command_text.specs.declared.calls.Call.TheVariants as call
use Rattle.deploy.specs.Refusals.{AllocatesNothing}
use Rattle.deploy_laws.specs.Apps.{App, Says, absent, installed, nothing}
use Rattle.deploy_rows.specs.Laws.{FinishLaterLaw, InstallLaterLaw, RefusesAlike, RollbackLaterLaw, WipeLaterLaw}
use Rattle.deploy_rows.specs.Rows.{finishing, installing, not_busy, rolling_back, wiping}
use Rattle.run_model.specs.Calls.{app_step, done_with, least_open, concluded}
use Rattle.run_model.specs.Converters.{Converters}
use Rattle.run_model.specs.Worlds.{Application}
use Rattle.per_runtime.specs.declared.storages.slots.OpenSlots.{OpenSlots}
use Rattle.per_runtime.specs.storages.Slots.{resting_with}
use Rattle.per_runtime.specs.application.Needs.{IsVacant}
use Rattle.per_runtime.proofs.application_lemmas.Plain.{finish_plain, install_plain, rollback_plain, wipe_plain}
use Rattle.per_runtime.proofs.application_lemmas.Rowed.{IsWord}

done_ok : (r : Application) (row : Result App PerError) → IsOk row → is_ok (done_with r row) ≡ true
done_ok r (Ok b) is = refl
done_ok r (Err e) is = is

-- ---- refusals that need memory

-- a refusal with names or texts
pub refused_needs : (r : Application) (row : Result App PerError) (e : PerError) → row ≡ Err e → CarriesText e
    → NeedsMemory (done_with r row)
refused_needs r row e is carries = subst (λ (x : Result App PerError). NeedsMemory (done_with r x)) (sym is) carries

-- an install that is refused after its manifest was read is one where nothing is installed
installs_there : (now : ℕ) (text : List ℕ) (a : App) (e : PerError) → installing now text a ≡ Err e
    → (AllocatesNothing e → ⊥) → IsVacant a.says
unfolding installing
installs_there now text a e is late = by a.says a.lacking a.states is
  where
    by : (says : Says) (lacking : List ℕ) (states : List State)
        → installing now text (record { says = says; lacking = lacking; states = states }) ≡ Err e → IsVacant says
    by nothing lacking states is = absurd (late (let same : error.IntegrityCorrupted unit.Root ≡ e = cc in
        subst AllocatesNothing same tt))
    by (absent g) lacking states is = tt
    by (installed g active previous) lacking states is = absurd (late
        (let same : error.AlreadyInstalled ≡ e = cc in subst AllocatesNothing same tt))

-- what an open storage holds up is refused with its name
busy_carries : {A : Type 0} (busy : Option (List ℕ)) (rest : Result A PerError) (e : PerError) → not_busy busy rest
    ≡ Err e
    → (busy ≡ None → ⊥) → CarriesText e
busy_carries None rest e is some = absurd (some refl)
busy_carries (Some name) rest e is some =
    let same : error.ResourceBusy (holder.Storage name) ≡ e = cc in subst CarriesText same tt

held_back : (busy : Option (List ℕ)) (a : App) (e : PerError) → rolling_back busy a ≡ Err e
    → (AllocatesNothing e ⊎ (busy ≡ None) → ⊥) → CarriesText e
unfolding rolling_back
held_back busy a e is late = by a.says a.lacking a.states is
  where
    early : (x : PerError) → AllocatesNothing x → x ≡ e → CarriesText e
    early x none same = absurd (late (inl (subst AllocatesNothing same none)))

    by : (says : Says) (lacking : List ℕ) (states : List State)
        → rolling_back busy (record { says = says; lacking = lacking; states = states }) ≡ Err e → CarriesText e
    by nothing lacking states is = early (error.IntegrityCorrupted unit.Root) tt cc
    by (absent g) lacking states is = early error.NotInstalled tt cc
    by (installed g active None) lacking states is = early error.NoPreviousVersion tt cc
    by (installed g active (Some previous)) lacking states is = busy_carries busy _ e is (λ none. late (inr none))

held_up : (busy : Option (List ℕ)) (a : App) (e : PerError) → wiping busy a ≡ Err e → (busy ≡ None → ⊥) → CarriesText e
unfolding wiping
held_up busy a e is some = busy_carries busy _ e is some

module _ (told : Bool) (converters : Converters) (app now : ℕ) (image : Image) (slots : OpenSlots) where
  abbrev r : Application
  r = resting_with image app slots

  pub install_word : (text : List ℕ) → RefusesAlike (installing now text) → InstallLaterLaw
      → IsWord told converters app now (call.Install text) r (installing now text) AllocatesNothing
  unfolding app_step
  install_word text alike later = record {
    alike = alike;
    plain = install_plain now text;
    later = later now text;
    has_row = λ tells o is. is;
    reaches = λ tells is. done_ok r (installing now text r.disk) is;
    wants = λ tells e is due. inr (installs_there now text r.disk e is due);
    no_storage = refl;
    not_durable = refl;
    no_plan = refl;
    uses = refl;
  }

  pub finish_word : RefusesAlike finishing → FinishLaterLaw
      → IsWord told converters app now call.Finish r finishing (λ e. ⊤)
  unfolding app_step
  finish_word alike later = record {
    alike = alike;
    plain = finish_plain;
    later = later;
    has_row = λ tells o is. is;
    reaches = λ tells is. done_ok r (finishing r.disk) is;
    wants = λ tells e is due. absurd (due tt);
    no_storage = refl;
    not_durable = refl;
    no_plan = refl;
    uses = refl;
  }

  module _ (busy : Option (List ℕ)) (busy_is : IsTrue told → busy ≡ least_open r) where
    pub rollback_word : RefusesAlike (rolling_back busy) → RollbackLaterLaw
        → IsWord told converters app now call.Rollback r (rolling_back busy)
        (λ e. AllocatesNothing e ⊎ (busy ≡ None))
    unfolding app_step
    rollback_word alike later = record {
      alike = alike;
      plain = rollback_plain busy;
      later = later busy;
      has_row = λ tells o is. subst (λ (b : Option (List ℕ)). o ≡ concluded r (done_with r (rolling_back b r.disk)))
          (busy_is tells) is;
      reaches = λ tells is. done_ok r (rolling_back (least_open r) r.disk)
          (subst (λ (b : Option (List ℕ)). IsOk (rolling_back b r.disk)) (busy_is tells) is);
      wants = λ tells e is due. inl (inr (refused_needs r (rolling_back (least_open r) r.disk) e
          (subst (λ (b : Option (List ℕ)). rolling_back b r.disk ≡ Err e) (busy_is tells) is)
          (held_back busy r.disk e is due)));
      no_storage = refl;
      not_durable = refl;
      no_plan = refl;
      uses = refl;
    }

    pub wipe_word : RefusesAlike (wiping busy) → WipeLaterLaw
        → IsWord told converters app now call.Wipe r (wiping busy) (λ e. busy ≡ None)
    unfolding app_step
    wipe_word alike later = record {
      alike = alike;
      plain = wipe_plain busy;
      later = later busy;
      has_row = λ tells o is. subst (λ (b : Option (List ℕ)). o ≡ concluded r (done_with r (wiping b r.disk)))
          (busy_is tells) is;
      reaches = λ tells is. done_ok r (wiping (least_open r) r.disk)
          (subst (λ (b : Option (List ℕ)). IsOk (wiping b r.disk)) (busy_is tells) is);
      wants = λ tells e is due. inl (inr (refused_needs r (wiping (least_open r) r.disk) e
          (subst (λ (b : Option (List ℕ)). wiping b r.disk ≡ Err e) (busy_is tells) is)
          (held_up busy r.disk e is due)));
      no_storage = refl;
      not_durable = refl;
      no_plan = refl;
      uses = refl;
    }
