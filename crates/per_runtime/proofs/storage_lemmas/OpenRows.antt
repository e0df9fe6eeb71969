-- The row of an opening.
use Rattle.std.proofs.Common.{◌≡◌, ℕ, List, Bool, true, false, refl, ap, ◌∙◌}
use Rattle.std.specs.Prelude.{IsTrue, Some, None, Result, Ok, Err, is_none, is_ok, is_some}
use Rattle.per_base.specs.declared.elements.StoreKind.{StoreKind}
use Rattle.per_base.specs.declared.elements.StoreKind.TheVariants.{Keys, Files}
use Rattle.per_base.specs.declared.errors.Holder.TheVariants as holder
use Rattle.per_base.specs.declared.errors.PerError.{PerError}
use Rattle.per_base.specs.declared.errors.PerError.TheVariants as error
use Rattle.per_base.specs.Refusals.{refuse}
use Rattle.deploy_laws.specs.Apps.{App}
use Rattle.deploy_rows.specs.Rows.{◌>>=◌}
use Rattle.run_model.specs.Calls.{Outcome, app_step, beside_update, open_step, session_at, storage_opened, unless_open}
use Rattle.run_model.specs.Found.{FoundStorage, storage_in}
use Rattle.run_model.specs.Runtimes.{is_durable}
use Rattle.run_model.specs.Steps.{found_named, passes_refusals, reaches_device, uses_device}
use Rattle.run_model.specs.Worlds.{Application, Stage, at_rest, update_in}
use Rattle.per_runtime.specs.storages.Openings.{open_call}
use Rattle.std.proofs.Common.{◌&&◌}

open_is : (app now : ℕ) (r : Application) (kind : StoreKind) (name : List ℕ)
    → app_step app r now (open_call kind name) ≡ open_step app r name kind
unfolding app_step
open_is app now r Keys name = refl
open_is app now r Files name = refl

-- it calls its device, and makes nothing durable
pub open_uses : (a : App) (kind : StoreKind) (name : List ℕ) → uses_device a (open_call kind name) ≡ true
open_uses a Keys name = refl
open_uses a Files name = refl

pub open_not_durable : (kind : StoreKind) (name : List ℕ) → is_durable (open_call kind name) ≡ false
open_not_durable Keys name = refl
open_not_durable Files name = refl

open_goes : (app now : ℕ) (r : Application) (kind : StoreKind) (name : List ℕ)
    → passes_refusals app r now (open_call kind name) ≡ is_ok (app_step app r now (open_call kind name))
open_goes app now r Keys name = refl
open_goes app now r Files name = refl

pub open_named : (r : Application) (kind : StoreKind) (name : List ℕ)
    → found_named r (open_call kind name) ≡ Some (storage_in r.disk name None)
open_named r Keys name = refl
open_named r Files name = refl

module _ (app now : ℕ) (r : Application) (kind : StoreKind) (name : List ℕ) where
  pub open_not_found : (e : PerError) → storage_in r.disk name (Some kind) ≡ Err e
      → app_step app r now (open_call kind name) ≡ Err e
  unfolding open_step
  open_not_found e is = open_is app now r kind name ∙ ap
      (λ (row : Result FoundStorage PerError). row >>= λ f. unless_open r f (Ok (storage_opened app r f f.state))) is

  module _ (f : FoundStorage) (found : storage_in r.disk name (Some kind) ≡ Ok f) where
    open_found : app_step app r now (open_call kind name) ≡ unless_open r f (Ok (storage_opened app r f f.state))
    unfolding open_step
    open_found = open_is app now r kind name ∙ ap (λ (row : Result FoundStorage PerError). row >>= λ g.
        unless_open r g (Ok (storage_opened app r g g.state))) found

    pub open_busy : is_some (session_at r f.number) ≡ true
        → app_step app r now (open_call kind name) ≡ Err (error.ResourceBusy (holder.Storage f.config.name))
    open_busy there = open_found ∙ ap (λ (b : Bool). refuse b (error.ResourceBusy (holder.Storage f.config.name))
        (Ok (storage_opened app r f f.state))) there

    pub open_row : is_some (session_at r f.number) ≡ false
        → app_step app r now (open_call kind name) ≡ Ok (storage_opened app r f f.state)
    open_row closed = open_found ∙ ap (λ (b : Bool). refuse b (error.ResourceBusy (holder.Storage f.config.name))
        (Ok (storage_opened app r f f.state))) closed

  pub open_reaches : (x : Outcome) → r.stage ≡ at_rest → app_step app r now (open_call kind name) ≡ Ok x
      → IsTrue (reaches_device app r now (open_call kind name))
  open_reaches x rests row = ap (λ (b : Bool). b && is_none (beside_update (update_in r.stage) (open_call kind name))
      && passes_refusals app r now (open_call kind name)) (open_uses r.disk kind name)
      ∙ (ap (λ (stage : Stage). is_none (beside_update (update_in stage) (open_call kind name))
      && passes_refusals app r now (open_call kind name)) rests
      ∙ (open_goes app now r kind name ∙ ap is_ok row))
