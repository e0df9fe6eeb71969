-- A call that only reads: the application stands as it was, at every moment of it.
use Rattle.std.proofs.Common.{◌≡◌, ℕ, ◌<◌, List, [], Bool, refl}
use Rattle.std.specs.Prelude.{IfOk, Option, Result, Err}
use Rattle.per_base.specs.declared.errors.PerError.{PerError}
use Rattle.per_base.specs.declared.errors.PerError.TheVariants as error
use Rattle.per_base.specs.declared.errors.Unit.TheVariants as unit
use Rattle.disk_model.specs.Laws.{goes_none}
use Rattle.disk_model.specs.Medium.{IsIdle, IsLawful, Medium, Quiet}
use Rattle.disk_model.specs.lemmas.Frames.{settled_on}
use Rattle.element_state.specs.States.{State}
use Rattle.guarded_cell.specs.declared.cell.Cell.{Cell}
use Rattle.migrate_fns.specs.Rules.{Rule}
use Rattle.migrate_fns.specs.Rules as fns
use Rattle.deploy_laws.specs.Apps.{app_at}
use Rattle.deploy_laws.specs.Laws.{UntouchedAppLaw}
use Rattle.deploy_laws.specs.Places.{IsFileOf}
use Rattle.deploy_laws.specs.Stands.{StandsCase, StandsThroughout}
use Rattle.deploy_rows.specs.Rows.{BeginsUpdate, BeginsWith, Offer, offered}
use Rattle.deploy.specs.declared.errors.Stop.{Stop}
use Rattle.deploy.specs.declared.roots.Root.{Root}
use Rattle.deploy.specs.declared.roots.Root.TheVariants as root
use Rattle.deploy.specs.declared.updating.Begin.{Begin}
use Rattle.deploy.specs.Building.{begun_as}
use Rattle.deploy.specs.Roots.{root_app}
use Rattle.deploy.proofs.FirstVersion.{if_ok}
use Rattle.deploy.proofs.Offers.{begins_by}

pub stands_reading : UntouchedAppLaw → (app : ℕ) (old new : Medium) → app < 8 → (Quiet old → IsIdle old new)
    → StandsThroughout app (app_at old.image app) old new
stands_reading untouched app old new lt idle quiet clean c past =
    untouched app old.image c lt clean (settled_on (IsFileOf app) ((idle quiet).during c past))

-- and so it does where nothing was done
pub stands_unread : UntouchedAppLaw → (told : Bool) (app : ℕ) (m : Medium) → IsLawful told m → app < 8
    → StandsThroughout app (app_at m.image app) m m
stands_unread untouched told app m law lt quiet clean =
    goes_none (StandsCase app (app_at m.image app) (app_at m.image app)) law
    (λ c now. untouched app m.image c lt clean (settled_on (IsFileOf app) (quiet c now)))

-- ---- an offer over a root without a version

pub offered_bad : (busy : Option (List ℕ)) (text : List ℕ)
    → offered busy text (root_app root.Bad []) ≡ Err (error.IntegrityCorrupted unit.Root)
unfolding offered
offered_bad busy text = refl

pub offered_absent : (busy : Option (List ℕ)) (text : List ℕ) (cell : Cell)
    → offered busy text (root_app (root.Absent cell) []) ≡ Err error.NotInstalled
unfolding offered
offered_absent busy text cell = refl

-- ---- what begins over a root

module _ (rules : List Rule) (answers : fns.Answers) (now : ℕ) (busy : Option (List ℕ)) (text : List ℕ) (r : Root)
    (Theirs : List State → Type 0) where
  -- it is what begins with the row's offer
  pub begins_over : (row : Result Offer PerError) → offered busy text (root_app r []) ≡ row
      → (result : Result Begin Stop)
      → IfOk result (λ b. (states : List State) × Theirs states × BeginsWith rules answers now states row (begun_as b))
      → IfOk result (λ b. (states : List State) × Theirs states
      × BeginsUpdate rules answers now busy text (root_app r states) (begun_as b))
  begins_over row is result = if_ok result
      (λ (b : Begin). (states : List State) × Theirs states × BeginsWith rules answers now states row (begun_as b))
      (λ (b : Begin). (states : List State) × Theirs states
      × BeginsUpdate rules answers now busy text (root_app r states) (begun_as b))
      (λ b begins. (begins.0, begins.1, begins_by rules answers now busy text r begins.0 (begun_as b) row is begins.2))

  -- or its refusal
  pub begins_not : (e : PerError) → offered busy text (root_app r []) ≡ Err e → (states : List State) → Theirs states
      → (some : List State) × Theirs some × BeginsUpdate rules answers now busy text (root_app r some) (Err e)
  begins_not e is states theirs = (
    states,
    theirs,
    begins_by rules answers now busy text r states (Err e) (Err e) is
        refl,
  )
