-- An update in one call: the row that it answers, and where it may lead.
use Rattle.std.specs.Prelude.{◌≡◌, ℕ, List, Bool, IsTrue, Result, OnOk}
use Rattle.per_base.specs.declared.errors.PerError.{PerError}
use Rattle.disk_model.specs.Image.{Image}
use Rattle.disk_model.specs.Medium.{Medium}
use Rattle.element_state.specs.States.{State}
use Rattle.deploy_laws.specs.Apps.{App, app_at}
use Rattle.deploy_laws.specs.Stands.{StandsThroughout}
use Rattle.deploy_rows.specs.Rows.{AnswersRow, InProgress, after, updated_row}
use Rattle.deploy.specs.declared.roots.Outcome.{Outcome}
use Rattle.deploy.specs.declared.roots.Root.{Root}
use Rattle.deploy.specs.Roots.{root_app, root_says}

-- an update over this root answers one of its rows: that row's refusal, or the application to which the row leads
pub record IsUpdated (told : Bool) (Rows : App → Result InProgress PerError → Type 0) (app : ℕ) (old new : Image)
    (root : Root) (o : Outcome) : Type 0 where
  -- what the storages hold, and how the update begins over it
  pub states : List State
  pub row : Result InProgress PerError
  pub theirs : IsTrue told → (app_at old app).states ≡ states
  pub begins : Rows (root_app root states) row
  -- the answer, what the root says at the end, and the application
  pub refused : AnswersRow o.refused row
  pub says : root_says o.root ≡ (after (root_app root states) (updated_row (root_app root states) row)).says
  pub leads : IsTrue told → app_at new app ≡ after (app_at old app) (updated_row (app_at old app) row)

-- at every moment of a call the application stands between what it was and one other, to which the call may lead; the
-- call's end, where it ends well, is that one
pub record LeadsTo {T E : Type 0} (app : ℕ) (May : App → Type 0) (result : Result T E) (old new : Medium) : Type 0 where
  pub next : App
  pub may : May next
  pub throughout : StandsThroughout app next old new
  pub at_the_end : OnOk result (app_at new.image app ≡ next)
