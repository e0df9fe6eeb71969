-- A disk that a call did not touch.
use Rattle.std.proofs.Common.{◌≡◌, ℕ, ◌<◌, Bool, Result, Ok, Err, refl}
use Rattle.per_base.specs.declared.errors.PerError.{PerError}
use Rattle.disk_model.specs.Frame.{IsSettledOn}
use Rattle.disk_model.specs.Laws.{goes_none}
use Rattle.disk_model.specs.Medium.{IsLawful, Medium}
use Rattle.disk_model.specs.lemmas.Frames.{settled_on}
use Rattle.deploy_laws.specs.Apps.{App, app_at}
use Rattle.deploy_laws.specs.Laws.{StillAppLaw}
use Rattle.deploy_laws.specs.Places.{IsFileOf}
use Rattle.deploy_laws.specs.Stands.{IsLater, StandsCase, StandsThroughout, same_root}
use Rattle.deploy_rows.specs.Rows.{after}
use Rattle.deploy.specs.Clauses.{Leaves}

-- what a row leads to, or the same, comes later
by_row : (a : App) (r : Result App PerError) → ((b : App) → r ≡ Ok b → IsLater a b) → IsLater a (after a r)
by_row a (Ok b) later = later b refl
by_row a (Err e) later = same_root refl refl

pub later_after : (row : App → Result App PerError) → ((a b : App) → row a ≡ Ok b → IsLater a b) → (a : App)
    → IsLater a (after a (row a))
later_after row later a = by_row a (row a) (later a)

module _ (told : Bool) (m : Medium) (law : IsLawful told m) where
  pub still_leaves : (Files : ℕ → Type 0) → Leaves told Files m m
  still_leaves Files = record {
    at_the_end = λ tells f in_them. refl;
    throughout = λ tells quiet. goes_none (IsSettledOn Files m.image) law
        (λ c now. settled_on Files (quiet c now));
  }

  pub still_stands : StillAppLaw → (app : ℕ) → app < 8 → (next : App) → IsLater (app_at m.image app) next
      → StandsThroughout app next m m
  still_stands still app lt next later quiet clean = goes_none (StandsCase app (app_at m.image app) next) law
      (λ c now. still app m.image next c lt clean (settled_on (IsFileOf app) (quiet c now)) later)
