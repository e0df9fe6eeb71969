-- A root in use is written: what a stop at each moment leaves of the application.
use Rattle.std.proofs.Common.{◌≡◌, ℕ, ◌+◌, ◌<◌, List, Some}
use Rattle.disk_model.specs.Medium.{EachCase, Medium}
use Rattle.guarded_cell.specs.Register.{IsAlone}
use Rattle.guarded_cell.specs.Stops.{PutStops}
use Rattle.root_text.specs.RootText.{IsRoot, root_text}
use Rattle.root_text.specs.RootText as text
use Rattle.deploy_laws.specs.Apps.{App, AreOn, IsCleanApp, app_at, says_by, shapes_named}
use Rattle.deploy_laws.specs.Laws.{WritingLaw}
use Rattle.deploy_laws.specs.Places.{root_place}
use Rattle.deploy_laws.specs.Stands.{StandsCase}
use Rattle.deploy.proofs.InUse.{AgainLaw}

module _ (again : AgainLaw) (writing : WritingLaw) (app g : ℕ) (r : text.Root) (t : List ℕ) (lt : app < 8)
    (is : IsRoot r) (after : App)
    (says : after.says ≡ says_by (g + 1) (Some r)) where
  pub write_stands : (old new : Medium) → IsCleanApp app old.image → IsAlone old.image (root_place app) g t
      → AreOn old.image (shapes_named app after.says) after.states
      → EachCase (PutStops (root_place app) (g + 1) (root_text r) old.image) old new
      → EachCase (StandsCase app (app_at old.image app) after) old new
  write_stands old new clean held on puts c past =
      writing app g t (root_text r) r old.image after c lt clean held (again r is) says on (puts c past)
