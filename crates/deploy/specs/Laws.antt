-- A root in use and an update in progress: what the image says of the application, and what leaves them in use. The
-- statements of the laws.
use Rattle.std.specs.Prelude.{◌≡◌, ◌<◌, ◌+◌, ◌≤◌, ℕ, ◌∷◌, List, [], length, None, Some, Bool, IsTrue}
use Rattle.disk_model.specs.Frame.{Spares}
use Rattle.disk_model.specs.Image.{Image}
use Rattle.root_text.specs.RootText.{Version, root_text}
use Rattle.root_text.specs.RootText as text
use Rattle.deploy_laws.specs.Apps.{app_at, app_saying}
use Rattle.deploy_laws.specs.Places.{IsFileOf, first_file}
use Rattle.deploy_rows.specs.Costs.{kept_manifests, manifests_at, root_len}
use Rattle.deploy.specs.declared.roots.Root.{Root}
use Rattle.deploy.specs.declared.updating.Staged.{Staged}
use Rattle.deploy.specs.Building.{StagedAt}
use Rattle.deploy.specs.Roots.{IsRootOf, IsRootOn, RootAt, root_says, root_texts}

-- the application is what its root says, with the states of the storages that it names, and no copy lacks the root
abbrev pub RootInUseLaw : Type 0
RootInUseLaw = (image : Image) (app : ℕ) (root : Root) → IsRootOf app root → IsRootOn image app root
    → app_at image app ≡ app_saying image app (root_says root)

-- one of the twelve files of a root: four for each of its three copies
abbrev pub IsRootFile : ℕ → ℕ → Type 0
IsRootFile app file = (first_file app ≤ file) × (file < first_file app + 12)

-- a root stays in use where none of its files changes
abbrev pub RootFrameLaw : Type 0
RootFrameLaw = (told : Bool) (app : ℕ) (old new : Image) (root : Root) → app < 8
    → (IsTrue told → Spares (IsRootFile app) old new)
    → RootAt told old app root → RootAt told new app root

-- an update in progress stays in use where no file of its application changes
abbrev pub StagedFrameLaw : Type 0
StagedFrameLaw = (told : Bool) (app : ℕ) (old new : Image) (s : Staged) → (IsTrue told → Spares (IsFileOf app) old new)
    → StagedAt told old app s → StagedAt told new app s

-- of a root in use the image says the manifests of its versions
abbrev pub ManifestsLaw : Type 0
ManifestsLaw = (image : Image) (app : ℕ) (root : Root) → IsRootOf app root → IsRootOn image app root
    → manifests_at image app ≡ root_texts root

-- the text of a root is as long as `root_len` has it of the manifests that it keeps
abbrev pub RootLenLaw : Type 0
RootLenLaw = (r : text.Root) → length (root_text r) ≡ root_len (kept_manifests r)
