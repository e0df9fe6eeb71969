-- An update in progress keeps the number of its application.
use Rattle.std.proofs.Common.{◌≡◌, ℕ, Bool, subst, sym}
use Rattle.disk_model.specs.Image.{Image}
use Rattle.deploy.specs.declared.updating.Staged.{Staged}
use Rattle.deploy.specs.Building.{StagedAt, staged_root}
use Rattle.deploy.specs.Roots.{RootAt}

-- it is one of the application that it names
pub of_its_own : (told : Bool) (image : Image) (app : ℕ) (s : Staged) → StagedAt told image app s
    → StagedAt told image s.app s
of_its_own told image app s at = subst (λ (n : ℕ). StagedAt told image n s) (sym at.memory.of_app) at

-- and its root is in use
pub root_stands : (told : Bool) (image : Image) (app : ℕ) (s : Staged) → StagedAt told image app s
    → RootAt told image app (staged_root s)
root_stands told image app s at = record { memory = at.memory.root; disk = at.root_on }
