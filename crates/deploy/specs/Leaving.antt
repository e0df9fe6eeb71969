-- Roots after a version was left: one version is alone, or none is installed.
use Rattle.std.specs.Prelude.{◌≡◌, ◌≤◌, ◌<◌, ◌+◌, ℕ, List, [], Bool, IsTrue, Option, Some, None, Result, Ok, Err}
use Rattle.per_base.specs.declared.errors.PerError.{PerError}
use Rattle.disk_model.specs.Image.{Image}
use Rattle.guarded_cell.specs.Cells.{CellAt, generation_of}
use Rattle.guarded_cell.specs.declared.cell.Cell.{Cell}
use Rattle.element_state.specs.States.{greatest_generation}
use Rattle.root_text.specs.Views.{version_said}
use Rattle.deploy_laws.specs.Apps.{App, AreClean, Says, absent, installed, named_in_bank, nothing, says_at}
use Rattle.deploy_laws.specs.Apps.{shapes_named, app_saying}
use Rattle.deploy.specs.declared.leaving.Lone.{Lone}
use Rattle.deploy.specs.declared.roots.Outcome.{Outcome}
use Rattle.deploy.specs.declared.roots.Root.{Root}
use Rattle.deploy.specs.declared.roots.Root.TheVariants.{Bad, Absent, Installed}
use Rattle.deploy.specs.Roots.{IsRootCell, IsRootOf, IsRootOn, SaysDeployment, root_app, root_says}

-- what the next root says in which a version stands alone
abbrev pub lone_says : Lone → Says
lone_says l = installed (generation_of l.cell + 1) (named_in_bank l.bank (version_said l.version)) None

-- what the next root says in which none does: one without a register is formatted
abbrev pub empty_says : Option Cell → Says
empty_says None = absent 1
empty_says (Some cell) = absent (generation_of cell + 1)

-- the register of a root, which a bad one has not
abbrev pub register_of : Root → Option Cell
register_of Bad = None
register_of (Absent cell) = Some cell
register_of (Installed i) = Some i.cell

-- ---- what a row makes of a root

-- it refuses, or is this
abbrev pub refused_or : Option PerError → Result App PerError → Result App PerError
refused_or None x = x
refused_or (Some e) x = Err e

-- it leads from what the root says to what the next one says, which names storages of the same application, as they are
pub record LeadsToRoot (row : App → Result App PerError) (before next : Says) : Type 0 where
  pub row_is : (image : Image) (app : ℕ) → row (app_saying image app before) ≡ Ok (app_saying image app next)
  pub clean : (image : Image) (app : ℕ) → AreClean image (shapes_named app before)
      → AreClean image (shapes_named app next)

-- it refuses the root, which is handed back
pub record IsRootRefused (row : App → Result App PerError) (root : Root) (o : Outcome) : Type 0 where
  pub same : o.root ≡ root
  pub refusal : (e : PerError) × (o.refused ≡ Some e) × (row (root_app root []) ≡ Err e)

-- ---- the register of the next root

-- it is the root's, and a generation is left
pub record IsRegister (root : Root) (cell : Cell) : Type 0 where
  pub of_root : (app : ℕ) → IsRootOf app root → IsRootCell app cell
  pub held : (image : Image) (app : ℕ) → IsRootOn image app root → (text : List ℕ) × CellAt image cell text
  pub left : generation_of cell < greatest_generation

-- a version that the row leaves alone
pub record IsLone (row : App → Result App PerError) (root : Root) (l : Lone) : Type 0 where
  pub register : IsRegister root l.cell
  pub in_bank : l.bank ≤ 1
  pub kept : SaysDeployment l.version
  pub leads : LeadsToRoot row (root_says root) (lone_says l)

-- the register in which the row leaves nothing: a bad root has none
abbrev pub IfRegister : Root → Option Cell → Type 0
IfRegister root None = root_says root ≡ nothing
IfRegister root (Some cell) = IsRegister root cell

-- the register, if there is one, under which the row leaves no version
pub record IsEmptied (row : App → Result App PerError) (root : Root) (cell : Option Cell) : Type 0 where
  pub register : IfRegister root cell
  pub leads : LeadsToRoot row (root_says root) (empty_says cell)

-- the register is in use on a disk; without one the root is bad
abbrev pub IsRegisterAt : (told : Bool) → Image → ℕ → Option Cell → Type 0
IsRegisterAt told image app None = IsTrue told → says_at image app ≡ nothing
IsRegisterAt told image app (Some cell) =
    IsRootCell app cell × (generation_of cell < greatest_generation)
    × (IsTrue told → (text : List ℕ) × CellAt image cell text)
