-- A root in memory: what it says, and that the disk holds it.
use Rattle.std.specs.Prelude.{◌≡◌, ◌≤◌, ℕ, ◌-◌, List, [], ◌∷◌, Bool, IsTrue, Option, Some, None, option_map, ⊤}
use Rattle.disk_model.specs.Image.{Image}
use Rattle.guarded_cell.specs.Cells.{CellAt, place_of, generation_of}
use Rattle.guarded_cell.specs.declared.cell.Cell.{Cell}
use Rattle.element_state.specs.States.{State}
use Rattle.deployment_model.specs.Conditions.{IsDeployment}
use Rattle.deployment_model.specs.Data.{deployment_data}
use Rattle.root_text.specs.declared.versions.VersionText.{VersionText}
use Rattle.root_text.specs.RootText.{IsVersion, root_text}
use Rattle.root_text.specs.RootText as text
use Rattle.root_text.specs.Views.{version_said}
use Rattle.deploy.specs.declared.roots.Root.{Root}
use Rattle.deploy.specs.declared.roots.Root.TheVariants.{Bad, Absent, Installed}
use Rattle.deploy.specs.declared.roots.Installed as parts
use Rattle.deploy_laws.specs.Places.{root_place}
use Rattle.deploy_laws.specs.Apps.{Says, nothing, absent, installed, App, named_in_bank, says_at}

-- what a root says
abbrev pub root_says : Root → Says
root_says Bad = nothing
root_says (Absent cell) = absent (generation_of cell)
root_says (Installed i) = installed (generation_of i.cell) (named_in_bank i.bank (version_said i.active))
    (option_map (λ v. named_in_bank (1 - i.bank) (version_said v)) i.previous)

-- an application with this root, whose storages have these states
abbrev pub root_app : Root → List State → App
root_app root states = record { says = root_says root; lacking = []; states = states }

-- the manifest of a previous version, where there is one
abbrev pub previous_texts : Option VersionText → List (List ℕ)
previous_texts None = []
previous_texts (Some v) = v.text ∷ []

-- the manifests of a root's versions, the active one's first
abbrev pub root_texts : Root → List (List ℕ)
root_texts Bad = []
root_texts (Absent cell) = []
root_texts (Installed i) = i.active.text ∷ previous_texts i.previous

-- the bank in which the storages of the next version are made
abbrev pub free_bank : Root → ℕ
free_bank Bad = 0
free_bank (Absent cell) = 0
free_bank (Installed i) = 1 - i.bank

-- ---- what is kept in memory

-- the manifest of a version says its deployment
pub record SaysDeployment (v : VersionText) : Type 0 where
  pub said : IsVersion (version_said v)
  pub keeps : IsDeployment (deployment_data v.deployment)

-- where there is a version, its manifest says its deployment
abbrev pub IfKept : Option VersionText → Type 0
IfKept None = ⊤
IfKept (Some v) = SaysDeployment v

-- the register is that of this application's root, under a generation from 1 on
pub record IsRootCell (app : ℕ) (cell : Cell) : Type 0 where
  pub place : place_of cell ≡ root_place app
  pub positive : 1 ≤ generation_of cell

-- an installed root is in bank 0 or 1, and the manifests of its versions say their deployments
pub record AreParts (i : parts.Installed) : Type 0 where
  pub in_bank : i.bank ≤ 1
  pub active : SaysDeployment i.active
  pub previous : IfKept i.previous

-- the root is one of this application
abbrev pub IsRootOf : ℕ → Root → Type 0
IsRootOf app Bad = ⊤
IsRootOf app (Absent cell) = IsRootCell app cell
IsRootOf app (Installed i) = IsRootCell app i.cell × AreParts i

-- ---- on the disk

-- a bad root says nothing; else every copy holds the root's text, and nothing else is held in its place
abbrev pub IsRootOn : Image → ℕ → Root → Type 0
IsRootOn image app Bad = says_at image app ≡ nothing
IsRootOn image app (Absent cell) = CellAt image cell (root_text text.absent)
IsRootOn image app (Installed i) = CellAt image i.cell
    (root_text (text.installed i.bank (version_said i.active) (option_map version_said i.previous)))

-- the root is in use on a disk: where the disk's bytes are modelled, they are the root's
pub record RootAt (told : Bool) (image : Image) (app : ℕ) (root : Root) : Type 0 where
  pub memory : IsRootOf app root
  pub disk : IsTrue told → IsRootOn image app root
