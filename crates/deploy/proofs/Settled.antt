-- A root that was read, in its register.
use Rattle.std.proofs.Common.{◌≡◌, ℕ, ◌≤◌, List, Bool, Option, Some, None, sym, ap, ◌∙◌, subst}
use Rattle.std.specs.Prelude.{IsTrue, option_map}
use Rattle.disk_model.specs.Frame.{Spares}
use Rattle.disk_model.specs.Image.{Image}
use Rattle.disk_model.specs.Medium.{EachCase, Medium}
use Rattle.disk_model.specs.Place.{IsNoSlot}
use Rattle.disk_model.specs.declared.place.Place.{Place}
use Rattle.guarded_cell.specs.declared.cell.Cell.{Cell}
use Rattle.guarded_cell.specs.Cells.{CellAt, IsCellOf, generation_of}
use Rattle.guarded_cell.specs.Register.{IsAlone}
use Rattle.guarded_cell.specs.Stops.{FormatStops, PutStops}
use Rattle.deployment_model.specs.Conditions.{IsDeployment}
use Rattle.deployment_model.specs.Data.{DeploymentData, deployment_data}
use Rattle.manifest.specs.Reading.{deployment_in}
use Rattle.root_text.specs.declared.versions.VersionText.{VersionText}
use Rattle.root_text.specs.declared.versions.RootSays.{RootSays}
use Rattle.root_text.specs.declared.versions.RootSays.TheVariants.{Installed as Said}
use Rattle.root_text.specs.RootText.{IsInstalled, IsRoot, IsVersion, IfVersion, root_text}
use Rattle.root_text.specs.RootText as text
use Rattle.root_text.specs.Views.{root_said, version_said}
use Rattle.deploy_laws.specs.Apps.{says_by}
use Rattle.deploy_laws.specs.Places.{root_place}
use Rattle.deploy.specs.declared.roots.Installed as parts
use Rattle.deploy.specs.declared.roots.Root.{Root}
use Rattle.deploy.specs.declared.roots.Root.TheVariants.{Installed}
use Rattle.deploy.specs.Roots.{AreParts, IfKept, IsRootCell, IsRootOf, IsRootOn, RootAt, SaysDeployment, root_says}
use Rattle.deploy.proofs.InUse.{cell_alone, parts_say}

-- ---- versions

-- of manifest
abbrev pub KeepsLaw : Type 0
KeepsLaw = (text : List ℕ) (d : DeploymentData) → deployment_in text ≡ Some d → IsDeployment d

module _ (keeps : KeepsLaw) where
  kept : (v : VersionText) → IsVersion (version_said v) → SaysDeployment v
  kept v is = record { said = is; keeps = keeps v.text (deployment_data v.deployment) is }

  if_kept : (previous : Option VersionText) → IfVersion (option_map version_said previous) → IfKept previous
  if_kept None is = tt
  if_kept (Some v) is = kept v is

  pub parts_kept : (i : parts.Installed) → IsInstalled i.bank (version_said i.active)
      (option_map version_said i.previous) → AreParts i
  parts_kept i is = record {
    in_bank = is.in_bank;
    active = kept i.active is.of_active;
    previous =
        if_kept i.previous is.of_previous;
  }

-- parts that were read
module _ (i : parts.Installed) (says : RootSays) (is : says ≡ Said i.bank i.active i.previous) where
  pub parts_said : root_says (Installed i) ≡ says_by (generation_of i.cell) (Some (root_said says))
  parts_said = sym (parts_say i) ∙ ap (λ (s : RootSays). says_by (generation_of i.cell) (Some (root_said s))) (sym is)

  pub said_kept : (keeps : KeepsLaw) → IsRoot (root_said says) → AreParts i
  said_kept keeps rules = parts_kept keeps i (subst (λ (s : RootSays). IsRoot (root_said s)) is rules)

-- ---- the register

-- a register of this place that holds this text under this generation, the text of the root that was read
module _ (image : Image) (app g : ℕ) (cell : Cell) (t : List ℕ) (r : text.Root) (is : IsCellOf (root_place app) g cell)
    (spelled : t ≡ root_text r) where
  pub root_cell : 1 ≤ g → IsRootCell app cell
  root_cell positive = record { place = is.lies; positive = subst (λ (n : ℕ). 1 ≤ n) (sym is.counts) positive }

  pub cell_on : CellAt image cell t → CellAt image cell (root_text r)
  cell_on at = subst (λ (u : List ℕ). CellAt image cell u) spelled at

  pub root_alone : CellAt image cell t → IsAlone image (root_place app) g (root_text r)
  root_alone at = subst (λ (n : ℕ). IsAlone image (root_place app) n (root_text r)) is.counts
      (cell_alone image app cell (root_text r) is.lies (cell_on at))

-- a root in memory that says what was read
module _ (told : Bool) (image : Image) (app g : ℕ) (cell : Cell) (t : List ℕ) (r : text.Root) (root : Root)
    (is : IsCellOf (root_place app) g cell)
    (spelled : t ≡ root_text r) where
  pub root_in_use : 1 ≤ g → (IsTrue told → CellAt image cell t) → (IsRootCell app cell → IsRootOf app root)
      → (CellAt image cell (root_text r) → IsRootOn image app root) → RootAt told image app root
  root_in_use positive held memory disk = record {
    memory = memory (root_cell image app g cell t r is spelled positive);
    disk = λ tells. disk (cell_on image app g cell t r is spelled (held tells));
  }

  pub root_says_so : root_says root ≡ says_by (generation_of cell) (Some r) → root_says root ≡ says_by g (Some r)
  root_says_so says = says ∙ ap (λ (n : ℕ). says_by n (Some r)) is.counts

-- ---- at the root's place

module _ (place : Place) (app : ℕ) (same : place ≡ root_place app) where
  pub cell_at : (g : ℕ) (cell : Cell) → IsCellOf place g cell → IsCellOf (root_place app) g cell
  cell_at g cell is = subst (λ (p : Place). IsCellOf p g cell) same is

  pub spares_at : (old new : Image) → Spares (IsNoSlot place) old new
      → Spares (IsNoSlot (root_place app)) old new
  spares_at old new spared = subst (λ (p : Place). Spares (IsNoSlot p) old new) same spared

  pub puts_at : (g : ℕ) (t u : List ℕ) (old new : Medium) → t ≡ u
      → EachCase (PutStops place g t old.image) old new
      → EachCase (PutStops (root_place app) g u old.image) old new
  puts_at g t u old new written puts = subst (λ (p : Place). EachCase (PutStops p g u old.image) old new)
      same
      (subst (λ (v : List ℕ). EachCase (PutStops place g v old.image) old new) written puts)

  pub formats_at : (t u : List ℕ) (old new : Medium) → t ≡ u
      → EachCase (FormatStops place 1 t old.image) old new
      → EachCase (FormatStops (root_place app) 1 u old.image) old new
  formats_at t u old new written formats = subst (λ (p : Place).
      EachCase (FormatStops p 1 u old.image) old new) same
      (subst (λ (v : List ℕ). EachCase (FormatStops place 1 v old.image) old new) written formats)
