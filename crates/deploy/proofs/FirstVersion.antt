-- A first version: it joins an application of which nothing is installed.
use Rattle.std.proofs.Common.{◌≡◌, ℕ, ◌+◌, ◌≤◌, List, [], Bool, IsTrue, None, ap, arith}
use Rattle.std.specs.Prelude.{IfOk, Result, Ok, Err, option_map}
use Rattle.per_base.specs.declared.elements.Fresh.{Fresh}
use Rattle.disk_model.specs.Image.{Image}
use Rattle.guarded_cell.specs.Cells.{CellAt, IsCellOf, generation_of}
use Rattle.guarded_cell.specs.declared.cell.Cell.{Cell}
use Rattle.deployment_model.specs.Data.{DeploymentData}
use Rattle.root_text.specs.RootText.{Version, root_text}
use Rattle.root_text.specs.RootText as text
use Rattle.root_text.specs.Views.{version_said}
use Rattle.deploy_laws.specs.Apps.{App, absent, app_at, shapes_named}
use Rattle.deploy_laws.specs.Apps as apps
use Rattle.deploy_laws.specs.Laws.{AloneLaw}
use Rattle.deploy_laws.specs.Places.{root_place}
use Rattle.deploy_laws.specs.Stands.{IsLater, next_root}
use Rattle.deploy_rows.specs.Rows.{installed_app}
use Rattle.deploy.specs.declared.roots.Installed.{Installed}
use Rattle.deploy.specs.declared.roots.Root.TheVariants as root
use Rattle.deploy.specs.Filled.{filled_app}
use Rattle.deploy.specs.Next.{next_app}
use Rattle.deploy.specs.Roots.{IfKept, IsRootOf, IsRootOn, RootAt, SaysDeployment}
use Rattle.deploy.proofs.InUse.{AgainLaw, in_use}
use Rattle.deploy.proofs.InstallRow.{filled_next}

module _ (again : AgainLaw) (alone : AloneLaw) (image : Image) (app : ℕ) (cell : Cell)
    (of : IsRootOf app (root.Absent cell))
    (on : IsRootOn image app (root.Absent cell)) where
  pub says_absent : (app_at image app).says ≡ absent (generation_of cell)
  says_absent = ap (λ (a : App). a.says) (in_use again alone image app (root.Absent cell) of on)

  no_states : (app_at image app).states ≡ []
  unfolding shapes_named
  no_states = ap (λ (a : App). a.states) (in_use again alone image app (root.Absent cell) of on)

  -- the version is there with its contents alone
  pub next_filled : (v : Version) (contents : List (List Fresh))
      → next_app (generation_of cell + 1) 0 v None contents (app_at image app)
      ≡ filled_app (generation_of cell) v.deployment contents
  next_filled v contents = filled_next (generation_of cell) v contents (app_at image app) no_states

  pub comes_later : (now : ℕ) (d : DeploymentData) → IsLater (app_at image app)
      (installed_app (generation_of cell) now d)
  unfolding installed_app
  comes_later now d =
      let counts : apps.says_generation (app_at image app).says ≡ generation_of cell =
      ap apps.says_generation says_absent in
      next_root (omega (arith, counts))

-- ---- a root that was written is in use

pub root_written : (told : Bool) (image : Image) (app g : ℕ) (i : Installed) → IsCellOf (root_place app) (g + 1) i.cell
    → i.bank ≤ 1 → SaysDeployment i.active → IfKept i.previous
    → (IsTrue told → CellAt image i.cell (root_text (text.installed i.bank (version_said i.active)
    (option_map version_said i.previous))))
    → RootAt told image app (root.Installed i)
root_written told image app g i of in_bank active previous held =
    let counts : generation_of i.cell ≡ g + 1 = of.counts in
    record {
      memory = (
        record { place = of.lies; positive = omega (arith, counts) },
        record { in_bank = in_bank; active = active; previous = previous },
      );
      disk = held;
    }

pub if_ok : {A E : Type 0} (r : Result A E) (P Q : A → Type 0) → ((x : A) → P x → Q x) → IfOk r P → IfOk r Q
if_ok (Ok x) P Q less is = less x is
if_ok (Err e) P Q less is = tt
