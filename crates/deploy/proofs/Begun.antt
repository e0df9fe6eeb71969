-- An update that begins over a root with one version: what is known of its storages, and the update in progress.
use Rattle.std.proofs.Common.{◌≡◌, ℕ, ◌-◌, ◌<◌, List, take, Bool, IsTrue, None, sym, ◌∙◌, subst, arith}
use Rattle.std.specs.Prelude.{map}
use Rattle.disk_model.specs.Image.{Image}
use Rattle.guarded_cell.specs.Cells.{generation_of}
use Rattle.deployment_model.specs.Data.{storage_data}
use Rattle.element_state.specs.States.{greatest_generation}
use Rattle.update_plan.specs.declared.contents.Stored.{Stored}
use Rattle.update_plan.specs.Plans.{AllFit}
use Rattle.deploy_laws.specs.Apps.{app_at}
use Rattle.deploy_laws.specs.Laws.{AloneLaw}
use Rattle.deploy_laws.specs.Places.{shapes_from}
use Rattle.deploy.specs.declared.roots.Installed.{Installed}
use Rattle.deploy.specs.declared.roots.Root.TheVariants as root
use Rattle.deploy.specs.declared.roots.Root.{Root}
use Rattle.deploy.specs.declared.updating.Staged.{Staged}
use Rattle.deploy.specs.Beginning.{AreReadContents}
use Rattle.deploy.specs.Building.{StagedAt}
use Rattle.deploy.specs.Made.{AreMade}
use Rattle.deploy.specs.Roots.{RootAt, SaysDeployment}
use Rattle.deploy.proofs.InUse.{AgainLaw}
use Rattle.deploy.proofs.UpdateRow.{states_one}

-- the states that were read are those of the application
pub states_read : AgainLaw → AloneLaw → (told : Bool) (image : Image) (app : ℕ) (i : Installed) (stored : List Stored)
    → RootAt told image app (root.Installed i)
    → i.previous ≡ None
    → (read : AreReadContents told image (shapes_from app i.bank 0 (map storage_data i.active.deployment.storages))
    (map storage_data i.active.deployment.storages) stored)
    → IsTrue told → (app_at image app).states ≡ read.states
states_read again alone told image app i stored at none read tells =
    states_one again alone image app i at.memory (at.disk tells) none ∙ read.theirs tells

-- a root in use is so on the same image
pub root_same : (told : Bool) (old new : Image) (app : ℕ) (r : Root) → new ≡ old → RootAt told old app r
    → RootAt told new app r
root_same told old new app r same at = subst (λ (image : Image). RootAt told image app r) (sym same) at

-- nothing is made of it yet
pub staged_begun : (told : Bool) (old new : Image) (app : ℕ) (s : Staged) → new ≡ old → app < 8
    → RootAt told old app (root.Installed s.root) → s.app ≡ app
    → s.root.previous ≡ None → generation_of s.root.cell < greatest_generation → SaysDeployment s.version
    → AllFit (map storage_data s.version.deployment.storages) s.contents.items → s.built ≡ 0 → StagedAt told new app s
staged_begun told old new app s same lt at of_app none left kept fit zero =
    subst (λ (image : Image). StagedAt told image app s) (sym same) (record {
      memory = record {
        of_app = of_app;
        below = lt;
        root = at.memory;
        no_previous = none;
        not_worn = left;
        offers = kept;
        fit = fit;
        within = omega (arith, zero);
      };
      root_on = at.disk;
      made = λ tells. subst (λ (n : ℕ). AreMade old (take n
          (shapes_from app (1 - s.root.bank) 0 (map storage_data s.version.deployment.storages)))
          (take n s.contents.items)) (sym zero) tt;
    })
