-- How an update begins: the version that is offered, and what the storages of the active one hold.
use Rattle.std.specs.Prelude.{◌≡◌, List, length, map, Bool, IsTrue, Result, Ok, Err}
use Rattle.per_base.specs.declared.errors.PerError.{PerError}
use Rattle.disk_model.specs.Image.{Image}
use Rattle.guarded_cell.specs.Cells.{generation_of}
use Rattle.deployment_model.specs.Data.{StorageData, deployment_data}
use Rattle.element_state.specs.declared.shapes.Shape.{Shape}
use Rattle.element_state.specs.States.{State, store_at}
use Rattle.root_text.specs.declared.versions.VersionText.{VersionText}
use Rattle.root_text.specs.Views.{version_said}
use Rattle.update_plan.specs.declared.contents.Stored.{Stored}
use Rattle.deploy_laws.specs.Apps.{named_in_bank}
use Rattle.deploy_rows.specs.Rows.{Offer, contents_stored}
use Rattle.deploy.specs.declared.roots.Installed.{Installed}

-- this version over this root
abbrev pub offer_of : Installed → VersionText → Offer
offer_of root v = record {
  generation = generation_of root.cell;
  active = named_in_bank root.bank (version_said root.active);
  manifest = v.text;
  deployment = deployment_data v.deployment;
}

-- the version that is offered, or its refusal, as the row has it
abbrev pub IsOffered : Result Offer PerError → Installed → Result VersionText PerError → Type 0
IsOffered row root (Ok v) = row ≡ Ok (offer_of root v)
IsOffered row root (Err e) = row ≡ Err e

-- what was read of storages is what some states have stored, a state for each, and those are theirs where the disk
-- is modelled
pub record AreReadContents (told : Bool) (image : Image) (shapes : List Shape) (storages : List StorageData)
    (contents : List Stored) : Type 0 where
  pub states : List State
  pub each : length states ≡ length storages
  pub theirs : IsTrue told → map (store_at image) shapes ≡ states
  pub stored : contents ≡ contents_stored storages states
