-- On every image, what a root names is in its banks and keeps what deployments keep.
use Rattle.std.proofs.Common.{◌≡◌, ℕ, ◌≤◌, List, Option, Some, None, refl, arith}
use Rattle.disk_model.specs.Image.{Image}
use Rattle.deployment_model.specs.Conditions.{IsDeployment}
use Rattle.deployment_model.specs.Data.{DeploymentData}
use Rattle.guarded_cell.specs.declared.looking.Seen.{Seen}
use Rattle.guarded_cell.specs.Held.{standing}
use Rattle.manifest.specs.Reading.{deployment_in}
use Rattle.root_text.specs.RootText.{Root, Version, absent, installed, root_of, IsRoot, IsVersion}
use Rattle.deploy_laws.specs.Places.{root_place}
use Rattle.deploy_laws.specs.Apps.{named_in_bank, says_by, says_in, says_at, IsInBank, AreVersions}

-- of manifest and root_text
abbrev pub KeepsLaw : Type 0
KeepsLaw = (text : List ℕ) (d : DeploymentData) → deployment_in text ≡ Some d → IsDeployment d

abbrev pub IsRootLaw : Type 0
IsRootLaw = (text : List ℕ) (r : Root) → root_of text ≡ Some r → IsRoot r

module _ (keeps : KeepsLaw) where
  placed : (bank : ℕ) (v : Version) → bank ≤ 1 → IsVersion v → IsInBank (named_in_bank bank v)
  placed bank v le is = record { in_bank = le; keeps = keeps v.text v.deployment is }

  pub versions_by : (g : ℕ) (r : Root) → IsRoot r → AreVersions (says_by g (Some r))
  versions_by g absent is = tt
  versions_by g (installed bank active None) is = placed bank active is.in_bank is.of_active
  versions_by g (installed bank active (Some previous)) is = record {
    of_active = placed bank active is.in_bank is.of_active;
    of_previous = placed _ previous (omega arith) is.of_previous;
    apart = refl;
  }

  module _ (is_root : IsRootLaw) where
    versions_of : (g : ℕ) (text : List ℕ) (r : Option Root) → root_of text ≡ r → AreVersions (says_by g r)
    versions_of g text None e = tt
    versions_of g text (Some r) e = versions_by g r (is_root text r e)

    pub versions_said : (g : ℕ) (text : List ℕ) → AreVersions (says_by g (root_of text))
    versions_said g text = versions_of g text (root_of text) refl

    versions_in : (seen : Option Seen) → AreVersions (says_in seen)
    versions_in None = tt
    versions_in (Some seen) = versions_said seen.generation seen.text

    pub versions : (image : Image) (app : ℕ) → AreVersions (says_at image app)
    unfolding says_at
    versions image app = versions_in (standing image (root_place app) 2)
