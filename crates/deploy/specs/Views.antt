-- A root as it is seen, beside what the image says.
use Rattle.std.specs.Prelude.{◌≡◌, ℕ, ◌-◌, List, Bool, Option, Some, None, option_map, ⊤}
use Rattle.disk_model.specs.Image.{Image}
use Rattle.deployment_model.specs.Data.{deployment_data}
use Rattle.guarded_cell.specs.Held.{standing}
use Rattle.guarded_cell.specs.declared.looking.Seen.{Seen}
use Rattle.root_text.specs.RootText.{IsRoot, root_text}
use Rattle.root_text.specs.Views.{root_said}
use Rattle.deploy.specs.declared.viewing.RootView.{RootView}
use Rattle.deploy.specs.declared.viewing.RootView.TheVariants.{Bad, Absent, Installed}
use Rattle.deploy.specs.declared.viewing.Versions.{Versions}
use Rattle.deploy_laws.specs.Places.{Named, agreeing_of_root, root_place}
use Rattle.deploy_laws.specs.Apps.{AreInTwoBanks, IsInBank, Says, nothing, absent, installed, app_at, root_sole}
use Rattle.deploy_laws.specs.Apps.{says_by}

-- what is seen of a root: that it is bad; that nothing is installed; or its versions; and with these which copies lack
-- it, counted from 1, and whether no other text is held in its place
pub data RootSeen : Type 0 where
  bad : RootSeen
  no_version : (lacking : List ℕ) (sole : Bool) → RootSeen
  versions : (active : Named) (previous : Option Named) (lacking : List ℕ) (sole : Bool) → RootSeen

-- what a view of a root shows
abbrev pub root_seen : RootView → RootSeen
root_seen Bad = bad
root_seen (Absent lacking sole) = no_version lacking sole
root_seen (Installed s) = versions (record { bank = s.bank; deployment = deployment_data s.active })
    (option_map (λ d. record { bank = 1 - s.bank; deployment = deployment_data d }) s.previous) s.lacking s.sole

-- what is seen of a root that says this, with the copies that lack it and whether its text is sole
abbrev pub seen_by : Says → (lacking : List ℕ) → (sole : Bool) → RootSeen
seen_by nothing lacking sole = bad
seen_by (absent g) lacking sole = no_version lacking sole
seen_by (installed g active previous) lacking sole = versions active previous lacking sole

-- what an image shows of a root
abbrev pub seen_at : Image → ℕ → RootSeen
seen_at image app = seen_by (app_at image app).says (app_at image app).lacking (root_sole image app)

-- the versions that are seen are in their banks and obey the rules of deployments
abbrev pub ShowsVersions : RootSeen → Type 0
ShowsVersions bad = ⊤
ShowsVersions (no_version lacking sole) = ⊤
ShowsVersions (versions active None lacking sole) = IsInBank active
ShowsVersions (versions active (Some previous) lacking sole) = AreInTwoBanks active previous

-- ---- the versions, with the texts of their manifests

-- what the root says of which these versions were read: nothing where none was, since it is bad
abbrev pub versions_say : Option Versions → Says
versions_say None = nothing
versions_say (Some v) = says_by v.generation (Some (root_said v.says))

-- each manifest says its deployment
abbrev pub AreRead : Option Versions → Type 0
AreRead None = ⊤
AreRead (Some v) = IsRoot (root_said v.says)

-- the text that two copies of the root hold is that of these versions, so their manifests are held byte for byte
pub record AreHeldByRoot (image : Image) (app : ℕ) (v : Versions) : Type 0 where
  pub seen : Seen
  pub stands : standing image (root_place app) agreeing_of_root ≡ Some seen
  pub generation : seen.generation ≡ v.generation
  pub text : seen.text ≡ root_text (root_said v.says)
