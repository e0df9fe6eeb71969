-- How many bytes roots and the storages of a version cost that are written, and which manifests a root keeps.
use Rattle.std.specs.Prelude.{ℕ, ◌+◌, ◌*◌, List, [], ◌∷◌, length, sum_by, Option, Some, None, Result, Ok, Err}
use Rattle.per_base.specs.declared.elements.Fresh.{Fresh}
use Rattle.per_base.specs.declared.errors.PerError.{PerError}
use Rattle.disk_model.specs.Image.{Image}
use Rattle.guarded_cell.specs.declared.looking.Seen.{Seen}
use Rattle.guarded_cell.specs.Held.{standing}
use Rattle.element_store.specs.Creates.{creating_cost}
use Rattle.deployment_model.specs.Data.{DeploymentData, StorageData}
use Rattle.root_text.specs.RootText.{root_of}
use Rattle.root_text.specs.RootText as text
use Rattle.deploy_laws.specs.Places.{agreeing_of_root, root_place}
use Rattle.deploy_rows.specs.Rows.{deployment_of, initial_all}

-- ---- roots

-- the manifests that a root's text keeps, the active version's first
abbrev pub kept_manifests : text.Root → List (List ℕ)
kept_manifests text.absent = []
kept_manifests (text.installed bank active None) = active.text ∷ []
kept_manifests (text.installed bank active (Some previous)) = active.text ∷ previous.text ∷ []

-- the same of a text that is read as this; one that is no root's keeps none
abbrev pub manifests_by : Option text.Root → List (List ℕ)
manifests_by None = []
manifests_by (Some root) = kept_manifests root

-- and of the text that stands, if one does
abbrev pub manifests_in : Option Seen → List (List ℕ)
manifests_in None = []
manifests_in (Some seen) = manifests_by (root_of seen.text)

-- the manifests that the root of an application keeps on an image: that on which two of its three copies agree
unfoldable pub manifests_at : Image → (app : ℕ) → List (List ℕ)
manifests_at image app = manifests_in (standing image (root_place app) agreeing_of_root)

-- how long the text of a root is that keeps these manifests, the active version's first: two bytes where it keeps none,
-- and else four, and each manifest with four bytes of its length
abbrev pub root_len : List (List ℕ) → ℕ
root_len [] = 2
root_len (active ∷ previous) = 4 + sum_by (λ (manifest : List ℕ). 4 + length manifest) (active ∷ previous)

-- what the writing of such a root costs: in each of the three copies the text, its head of 44 bytes, and 44 bytes that
-- blank the text before it
abbrev pub root_cost : List (List ℕ) → ℕ
root_cost manifests = 3 * (root_len manifests + 88)

-- what the formatting of a root costs, which then keeps no manifest: in each copy its text with a head, and before that
-- a blank of 44 bytes in both slots
abbrev pub format_cost : ℕ
format_cost = root_cost [] + 3 * 44

-- what the writing of the longest root costs, whose text has 131,084 bytes
abbrev pub greatest_cost : ℕ
greatest_cost = 3 * (131084 + 88)

-- ---- storages

-- what the making of a storage with these contents costs: its creation, in each of its copies
abbrev pub making_cost : StorageData → List Fresh → ℕ
making_cost s contents = creating_cost s.n s.kind contents

-- the same of storages with the contents of each
abbrev pub making_costs : List StorageData → List (List Fresh) → ℕ
making_costs [] contents = 0
making_costs (s ∷ ss) [] = 0
making_costs (s ∷ ss) (fs ∷ contents) = making_cost s fs + making_costs ss contents

-- the storages of a deployment, where there is one
abbrev pub said_storages : Result DeploymentData PerError → List StorageData
said_storages (Ok d) = d.storages
said_storages (Err e) = []

-- the storages of the deployment that a manifest says; none where the manifest is refused
abbrev pub storages_said : List ℕ → List StorageData
storages_said manifest = said_storages (deployment_of manifest)

-- ---- installations

-- what an installation of this manifest costs, which says that deployment or is refused
abbrev pub cost_by : (now : ℕ) → List ℕ → Result DeploymentData PerError → ℕ
cost_by now manifest (Ok d) = making_costs d.storages (initial_all now d) + root_cost (manifest ∷ [])
cost_by now manifest (Err e) = 0

-- what an installation of a manifest costs at a moment in seconds: its storages with their initial contents, and then
-- the root; nothing where the manifest is refused
abbrev pub install_cost : (now : ℕ) → List ℕ → ℕ
install_cost now manifest = cost_by now manifest (deployment_of manifest)
