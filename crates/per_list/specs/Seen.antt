-- What a listing adds for an application by how its root is seen, and for storages by the image.
use Rattle.std.specs.Prelude.{ℕ, List, [], ◌∷◌, ◌++◌, map, Option, Some, None, option_map}
use Rattle.disk_model.specs.Image.{Image}
use Rattle.deployment_model.specs.Data.{StorageData}
use Rattle.element_state.specs.States.{store_at}
use Rattle.deploy.specs.Views.{RootSeen, bad, no_version, versions}
use Rattle.deploy_laws.specs.Places.{Named, shapes_from}
use Rattle.per_list.specs.declared.forms.Form.{Form}
use Rattle.per_list.specs.Listings.{absent_text, bad_text, list_end, next_list, storages_by, version_head}
use Rattle.per_list.specs.Listings.{version_number}

-- the storages of a version, from this number on
abbrev pub storages_seen : Form → Image → (app bank number : ℕ) → List StorageData → List ℕ
storages_seen form image app bank number storages =
    storages_by form app bank number storages (map (store_at image) (shapes_from app bank number storages))

-- all storages of a version
abbrev pub version_seen : Form → Image → (app : ℕ) → Named → List ℕ
version_seen form image app v = storages_seen form image app v.bank 0 v.deployment.storages

abbrev pub previous_seen : Form → Image → (app : ℕ) → Option Named → List ℕ
previous_seen form image app None = []
previous_seen form image app (Some v) = version_seen form image app v

-- what a listing adds for an application whose root is seen so
abbrev pub app_seen : Form → Image → (app : ℕ) → RootSeen → List ℕ
app_seen form image app bad = bad_text form app
app_seen form image app (no_version lacking sole) = absent_text form app
app_seen form image app (versions active previous lacking sole) =
    version_head form app active.bank active.deployment.version (option_map version_number previous)
    ++ version_seen form image app active ++ next_list form ++ previous_seen form image app previous ++ list_end form
