-- What a dump has of an application.
use Rattle.std.specs.Prelude.{◌≡◌, ℕ, List, Option, Some, Result, Ok, Err, ⊤}
use Rattle.per_base.specs.declared.errors.PerError.{PerError}
use Rattle.per_base.specs.declared.errors.PerError.TheVariants as error
use Rattle.disk_model.specs.Image.{Image}
use Rattle.guarded_cell.specs.declared.looking.Seen.{Seen}
use Rattle.guarded_cell.specs.Held.{standing}
use Rattle.deployment_model.specs.Conditions.{storage_names}
use Rattle.manifest.specs.Reading.{deployment_in}
use Rattle.root_text.specs.RootText.{Version, root_text}
use Rattle.root_text.specs.RootText as root
use Rattle.root_text.specs.declared.versions.VersionText.{VersionText}
use Rattle.root_text.specs.Views.{version_said}
use Rattle.deploy_laws.specs.Apps.{Says, installed, named_in_bank}
use Rattle.deploy_laws.specs.Places.{Named, agreeing_of_root, root_place}
use Rattle.dump_text.specs.declared.dumps.DumpedApplication.{DumpedApplication}
use Rattle.dump_text.specs.Dumps.{dumped_names, dumped_texts}
use Rattle.per_dump.specs.declared.dumping.Dumped.{Dumped}
use Rattle.per_dump.specs.declared.dumping.Dumped.TheVariants.{Absent, Application, Refused}

-- the texts of its storages in their order, or why it is not dumped
abbrev pub dumped_as : Dumped → Result (List (List ℕ)) PerError
dumped_as (Application d) = Ok (dumped_texts d)
dumped_as Absent = Err error.NotInstalled
dumped_as (Refused e) = Err e

-- the dump of a version that is active, by its number: the manifest says that version, and the storages are its own
pub record IsDumpOf (application : ℕ) (says : Says) (d : DumpedApplication) : Type 0 where
  pub generation : ℕ
  pub active : Named
  pub previous : Option Named
  pub said : says ≡ installed generation active previous
  pub number : d.application ≡ application
  pub manifest : deployment_in d.manifest ≡ Some active.deployment
  pub names : dumped_names d.storages.items ≡ storage_names active.deployment

-- where the application is dumped, the dump is that of the version that is active
abbrev pub IsOfActive : (application : ℕ) → Says → Dumped → Type 0
IsOfActive application says (Application d) = IsDumpOf application says d
IsOfActive application says Absent = ⊤
IsOfActive application says (Refused e) = ⊤

-- the text that two copies of the root hold has this manifest as that of the active version, byte for byte
pub record HoldsManifest (image : Image) (application : ℕ) (manifest : List ℕ) : Type 0 where
  pub seen : Seen
  pub stands : standing image (root_place application) agreeing_of_root ≡ Some seen
  pub bank : ℕ
  pub active : Version
  pub previous : Option Version
  pub text : seen.text ≡ root_text (root.installed bank active previous)
  pub manifest_is : active.text ≡ manifest

-- where the application is dumped, two copies of its root hold the manifest of the dump
abbrev pub IsHeld : Image → (application : ℕ) → Dumped → Type 0
IsHeld image application (Application d) = HoldsManifest image application d.manifest
IsHeld image application Absent = ⊤
IsHeld image application (Refused e) = ⊤

-- the root says that this version is active
pub record IsActive (says : Says) (v : VersionText) : Type 0 where
  pub generation : ℕ
  pub bank : ℕ
  pub previous : Option Named
  pub said : says ≡ installed generation (named_in_bank bank (version_said v)) previous
