-- What a root says, and what is dumped of it.
use Rattle.std.proofs.Common.{◌≡◌, ℕ, ◌-◌, List, Bool, Option, Some, None, option_map, map, Result, Err}
use Rattle.std.proofs.Common.{refl, sym, ap, ◌∙◌, subst}
use Rattle.std.specs.Prelude.{IfSome, IsTrue}
use Rattle.per_base.specs.declared.errors.PerError.{PerError}
use Rattle.per_base.specs.declared.errors.PerError.TheVariants as error
use Rattle.per_base.specs.declared.errors.Unit.TheVariants as unit
use Rattle.disk_model.specs.Image.{Image}
use Rattle.deployment_model.specs.Data.{storage_data}
use Rattle.deployment_model.specs.declared.configs.StorageConfig.{StorageConfig}
use Rattle.manifest.specs.Reading.{deployment_in}
use Rattle.root_text.specs.RootText.{IsRoot, IsVersion, root_text}
use Rattle.root_text.specs.declared.versions.RootSays.{RootSays}
use Rattle.root_text.specs.declared.versions.RootSays.TheVariants as root
use Rattle.root_text.specs.declared.versions.VersionText.{VersionText}
use Rattle.root_text.specs.Views.{root_said, version_said}
use Rattle.deploy_laws.specs.Apps.{App, absent, app_at, named_in_bank, nothing, says_at, says_by}
use Rattle.deploy.specs.declared.viewing.Versions.{Versions}
use Rattle.deploy.specs.Views.{AreHeldByRoot, AreRead, versions_say}
use Rattle.per_backup.specs.declared.exporting.Exported.{Exported}
use Rattle.per_backup.specs.Backups.{dumping, exporting, exports_of}
use Rattle.per_backup.specs.Clauses.{IsAppSeen, exported_as}
use Rattle.dump_text.specs.declared.dumps.DumpedApplication.{DumpedApplication}
use Rattle.dump_text.specs.Dumps.{dumped_names}
use Rattle.per_dump.specs.Dumps.{HoldsManifest, IsActive, IsDumpOf}
use Rattle.per_dump.proofs.Storages.{dumping_said, names_configured}

module _ (image : Image) (app : ℕ) (found : Option Versions) (says : versions_say found ≡ says_at image app) where
  -- nothing counts
  pub bad_dumped : found ≡ None → Err (error.IntegrityCorrupted unit.Root) ≡ dumping (app_at image app)
  bad_dumped none = sym (dumping_said image app nothing (sym (ap versions_say none) ∙ says))

  module _ (v : Versions) (some : found ≡ Some v) where
    -- nothing is installed
    pub absent_dumped : v.says ≡ root.Absent → Err error.NotInstalled ≡ dumping (app_at image app)
    absent_dumped is = sym (dumping_said image app (absent v.generation)
        (sym (ap (λ (s : RootSays). says_by v.generation (Some (root_said s))) is) ∙ sym (ap versions_say some) ∙ says))

    -- a version is
    pub is_active : (bank : ℕ) (active : VersionText) (previous : Option VersionText)
        → v.says ≡ root.Installed bank active previous → IsActive (says_at image app) active
    is_active bank active previous is = record {
      generation = v.generation;
      bank = bank;
      previous = option_map (named_in_bank (1 - bank)) (option_map version_said previous);
      said = sym says ∙ ap versions_say some
          ∙ ap (λ (s : RootSays). says_by v.generation (Some (root_said s))) is;
    }

pub is_said : (found : Option Versions) (v : Versions) (bank : ℕ) (active : VersionText) (previous : Option VersionText)
    → found ≡ Some v → v.says ≡ root.Installed bank active previous → AreRead found → IsVersion (version_said active)
is_said found v bank active previous some is read =
    (subst (λ (s : RootSays). IsRoot (root_said s)) is (subst AreRead some read)).of_active

pub is_held : (image : Image) (app : ℕ) (found : Option Versions) (v : Versions) (bank : ℕ) (active : VersionText)
    (previous : Option VersionText) → found ≡ Some v → v.says ≡ root.Installed bank active previous
    → IfSome found (AreHeldByRoot image app) → HoldsManifest image app active.text
is_held image app found v bank active previous some is held =
    let h = subst (λ (o : Option Versions). IfSome o (AreHeldByRoot image app)) some held in
    record {
      seen = h.seen;
      stands = h.stands;
      bank = bank;
      active = version_said active;
      previous = option_map version_said previous;
      text = h.text ∙ ap (λ (s : RootSays). root_text (root_said s)) is;
      manifest_is = refl;
    }

-- what is exported of the storage of a name, where that is seen after others
pub exported_there : (told : Bool) (old now : Image) (app : ℕ) (name : List ℕ) (x : Exported) → IsTrue told → now ≡ old
    → (it : App) × IsAppSeen told now app it × (exported_as x ≡ exporting it name)
    → exporting (app_at old app) name ≡ exported_as x
exported_there told old now app name x tells same seen =
    ap (λ (im : Image). exporting (app_at im app) name) (sym same)
    ∙ ap (λ (a : App). exporting a name) (sym (seen.1 tells)) ∙ sym seen.2

module _ (image : Image) (app : ℕ) (v : VersionText) (active : IsActive (says_at image app) v) where
  -- what is exported of its storages is what is dumped
  pub version_dumped : (texts : Result (List (List ℕ)) PerError)
      → exports_of (app_at image app) (map storage_data v.deployment.storages) ≡ texts
      → texts ≡ dumping (app_at image app)
  version_dumped texts are = sym (dumping_said image app _ (sym active.said) ∙ are)

  pub dump_of : (d : DumpedApplication) → IsVersion (version_said v) → d.application ≡ app → d.manifest ≡ v.text
      → dumped_names d.storages.items ≡ map (λ (c : StorageConfig). c.name) v.deployment.storages
      → IsDumpOf app (says_at image app) d
  dump_of d said number manifest names = record {
    generation = active.generation;
    active = named_in_bank active.bank (version_said v);
    previous = active.previous;
    said = active.said;
    number = number;
    manifest = ap deployment_in manifest ∙ said;
    names = names ∙ names_configured v.deployment.storages;
  }
