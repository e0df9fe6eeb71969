use Rattle.std.proofs.Common.{◌-◌, ◌≤◌, [], ◌++◌, map, List, length, sym, subst}
use Rattle.std.specs.List.{AllByRecursion}
use Rattle.per_base.specs.declared.errors.Unit.TheVariants.{Root}
use Rattle.std.specs.Prelude.{None}
use Rattle.disk_model.specs.Image.{Image}
use Rattle.deployment_model.specs.Conditions.{IsStorage}
use Rattle.deployment_model.specs.Data.{deployment_data, storage_data}
use Rattle.deployment_model.specs.declared.configs.StorageConfig.{StorageConfig}
use Rattle.deploy_laws.specs.Places.{version_in_bank}
use Rattle.per_audit.specs.Audits.{damaged_by, listed_of, of_storage, unless_sole}
use Rattle.per_audit.specs.Noted.{AddsNotes, of_previous, over_storages}
use Rattle.per_audit.proofs.Applications.{adds_on, shown_active, shown_previous}
use Rattle.per_audit.proofs.Remaining.{few_storages}
use Rattle.per_audit.proofs.auditing.audit_versions.Goals as goal

pub audit_storages-requires-clause-bank : goal.audit_storages-requires-clause-bank
audit_storages-requires-clause-bank g c =
    let s = c.args.state.now in
    let placed = shown_active (record { bank = s.bank; deployment = deployment_data s.active })
    (version_in_bank (1 - s.bank) s.previous) s.lacking s.sole c.requires.versions in
    placed.in_bank

pub audit_storages-requires-clause-few : goal.audit_storages-requires-clause-few
audit_storages-requires-clause-few g c =
    let s = c.args.state.now in
    let placed = shown_active (record { bank = s.bank; deployment = deployment_data s.active })
    (version_in_bank (1 - s.bank) s.previous) s.lacking s.sole c.requires.versions in
    subst (λ (ds : List StorageConfig). length ds ≤ 16) (sym c.as_slice.ensures)
    (few_storages s.active.storages placed.keeps.few)

pub audit_storages-requires-clause-each : goal.audit_storages-requires-clause-each
audit_storages-requires-clause-each g c =
    let s = c.args.state.now in
    let placed = shown_active (record { bank = s.bank; deployment = deployment_data s.active })
    (version_in_bank (1 - s.bank) s.previous) s.lacking s.sole c.requires.versions in
    subst (λ (ds : List StorageConfig). AllByRecursion IsStorage (map storage_data ds)) (sym c.as_slice.ensures)
    placed.keeps.each

pub audit_previous-requires-clause-deployment : goal.audit_previous-requires-clause-deployment
audit_previous-requires-clause-deployment g c =
    let s = c.args.state.now in
    shown_previous (record { bank = s.bank; deployment = deployment_data s.active }) (1 - s.bank) s.previous s.lacking
    s.sole c.requires.versions

pub returns-clause-adds : goal.returns-clause-adds
returns-clause-adds g c = λ tells.
    let s = c.args.state.now in
    let app = c.args.app in
    let old = (g.D.Disk.medium c.args.disk.now).image in
    let of_root = damaged_by app None Root s.lacking ++ unless_sole s.sole app None Root in
    let active = subst (λ (ds : List StorageConfig). AddsNotes
    (over_storages (listed_of app) old app s.bank 0 (map storage_data ds))
    (over_storages (of_storage app) old app s.bank 0 (map storage_data ds))
    c.note_root.new.notes c.audit_storages.new.notes) c.as_slice.ensures (c.in_ok-audit_storages.ensures.adds tells) in
    let previous = subst (λ (im : Image). AddsNotes (of_previous (listed_of app) im app
    (version_in_bank (1 - s.bank) s.previous))
    (of_previous (of_storage app) im app (version_in_bank (1 - s.bank) s.previous))
    c.audit_storages.new.notes c.audit_previous.new.notes) c.in_ok-audit_storages.ensures.image
    (c.in_ok-audit_previous.ensures.adds tells) in
    adds_on (over_storages (listed_of app) old app s.bank 0 (map storage_data s.active.storages))
    (of_previous (listed_of app) old app (version_in_bank (1 - s.bank) s.previous))
    (of_root ++ over_storages (of_storage app) old app s.bank 0 (map storage_data s.active.storages))
    (of_previous (of_storage app) old app (version_in_bank (1 - s.bank) s.previous))
    c.args.notes.now c.audit_storages.new.notes c.audit_previous.new.notes
    (adds_on [] (over_storages (listed_of app) old app s.bank 0 (map storage_data s.active.storages)) of_root
    (over_storages (of_storage app) old app s.bank 0 (map storage_data s.active.storages))
    c.args.notes.now c.note_root.new.notes c.audit_storages.new.notes c.in_ok-note_root.ensures active)
    previous
