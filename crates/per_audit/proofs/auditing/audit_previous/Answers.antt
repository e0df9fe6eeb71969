use Rattle.std.proofs.Common.{◌≤◌, map, List, Option, length, sym, subst}
use Rattle.std.specs.List.{AllByRecursion}
use Rattle.deployment_model.specs.Conditions.{IsStorage}
use Rattle.deployment_model.specs.Data.{storage_data}
use Rattle.deployment_model.specs.declared.configs.Deployment.{Deployment}
use Rattle.deployment_model.specs.declared.configs.StorageConfig.{StorageConfig}
use Rattle.deploy_laws.specs.Places.{version_in_bank}
use Rattle.per_audit.specs.Audits.{listed_of, of_storage}
use Rattle.per_audit.specs.Noted.{AddsNotes, of_previous, over_storages}
use Rattle.per_audit.proofs.Applications.{adds_nothing, kept_some}
use Rattle.per_audit.proofs.Remaining.{few_storages}
use Rattle.per_audit.proofs.auditing.audit_previous.Goals as goal

pub returns-in_default-clause-adds : goal.returns-in_default-clause-adds
returns-in_default-clause-adds g c = λ tells.
    let old = (g.D.Disk.medium c.args.disk.now).image in
    subst (λ (o : Option Deployment). AddsNotes (of_previous (listed_of c.args.app) old c.args.app
    (version_in_bank c.args.bank o))
    (of_previous (of_storage c.args.app) old c.args.app (version_in_bank c.args.bank o))
    c.args.notes.now c.args.notes.now) (sym c.in_default.is) (adds_nothing c.args.notes.now)

pub audit_storages-requires-clause-few : goal.audit_storages-requires-clause-few
audit_storages-requires-clause-few g c =
    let d = c.in-Some.deployment in
    let kept = kept_some c.args.previous.now d c.in-Some.is c.requires.deployment in
    subst (λ (ds : List StorageConfig). length ds ≤ 16) (sym c.as_slice.ensures) (few_storages d.storages kept.few)

pub audit_storages-requires-clause-each : goal.audit_storages-requires-clause-each
audit_storages-requires-clause-each g c =
    let d = c.in-Some.deployment in
    let kept = kept_some c.args.previous.now d c.in-Some.is c.requires.deployment in
    subst (λ (ds : List StorageConfig). AllByRecursion IsStorage (map storage_data ds)) (sym c.as_slice.ensures)
    kept.each

pub returns-clause-adds : goal.returns-clause-adds
returns-clause-adds g c = λ tells.
    let old = (g.D.Disk.medium c.args.disk.now).image in
    subst (λ (o : Option Deployment). AddsNotes (of_previous (listed_of c.args.app) old c.args.app
    (version_in_bank c.args.bank o))
    (of_previous (of_storage c.args.app) old c.args.app (version_in_bank c.args.bank o))
    c.args.notes.now c.audit_storages.new.notes) (sym c.in-Some.is)
    (subst (λ (ds : List StorageConfig). AddsNotes (over_storages (listed_of c.args.app) old c.args.app c.args.bank 0
    (map storage_data ds)) (over_storages (of_storage c.args.app) old c.args.app c.args.bank 0 (map storage_data ds))
    c.args.notes.now c.audit_storages.new.notes) c.as_slice.ensures (c.in_ok-audit_storages.ensures.adds tells))
