use Rattle.std.proofs.Common.{◌≡◌, ◌≤◌, ◌++◌, map, List, Option, length, refl, sym, subst, string_bytes, ◌∙◌, ap}
use Rattle.std.specs.List.{AllByRecursion}
use Rattle.std.proofs.lemmas.List.{append-nil}
use Rattle.deployment_model.specs.Conditions.{IsStorage}
use Rattle.deployment_model.specs.Data.{storage_data}
use Rattle.deployment_model.specs.declared.configs.Deployment.{Deployment}
use Rattle.deployment_model.specs.declared.configs.StorageConfig.{StorageConfig}
use Rattle.deploy_laws.specs.Places.{version_in_bank}
use Rattle.per_list.specs.Seen.{previous_seen, storages_seen}
use Rattle.per_list.proofs.Storages.{few_storages, kept_some}
use Rattle.per_list.proofs.listing.list_previous.Goals as goal

pub returns-in_default-clause-adds : goal.returns-in_default-clause-adds
returns-in_default-clause-adds g c = λ tells.
    let old = (g.D.Disk.medium c.args.disk.now).image in
    let start = string_bytes c.args.out.now in
    subst (λ (o : Option Deployment). start
    ≡ start ++ previous_seen c.args.form old c.args.app (version_in_bank c.args.bank o)) (sym c.in_default.is)
    (sym (append-nil start))

pub list_storages-requires-clause-few : goal.list_storages-requires-clause-few
list_storages-requires-clause-few g c =
    let d = c.in-Some.deployment in
    let kept = kept_some c.args.previous.now d c.in-Some.is c.requires.deployment in
    subst (λ (ds : List StorageConfig). length ds ≤ 16) (sym c.as_slice.ensures) (few_storages d.storages kept.few)

pub list_storages-requires-clause-each : goal.list_storages-requires-clause-each
list_storages-requires-clause-each g c =
    let d = c.in-Some.deployment in
    let kept = kept_some c.args.previous.now d c.in-Some.is c.requires.deployment in
    subst (λ (ds : List StorageConfig). AllByRecursion IsStorage (map storage_data ds)) (sym c.as_slice.ensures)
    kept.each

pub returns-clause-adds : goal.returns-clause-adds
returns-clause-adds g c = λ tells.
    let old = (g.D.Disk.medium c.args.disk.now).image in
    let start = string_bytes c.args.out.now in
    subst (λ (o : Option Deployment). string_bytes c.list_storages.new.out
    ≡ start ++ previous_seen c.args.form old c.args.app (version_in_bank c.args.bank o)) (sym c.in-Some.is)
    (c.in_ok-list_storages.ensures.adds tells
    ∙ ap (λ (ds : List StorageConfig). start
    ++ storages_seen c.args.form old c.args.app c.args.bank 0 (map storage_data ds)) c.as_slice.ensures)
