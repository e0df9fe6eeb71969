use Rattle.std.proofs.Common.{◌≡◌, ℕ, ◌-◌, ◌≤◌, ◌++◌, map, List, length, Option, sym, ap, ◌∙◌, subst, option_map}
use Rattle.std.proofs.Common.{string_bytes}
use Rattle.std.specs.List.{AllByRecursion}
use Rattle.disk_model.specs.Image.{Image}
use Rattle.deployment_model.specs.Conditions.{IsStorage}
use Rattle.deployment_model.specs.Data.{deployment_data, storage_data}
use Rattle.deployment_model.specs.declared.configs.StorageConfig.{StorageConfig}
use Rattle.deploy_laws.specs.Places.{version_in_bank}
use Rattle.per_list.specs.Listings.{list_end, next_list, version_head, version_number}
use Rattle.per_list.specs.Seen.{previous_seen, storages_seen}
use Rattle.per_list.proofs.Storages.{few_storages, number_named, shown_active, shown_previous}
use Rattle.per_list.proofs.Texts.{five}
use Rattle.per_list.proofs.listing.list_version.Goals as goal

pub list_storages-requires-clause-bank : goal.list_storages-requires-clause-bank
list_storages-requires-clause-bank g c =
    let s = c.args.state.now in
    let placed = shown_active (record { bank = s.bank; deployment = deployment_data s.active })
    (version_in_bank (1 - s.bank) s.previous) s.lacking s.sole c.requires.versions in
    placed.in_bank

pub list_storages-requires-clause-few : goal.list_storages-requires-clause-few
list_storages-requires-clause-few g c =
    let s = c.args.state.now in
    let placed = shown_active (record { bank = s.bank; deployment = deployment_data s.active })
    (version_in_bank (1 - s.bank) s.previous) s.lacking s.sole c.requires.versions in
    subst (λ (ds : List StorageConfig). length ds ≤ 16) (sym c.as_slice.ensures)
    (few_storages s.active.storages placed.keeps.few)

pub list_storages-requires-clause-each : goal.list_storages-requires-clause-each
list_storages-requires-clause-each g c =
    let s = c.args.state.now in
    let placed = shown_active (record { bank = s.bank; deployment = deployment_data s.active })
    (version_in_bank (1 - s.bank) s.previous) s.lacking s.sole c.requires.versions in
    subst (λ (ds : List StorageConfig). AllByRecursion IsStorage (map storage_data ds)) (sym c.as_slice.ensures)
    placed.keeps.each

pub list_previous-requires-clause-deployment : goal.list_previous-requires-clause-deployment
list_previous-requires-clause-deployment g c =
    let s = c.args.state.now in
    shown_previous (record { bank = s.bank; deployment = deployment_data s.active }) (1 - s.bank) s.previous s.lacking
    s.sole c.requires.versions

pub returns-clause-adds : goal.returns-clause-adds
returns-clause-adds g c = λ tells.
    let s = c.args.state.now in
    let old = (g.D.Disk.medium c.args.disk.now).image in
    let form = c.args.form in
    let app = c.args.app in
    let before = version_in_bank (1 - s.bank) s.previous in
    let head = λ (p : Option ℕ). version_head form app s.bank s.active.version p in
    let seen = λ (ds : List StorageConfig). storages_seen form old app s.bank 0 (map storage_data ds) in
    five (string_bytes c.args.out.now) (string_bytes c.push_version_head.new.out)
    (string_bytes c.list_storages.new.out) (string_bytes c.push_next_list.new.out)
    (string_bytes c.list_previous.new.out) (string_bytes c.push_list_end.new.out)
    (head (option_map version_number before)) (seen s.active.storages) (next_list form)
    (previous_seen form old app before) (list_end form)
    (c.in_ok-push_version_head.ensures ∙ ap (λ (p : Option ℕ). string_bytes c.args.out.now ++ head p)
    (c.version_of-previous.ensures ∙ sym (number_named (1 - s.bank) s.previous)))
    (c.in_ok-list_storages.ensures.adds tells
    ∙ ap (λ (ds : List StorageConfig). string_bytes c.push_version_head.new.out ++ seen ds) c.as_slice.ensures)
    c.in_ok-push_next_list.ensures
    (subst (λ (im : Image). string_bytes c.list_previous.new.out
    ≡ string_bytes c.push_next_list.new.out ++ previous_seen form im app before) c.in_ok-list_storages.ensures.image
    (c.in_ok-list_previous.ensures.adds tells))
    c.in_ok-push_list_end.ensures
