use Rattle.std.proofs.Common.{◌≡◌, ◌<◌, ◌≤◌, ◌++◌, length, refl, subst, rules, arith, string_bytes}
use Rattle.disk_model.specs.Image.{Image}
use Rattle.deployment_model.specs.Data.{storage_data}
use Rattle.element_state.specs.States.{store_at}
use Rattle.deploy_laws.specs.Places.{storage_shape}
use Rattle.per_list.specs.Listings.{storage_by}
use Rattle.per_list.proofs.Looks.{none_seen, seen_on}
use Rattle.per_list.proofs.Storages.{storage_keeps, storages_all, storages_more}
use Rattle.per_list.proofs.listing.list_storages.Goals as goal

pub loop-number-init : goal.loop-number-init
loop-number-init g c = record {
  left = λ tells. refl;
  seen = none_seen (g.met.D.Disk.lawful c.args.disk.now);
}

pub list_storage-requires-clause-number : goal.list_storage-requires-clause-number
list_storage-requires-clause-number g c =
    let few = c.requires.few in
    let within : c.loop-number.number < length c.args.storages.now = search rules in
    omega (arith, few, within)

pub list_storage-requires-clause-config : goal.list_storage-requires-clause-config
list_storage-requires-clause-config g c =
    storage_keeps c.args.storages.now c.loop-number.number c.index-storages-number.result c.requires.each (search rules)
    c.index-storages-number.is

pub loop-number-preserved : goal.loop-number-preserved
loop-number-preserved g c =
    let it = c.loop-number.invariant in
    let ok = c.in_ok-list_storage.ensures in
    let form = c.args.form in
    let app = c.args.app in
    let bank = c.args.bank in
    let number = c.loop-number.number in
    let s = storage_data c.index-storages-number.result in
    let within : number < length c.args.storages.now = search rules in
    record {
      left = λ tells. storages_more form (g.D.Disk.medium c.args.disk.now).image app bank c.args.storages.now
          (string_bytes c.args.out.now) number c.index-storages-number.result
          (string_bytes c.loop-number.out) (string_bytes c.list_storage.new.out) within c.index-storages-number.is
          (it.left tells)
          (subst (λ (im : Image). string_bytes c.list_storage.new.out ≡ string_bytes c.loop-number.out
          ++ storage_by form app bank number s (store_at im (storage_shape app bank number s)))
          it.seen.image (ok.adds tells));
      seen = seen_on it.seen (record {
        image = ok.image;
        idle = ok.idle;
        written = ok.written;
        passes = ok.passes;
        time = ok.time;
      });
    }

pub returns-clause-adds : goal.returns-clause-adds
returns-clause-adds g c = λ tells.
    let past : length c.args.storages.now ≤ c.loop-number.number = search rules in
    storages_all c.args.form (g.D.Disk.medium c.args.disk.now).image c.args.app c.args.bank c.args.storages.now
    (string_bytes c.args.out.now) c.loop-number.number (string_bytes c.loop-number.out) past
    (c.loop-number.invariant.left tells)
