use Rattle.std.proofs.Common.{◌≡◌, ◌+◌, ◌<◌, ◌≤◌, List, length, get_or, ap, refl, sym, subst, arith}
use Rattle.per_base.specs.declared.elements.Fresh.{Fresh}
use Rattle.deployment_model.specs.Data.{storage_data}
use Rattle.deployment_model.specs.declared.configs.StorageConfig.{StorageConfig}
use Rattle.index_text.specs.Contents.{AreContents}
use Rattle.element_state.specs.States.{fresh_map, fresh_state, store_at}
use Rattle.deploy_laws.specs.Places.{storage_shape}
use Rattle.deploy_rows.specs.Costs.{making_cost}
use Rattle.deploy.proofs.Leaves.{leaves_none}
use Rattle.deploy.proofs.MadePlaces.{more_places, more_written, part_written}
use Rattle.deploy.proofs.MadeStorages.{few_contents, made_all, making_more, making_none, more_outside, more_time}
use Rattle.deploy.proofs.MadeStorages.{storage_fits, storage_keeps}
use Rattle.deploy.proofs.making.create_rest.Goals as goal

pub overflow_cast-number-end : goal.overflow_cast-number-end
overflow_cast-number-end g c =
    let few = (few_contents c.args.deployment.now c.args.contents.now c.requires.deployment c.requires.fit).0 in
    omega (arith, few)

pub loop-number-init : goal.loop-number-init
loop-number-init g c = record {
  unmoved = λ _. refl;
  making = making_none g.D.Disk.told c.args.app c.args.bank c.args.built c.args.deployment.now.storages
      c.args.contents.now
      (g.D.Disk.medium c.args.disk.now) (g.met.D.Disk.lawful c.args.disk.now) c.requires.made;
  places = leaves_none g.D.Disk.told _ (g.D.Disk.medium c.args.disk.now) (g.met.D.Disk.lawful c.args.disk.now);
  written = omega arith;
}

pub bounds-as_slice-number : goal.bounds-as_slice-number
bounds-as_slice-number g c =
    let same = (few_contents c.args.deployment.now c.args.contents.now c.requires.deployment c.requires.fit).1 in
    let long = ap length c.as_slice.ensures in
    omega (arith, same, long)

pub create_one-requires-clause-number : goal.create_one-requires-clause-number
create_one-requires-clause-number g c =
    let few = (few_contents c.args.deployment.now c.args.contents.now c.requires.deployment c.requires.fit).0 in
    let within : c.loop-number.number < length c.args.contents.now = c.loop-number-test.true in
    omega (arith, few, within)

pub create_one-requires-clause-config : goal.create_one-requires-clause-config
create_one-requires-clause-config g c =
    let same = (few_contents c.args.deployment.now c.args.contents.now c.requires.deployment c.requires.fit).1 in
    let within : c.loop-number.number < length c.args.contents.now = c.loop-number-test.true in
    let here = subst (λ (ds : List StorageConfig). c.index-as_slice-number.result
    ≡ get_or ds c.loop-number.number c.index-as_slice-number.result) c.as_slice.ensures c.index-as_slice-number.is
    in
    storage_keeps c.args.deployment.now.storages c.loop-number.number c.index-as_slice-number.result
    c.requires.deployment.each (omega (arith, same, within)) here

pub create_one-requires-clause-contents : goal.create_one-requires-clause-contents
create_one-requires-clause-contents g c =
    let same = (few_contents c.args.deployment.now c.args.contents.now c.requires.deployment c.requires.fit).1 in
    let within : c.loop-number.number < length c.args.contents.now = c.loop-number-test.true in
    let here = subst (λ (ds : List StorageConfig). c.index-as_slice-number.result
    ≡ get_or ds c.loop-number.number c.index-as_slice-number.result) c.as_slice.ensures c.index-as_slice-number.is
    in
    subst (λ (fs : List Fresh). AreContents c.index-as_slice-number.result.kind c.index-as_slice-number.result.maximum
    fs) (sym c.as_slice-in-loop-number.ensures)
    (storage_fits c.args.deployment.now.storages c.args.contents.now c.loop-number.number c.index-as_slice-number.result
    c.index-contents-number.result c.requires.fit
    (omega (arith, same, within)) here c.index-contents-number.is)

pub returns-in_err-create_one-clause-outside : goal.returns-in_err-create_one-clause-outside
returns-in_err-create_one-clause-outside g c =
    let few = (few_contents c.args.deployment.now c.args.contents.now c.requires.deployment c.requires.fit).0 in
    let within : c.loop-number.number < length c.args.contents.now = c.loop-number-test.true in
    let from : c.args.built ≤ c.loop-number.number = c.loop-number.auto.number in
    more_outside g.D.Disk.told c.args.app c.args.bank c.args.built c.loop-number.number c.args.deployment.now.storages
    c.args.contents.now
    (g.D.Disk.medium c.args.disk.now) (g.D.Disk.medium c.loop-number.disk) (g.D.Disk.medium c.create_one.new.disk)
    (omega (arith, few, within)) from within
    c.loop-number.invariant.making c.in_err-create_one.ensures.outside c.in_err-create_one.ensures.time

pub returns-in_err-create_one-clause-time : goal.returns-in_err-create_one-clause-time
returns-in_err-create_one-clause-time g c =
    let few = (few_contents c.args.deployment.now c.args.contents.now c.requires.deployment c.requires.fit).0 in
    let within : c.loop-number.number < length c.args.contents.now = c.loop-number-test.true in
    let from : c.args.built ≤ c.loop-number.number = c.loop-number.auto.number in
    more_time g.D.Disk.told c.args.app c.args.bank c.args.built c.loop-number.number c.args.deployment.now.storages
    c.args.contents.now
    (g.D.Disk.medium c.args.disk.now) (g.D.Disk.medium c.loop-number.disk) (g.D.Disk.medium c.create_one.new.disk)
    (omega (arith, few, within)) from within
    c.loop-number.invariant.making c.in_err-create_one.ensures.outside c.in_err-create_one.ensures.time

pub loop-number-preserved : goal.loop-number-preserved
loop-number-preserved g c =
    let both = few_contents c.args.deployment.now c.args.contents.now c.requires.deployment c.requires.fit in
    let few = both.0 in
    let same = both.1 in
    let within : c.loop-number.number < length c.args.contents.now = c.loop-number-test.true in
    let from : c.args.built ≤ c.loop-number.number = c.loop-number.auto.number in
    let here = subst (λ (ds : List StorageConfig). c.index-as_slice-number.result
    ≡ get_or ds c.loop-number.number c.index-as_slice-number.result) c.as_slice.ensures c.index-as_slice-number.is
    in
    let new = g.D.Disk.medium c.create_one.new.disk in
    record {
      unmoved = λ before. absurd (omega (arith, before, from));
      making = making_more g.D.Disk.told c.args.app c.args.bank c.args.built c.loop-number.number
          c.args.deployment.now.storages c.args.contents.now
          (g.D.Disk.medium c.args.disk.now) (g.D.Disk.medium c.loop-number.disk) new (omega (arith, few, within)) from
          within
          c.loop-number.invariant.making c.in_ok-create_one.ensures.outside c.in_ok-create_one.ensures.time
          c.places_stand_apart.ensures.frame c.files_lie_apart.ensures.storage c.index-as_slice-number.result
          c.index-contents-number.result c.requires.app c.requires.bank
          (omega (arith, same, within)) here c.index-contents-number.is
          (λ tells. subst (λ (fs : List Fresh). store_at new.image
          (storage_shape c.args.app c.args.bank c.loop-number.number (storage_data c.index-as_slice-number.result))
          ≡ fresh_state 1 (fresh_map fs))
          c.as_slice-in-loop-number.ensures (c.in_ok-create_one.ensures.made tells))
          c.in_ok-create_one.ensures.clean c.in_ok-create_one.ensures.quiet c.in_ok-create_one.ensures.passes;
      places = more_places g.D.Disk.told c.args.app c.args.bank c.args.built c.loop-number.number
          c.args.deployment.now.storages c.args.contents.now
          (g.D.Disk.medium c.args.disk.now) (g.D.Disk.medium c.loop-number.disk) new c.index-as_slice-number.result
          c.index-contents-number.result from (omega (arith, same, within)) within here c.index-contents-number.is
          c.loop-number.invariant.places c.loop-number.invariant.making.time c.in_ok-create_one.ensures.time
          c.loop-number.invariant.making.quiet c.in_ok-create_one.ensures.place;
      written = more_written g.D.Disk.told c.args.app c.args.bank c.args.built c.loop-number.number
          c.args.deployment.now.storages c.args.contents.now
          (g.D.Disk.medium c.args.disk.now) (g.D.Disk.medium c.loop-number.disk) new c.index-as_slice-number.result
          c.index-contents-number.result from (omega (arith, same, within)) within here c.index-contents-number.is
          c.loop-number.invariant.written
          (subst (λ (fs : List Fresh). new.written ≤ (g.D.Disk.medium c.loop-number.disk).written
          + making_cost (storage_data c.index-as_slice-number.result) fs) c.as_slice-in-loop-number.ensures
          c.in_ok-create_one.ensures.written);
    }

pub returns-clause-made : goal.returns-clause-made
returns-clause-made g c = λ tells.
    let same = (few_contents c.args.deployment.now c.args.contents.now c.requires.deployment c.requires.fit).1 in
    let within : c.args.built ≤ length c.args.contents.now = c.requires.within in
    let past : length c.args.contents.now ≤ c.loop-number.number = c.loop-number-test.false in
    let below = c.loop-number.auto.number-end in
    made_all (g.D.Disk.medium c.loop-number.disk).image c.args.app c.args.bank c.args.deployment.now.storages
    c.args.contents.now 0 c.loop-number.number
    same (omega (arith, within, past, below)) (c.loop-number.invariant.making.made tells)

pub returns-in_err-create_one-clause-places : goal.returns-in_err-create_one-clause-places
returns-in_err-create_one-clause-places g c =
    let same = (few_contents c.args.deployment.now c.args.contents.now c.requires.deployment c.requires.fit).1 in
    let within : c.loop-number.number < length c.args.contents.now = c.loop-number-test.true in
    let from : c.args.built ≤ c.loop-number.number = c.loop-number.auto.number in
    let here = subst (λ (ds : List StorageConfig). c.index-as_slice-number.result
    ≡ get_or ds c.loop-number.number c.index-as_slice-number.result) c.as_slice.ensures c.index-as_slice-number.is
    in
    let new = g.D.Disk.medium c.create_one.new.disk in
    more_places g.D.Disk.told c.args.app c.args.bank c.args.built c.loop-number.number
    c.args.deployment.now.storages c.args.contents.now
    (g.D.Disk.medium c.args.disk.now) (g.D.Disk.medium c.loop-number.disk) new c.index-as_slice-number.result
    c.index-contents-number.result from (omega (arith, same, within)) within here c.index-contents-number.is
    c.loop-number.invariant.places c.loop-number.invariant.making.time c.in_err-create_one.ensures.time
    c.loop-number.invariant.making.quiet c.in_err-create_one.ensures.place

pub returns-in_err-create_one-clause-written : goal.returns-in_err-create_one-clause-written
returns-in_err-create_one-clause-written g c =
    let same = (few_contents c.args.deployment.now c.args.contents.now c.requires.deployment c.requires.fit).1 in
    let within : c.loop-number.number < length c.args.contents.now = c.loop-number-test.true in
    let from : c.args.built ≤ c.loop-number.number = c.loop-number.auto.number in
    let here = subst (λ (ds : List StorageConfig). c.index-as_slice-number.result
    ≡ get_or ds c.loop-number.number c.index-as_slice-number.result) c.as_slice.ensures c.index-as_slice-number.is
    in
    let new = g.D.Disk.medium c.create_one.new.disk in
    part_written g.D.Disk.told c.args.app c.args.bank c.args.built c.loop-number.number
    c.args.deployment.now.storages c.args.contents.now
    (g.D.Disk.medium c.args.disk.now) (g.D.Disk.medium c.loop-number.disk) new c.index-as_slice-number.result
    c.index-contents-number.result from (omega (arith, same, within)) within here c.index-contents-number.is
    c.loop-number.invariant.written
    (subst (λ (fs : List Fresh). new.written ≤ (g.D.Disk.medium c.loop-number.disk).written
    + making_cost (storage_data c.index-as_slice-number.result) fs) c.as_slice-in-loop-number.ensures
    c.in_err-create_one.ensures.written)

pub returns-clause-written : goal.returns-clause-written
returns-clause-written g c = let all = c.loop-number.invariant.written in omega (arith, all)
