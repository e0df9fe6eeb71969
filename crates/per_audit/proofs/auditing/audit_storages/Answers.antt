use Rattle.std.proofs.Common.{◌<◌, ◌≤◌, length, refl, subst, rules, arith}
use Rattle.disk_model.specs.Image.{Image}
use Rattle.deployment_model.specs.Data.{storage_data}
use Rattle.element_state.specs.States.{store_at}
use Rattle.deploy_laws.specs.Places.{storage_shape}
use Rattle.per_audit.specs.Audits.{listed_of, of_storage}
use Rattle.per_audit.specs.Noted.{AddsNotes}
use Rattle.per_audit.proofs.Remaining.{are_left_more, none_are_left, none_seen, seen_on, storage_keeps}
use Rattle.per_audit.proofs.auditing.audit_storages.Goals as goal

pub loop-number-init : goal.loop-number-init
loop-number-init g c = record {
  left = λ tells. record { elements = refl; findings = refl };
  seen = none_seen (g.met.D.Disk.lawful c.args.disk.now);
}

pub audit_storage-requires-clause-number : goal.audit_storage-requires-clause-number
audit_storage-requires-clause-number g c =
    let few = c.requires.few in
    let within : c.loop-number.number < length c.args.storages.now = search rules in
    omega (arith, few, within)

pub audit_storage-requires-clause-config : goal.audit_storage-requires-clause-config
audit_storage-requires-clause-config g c =
    storage_keeps c.args.storages.now c.loop-number.number c.index-storages-number.result c.requires.each (search rules)
    c.index-storages-number.is

pub loop-number-preserved : goal.loop-number-preserved
loop-number-preserved g c =
    let it = c.loop-number.invariant in
    let ok = c.in_ok-audit_storage.ensures in
    let app = c.args.app in
    let bank = c.args.bank in
    let number = c.loop-number.number in
    let s = storage_data c.index-storages-number.result in
    let within : number < length c.args.storages.now = search rules in
    record {
      left = λ tells. are_left_more (g.D.Disk.medium c.args.disk.now).image app bank c.args.storages.now
          c.args.notes.now number c.index-storages-number.result
          c.loop-number.notes c.audit_storage.new.notes within c.index-storages-number.is (it.left tells)
          (subst (λ (im : Image). AddsNotes (listed_of app bank s (store_at im (storage_shape app bank number s)))
          (of_storage app bank s (store_at im (storage_shape app bank number s)))
          c.loop-number.notes c.audit_storage.new.notes) it.seen.image (ok.adds tells));
      seen = seen_on it.seen (record {
        image = ok.image;
        idle = ok.idle;
        written = ok.written;
        passes =
            ok.passes;
        time = ok.time;
      });
    }

pub returns-clause-adds : goal.returns-clause-adds
returns-clause-adds g c = λ tells.
    let past : length c.args.storages.now ≤ c.loop-number.number = search rules in
    none_are_left (g.D.Disk.medium c.args.disk.now).image c.args.app c.args.bank c.args.storages.now c.args.notes.now
    c.loop-number.number c.loop-number.notes past
    (c.loop-number.invariant.left tells)
