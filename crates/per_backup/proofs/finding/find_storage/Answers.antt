use Rattle.std.proofs.Common.{◌∙◌, refl, sym, arith}
use Rattle.std.proofs.lemmas.List.{length-map}
use Rattle.deployment_model.specs.Data.{deployment_data, storage_data}
use Rattle.per_backup.proofs.Seen.{config_there}
use Rattle.per_backup.proofs.finding.find_storage.Goals as goal

pub returns-clause-found : goal.returns-clause-found
returns-clause-found c =
    let n = c.in-Some.number in
    let storages = c.args.active.storages in
    let there = config_there storages c.into_vec.result.items n c.remove-config.result c.into_vec.ensures
    c.in-Some.ensures.bound c.remove-config.ensures.value in
    let bound = c.in-Some.ensures.bound in
    let few = c.requires.active.few in
    let long = length-map storages storage_data in
    record {
      number = n;
      by_name = sym c.number.ensures.found ∙ c.in-Some.is;
      config = there;
      in_bank = c.requires.bank;
      in_slots = omega (arith, bound, few, long);
      keeps = c.found_is_kept.ensures.storage (deployment_data c.args.active) c.args.name.now _ c.requires.active
          (sym c.in-Some.ensures.leads ∙ there);
      shape = c.in_ok-shape.ensures.shape;
      is_shape = c.in_ok-shape.ensures.keeps;
      configured = c.in_ok-shape.ensures.configured;
    }
