use Rattle.std.proofs.Common.{◌∙◌, None, refl, sym, arith}
use Rattle.std.proofs.lemmas.List.{length-map}
use Rattle.deployment_model.specs.Data.{deployment_data, storage_data}
use Rattle.root_text.specs.Views.{version_said}
use Rattle.deploy_laws.specs.Apps.{named_in_bank}
use Rattle.per_runtime.proofs.storage_lemmas.Found.{is_asked}
use Rattle.per_runtime.proofs.storage_lemmas.SlotLaws.{config_there}
use Rattle.per_runtime.proofs.storages.finding.find_in.Goals as goal

pub returns-clause-located : goal.returns-clause-located
returns-clause-located c =
    let i = c.args.installed.now in
    let n = c.in-Some.number in
    let there = config_there i.active.deployment.storages c.as_slice.result.now n c.index-as_slice-number.result
    c.as_slice.ensures c.in-Some.ensures.bound c.index-as_slice-number.is in
    let bound = c.in-Some.ensures.bound in
    let few = c.requires.parts.active.keeps.few in
    let long = length-map i.active.deployment.storages storage_data in
    record {
      app_is = refl;
      version = named_in_bank i.bank (version_said i.active);
      active = refl;
      bank = refl;
      place = there;
      within = record {
        below = c.requires.below;
        in_bank = c.requires.parts.in_bank;
        in_slots = omega (arith, bound, few, long);
        keeps = c.found_is_kept.ensures.storage (deployment_data i.active.deployment) c.args.name.now _
            c.requires.parts.active.keeps (sym c.in-Some.ensures.leads ∙ there);
      };
    }

pub returns-clause-found : goal.returns-clause-found
returns-clause-found c = λ states state at.
    let i = c.args.installed.now in
    let n = c.in-Some.number in
    let there = config_there i.active.deployment.storages c.as_slice.result.now n c.index-as_slice-number.result
    c.as_slice.ensures c.in-Some.ensures.bound c.index-as_slice-number.is in
    is_asked (named_in_bank i.bank (version_said i.active)) states c.args.kind _ n _ state
    (sym c.number.ensures.found ∙ c.in-Some.is) there (sym c.is_of_kind.ensures ∙ c.if-not-is_of_kind.false) at

pub returns-clause-named : goal.returns-clause-named
returns-clause-named c = λ states state at.
    let i = c.args.installed.now in
    let n = c.in-Some.number in
    let there = config_there i.active.deployment.storages c.as_slice.result.now n c.index-as_slice-number.result
    c.as_slice.ensures c.in-Some.ensures.bound c.index-as_slice-number.is in
    is_asked (named_in_bank i.bank (version_said i.active)) states None _ n _ state (sym c.number.ensures.found
    ∙ c.in-Some.is)
    there refl at

pub returns-clause-kind : goal.returns-clause-kind
returns-clause-kind c = sym c.is_of_kind.ensures ∙ c.if-not-is_of_kind.false
