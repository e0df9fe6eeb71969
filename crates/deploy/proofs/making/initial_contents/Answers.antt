use Rattle.std.proofs.Common.{◌≡◌, ◌+◌, ◌<◌, ◌≤◌, length, get_or, map, take, sym, subst, ◌∙◌, List}
use Rattle.per_base.specs.declared.elements.Cause.TheVariants.{Installation}
use Rattle.per_base.specs.declared.elements.Fresh.{Fresh}
use Rattle.deployment_model.specs.Data.{storage_data}
use Rattle.deployment_model.specs.declared.configs.StorageConfig.{StorageConfig}
use Rattle.index_text.specs.Contents.{AreContents}
use Rattle.update_plan.specs.Plans.{AllFit}
use Rattle.update_plan.specs.Rows.{initial_contents}
use Rattle.deploy.proofs.Initial.{all_fit, all_initial, more_fit, more_images}
use Rattle.deploy.proofs.MadeStorages.{storage_keeps}
use Rattle.deploy.proofs.making.initial_contents.Goals as goal

pub initial_of-requires : goal.initial_of-requires
initial_of-requires c =
    let here : c.storage-item.result ≡ get_or c.args.deployment.now.storages c.loop-storage.storage-index
    c.storage-item.result =
    subst (λ (ds : List StorageConfig). c.storage-item.result
    ≡ get_or ds c.loop-storage.storage-index c.storage-item.result) c.as_slice-storage-items.ensures
    c.storage-item.is in
    let within : c.loop-storage.storage-index < length c.args.deployment.now.storages =
    subst (λ (ds : List StorageConfig). c.loop-storage.storage-index < length ds) c.as_slice-storage-items.ensures
    c.loop-storage-test.true in
    storage_keeps c.args.deployment.now.storages c.loop-storage.storage-index c.storage-item.result c.requires.each
    within here

pub loop-storage-preserved : goal.loop-storage-preserved
loop-storage-preserved c =
    let here : c.storage-item.result ≡ get_or c.args.deployment.now.storages c.loop-storage.storage-index
    c.storage-item.result =
    subst (λ (ds : List StorageConfig). c.storage-item.result
    ≡ get_or ds c.loop-storage.storage-index c.storage-item.result) c.as_slice-storage-items.ensures
    c.storage-item.is in
    let within : c.loop-storage.storage-index < length c.args.deployment.now.storages =
    subst (λ (ds : List StorageConfig). c.loop-storage.storage-index < length ds) c.as_slice-storage-items.ensures
    c.loop-storage-test.true in
    let made : c.new.result ≡ initial_contents (storage_data c.storage-item.result) Installation c.args.now =
    c.new.ensures ∙ c.in_ok-contents.ensures.contents in
    record {
      contents = c.in_ok-push.ensures.items
          ∙ more_images (λ (x : StorageConfig). initial_contents (storage_data x) Installation c.args.now)
          c.args.deployment.now.storages c.loop-storage.all.items
          c.loop-storage.storage-index c.storage-item.result c.new.result within here c.loop-storage.invariant.contents
          made;
      fit = subst (λ (cs : List (List Fresh)). AllFit (map storage_data
          (take (c.loop-storage.storage-index + 1) c.args.deployment.now.storages)) cs)
          (sym c.in_ok-push.ensures.items)
          (more_fit c.args.deployment.now.storages c.loop-storage.all.items c.loop-storage.storage-index
          c.storage-item.result c.new.result within here
          c.loop-storage.invariant.fit
          (subst (λ (fs : List Fresh). AreContents c.storage-item.result.kind c.storage-item.result.maximum fs)
          (sym c.new.ensures) c.in_ok-contents.ensures.limits));
    }

pub returns-clause-contents : goal.returns-clause-contents
returns-clause-contents c =
    let past : length c.args.deployment.now.storages ≤ c.loop-storage.storage-index =
    subst (λ (ds : List StorageConfig). length ds ≤ c.loop-storage.storage-index) c.as_slice-storage-items.ensures
    c.loop-storage-test.false in
    all_initial c.args.now c.args.deployment.now c.loop-storage.all.items c.loop-storage.storage-index past
    c.loop-storage.invariant.contents

pub returns-clause-fit : goal.returns-clause-fit
returns-clause-fit c =
    let past : length c.args.deployment.now.storages ≤ c.loop-storage.storage-index =
    subst (λ (ds : List StorageConfig). length ds ≤ c.loop-storage.storage-index) c.as_slice-storage-items.ensures
    c.loop-storage-test.false in
    all_fit c.args.deployment.now.storages c.loop-storage.all.items c.loop-storage.storage-index past
    c.loop-storage.invariant.fit
