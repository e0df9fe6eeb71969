use Rattle.std.proofs.Common.{rules, sym, Ok, Err}
use Rattle.per_base.specs.Names.{name_cmp}
use Rattle.deployment_model.specs.Data.{StorageData, storage_data}
use Rattle.deployment_model.specs.declared.configs.StorageConfig.{StorageConfig}
use Rattle.std.specs.Str.{bytes_eq}
use Rattle.deployment_model.proofs.Found.{place_found}
use Rattle.deployment_model.proofs.Search.{answers_so, found}
use Rattle.deployment_model.proofs.configs.Deployment.number.Goals as goal

pub returns-in-Ok-clause-found : goal.returns-in-Ok-clause-found
returns-in-Ok-clause-found c =
    let things = c.as_slice-storages.result.now in
    let by_name = c.in-Ok.ensures.position (λ (x : StorageConfig). name_cmp x.name c.args.name.now)
    (answers_so _ _ (λ (x : StorageConfig). name_cmp x.name c.args.name.now) (λ a r f called. search rules)) in
    let at = found storage_data (λ (x : StorageData). x.name) c.args.name.now things
    (rw c.as_slice-storages.ensures c.requires.ascends) (Ok c.in-Ok.place) c.in-Ok.ensures.bound by_name in
    rw (← c.as_slice-storages.ensures) (sym at.1)

pub returns-in-Err-clause-found : goal.returns-in-Err-clause-found
returns-in-Err-clause-found c =
    let things = c.as_slice-storages.result.now in
    let by_name = c.in-Err.ensures.position (λ (x : StorageConfig). name_cmp x.name c.args.name.now)
    (answers_so _ _ (λ (x : StorageConfig). name_cmp x.name c.args.name.now) (λ a r f called. search rules)) in
    let nowhere = found storage_data (λ (x : StorageData). x.name) c.args.name.now things
    (rw c.as_slice-storages.ensures c.requires.ascends) (Err c.in-Err.field-0) c.in-Err.ensures.bound by_name in
    rw (← c.as_slice-storages.ensures) (sym nowhere.1)

pub returns-in-Ok-clause-leads : goal.returns-in-Ok-clause-leads
returns-in-Ok-clause-leads c = (place_found (λ (x : StorageData). bytes_eq x.name c.args.name.now) _ _
    (sym (returns-in-Ok-clause-found c))).1
