use Rattle.std.proofs.Common.{◌≡◌, List, Ok, Err, map, sym, subst}
use Rattle.std.specs.Prelude.{Result}
use Rattle.std.specs.List.{AllByRecursion}
use Rattle.per_base.specs.declared.errors.PerError.{PerError}
use Rattle.root_text.specs.declared.versions.VersionText.{VersionText}
use Rattle.deployment_model.specs.Conditions.{IsStorage}
use Rattle.deployment_model.specs.Data.{deployment_data, storage_data}
use Rattle.deployment_model.specs.declared.configs.StorageConfig.{StorageConfig}
use Rattle.update_plan.specs.Plans.{AllFit}
use Rattle.deploy_rows.specs.Rows.{deployment_of, made_states}
use Rattle.deploy.specs.Roots.{SaysDeployment}
use Rattle.deploy.specs.Versions.{TellsRow}
use Rattle.per_backup.specs.Backups.{states_from}
use Rattle.per_backup.proofs.Lists.{err_so, ok_so}
use Rattle.per_backup.proofs.Filled.{made_ready, manifest_refused, texts_refused}
use Rattle.per_backup.proofs.filling.prepare.Goals as goal

pub returns-in-Err-clause-refused : goal.returns-in-Err-clause-refused
returns-in-Err-clause-refused c = manifest_refused c.args.manifest.now c.args.texts.now c.in-Err.error
    (subst (λ (r : Result VersionText PerError). TellsRow (deployment_of c.args.manifest.now) r) c.in-Err.is
    c.in_ok-version.ensures.told)

pub contents_in-requires : goal.contents_in-requires
contents_in-requires c =
    let kept = ok_so c.in_ok-version.field-0 c.in-Ok.version SaysDeployment c.in-Ok.is c.in_ok-version.ensures.kept in
    subst (λ (xs : List StorageConfig). AllByRecursion IsStorage (map storage_data xs)) (sym c.as_slice.ensures)
    kept.keeps.each

pub returns-in-Err-2-clause-refused : goal.returns-in-Err-2-clause-refused
returns-in-Err-2-clause-refused c = texts_refused c.args.manifest.now c.args.texts.now
    (deployment_data c.in-Ok.version.deployment)
    (subst (λ (r : Result VersionText PerError). TellsRow (deployment_of c.args.manifest.now) r) c.in-Ok.is
    c.in_ok-version.ensures.told) c.in-Err-2.error
    (subst (λ (xs : List StorageConfig). states_from (map storage_data xs) c.args.texts.now ≡ Err c.in-Err-2.error)
    c.as_slice.ensures
    (err_so c.in_ok-contents.field-0 c.in-Err-2.error
    (λ e. states_from (map storage_data c.as_slice.result.now) c.args.texts.now ≡ Err e) c.in-Err-2.is
    c.in_ok-contents.ensures.refused))

pub returns-in-Ok-2-clause-ready : goal.returns-in-Ok-2-clause-ready
returns-in-Ok-2-clause-ready c =
    let kept = ok_so c.in_ok-version.field-0 c.in-Ok.version SaysDeployment c.in-Ok.is c.in_ok-version.ensures.kept in
    record {
      version = kept;
      fit = subst (λ (xs : List StorageConfig). AllFit (map storage_data xs) c.in-Ok-2.contents.items)
          c.as_slice.ensures
          (ok_so c.in_ok-contents.field-0 c.in-Ok-2.contents
          (λ cs. AllFit (map storage_data c.as_slice.result.now) cs.items) c.in-Ok-2.is c.in_ok-contents.ensures.fit);
      row = made_ready c.args.manifest.now c.args.texts.now (deployment_data c.in-Ok.version.deployment)
          (subst (λ (r : Result VersionText PerError). TellsRow (deployment_of c.args.manifest.now) r) c.in-Ok.is
          c.in_ok-version.ensures.told) c.in-Ok-2.contents.items
          (subst (λ (xs : List StorageConfig). states_from (map storage_data xs) c.args.texts.now
          ≡ Ok (made_states c.in-Ok-2.contents.items)) c.as_slice.ensures
          (ok_so c.in_ok-contents.field-0 c.in-Ok-2.contents
          (λ cs. states_from (map storage_data c.as_slice.result.now) c.args.texts.now ≡ Ok (made_states cs.items))
          c.in-Ok-2.is c.in_ok-contents.ensures.states));
    }

pub returns-in-Ok-2-clause-text : goal.returns-in-Ok-2-clause-text
returns-in-Ok-2-clause-text c = ok_so c.in_ok-version.field-0 c.in-Ok.version (λ v. v.text ≡ c.args.manifest.now) c.in-Ok.is
    c.in_ok-version.ensures.text
