use Rattle.std.proofs.Common.{rules, sym, Ok, Err}
use Rattle.per_base.specs.Names.{name_cmp}
use Rattle.deployment_model.specs.Data.{ElementData, element_data, storage_data}
use Rattle.deployment_model.specs.declared.configs.ElementConfig.{ElementConfig}
use Rattle.std.specs.Str.{bytes_eq}
use Rattle.deployment_model.specs.Conditions.{IsElement}
use Rattle.deployment_model.proofs.Found.{all_found}
use Rattle.deployment_model.proofs.Search.{answers_so, found}
use Rattle.deployment_model.proofs.configs.StorageConfig.element.Goals as goal

pub returns-in-Ok-clause-found : goal.returns-in-Ok-clause-found
returns-in-Ok-clause-found c =
    let things = c.as_slice-elements.result.now in
    let by_name = c.in-Ok.ensures.position (λ (x : ElementConfig). name_cmp x.name c.args.name.now)
    (answers_so _ _ (λ (x : ElementConfig). name_cmp x.name c.args.name.now) (λ a r f called. search rules)) in
    let at = found element_data (λ (x : ElementData). x.name) c.args.name.now things
    (rw c.as_slice-elements.ensures c.requires.ascends) (Ok c.in-Ok.place) c.in-Ok.ensures.bound by_name in
    rw (← c.as_slice-elements.ensures) (sym (at.0 c.index-elements-place.result c.index-elements-place.is))

pub returns-in-Err-clause-found : goal.returns-in-Err-clause-found
returns-in-Err-clause-found c =
    let things = c.as_slice-elements.result.now in
    let by_name = c.in-Err.ensures.position (λ (x : ElementConfig). name_cmp x.name c.args.name.now)
    (answers_so _ _ (λ (x : ElementConfig). name_cmp x.name c.args.name.now) (λ a r f called. search rules)) in
    let nowhere = found element_data (λ (x : ElementData). x.name) c.args.name.now things
    (rw c.as_slice-elements.ensures c.requires.ascends) (Err c.in-Err.field-0) c.in-Err.ensures.bound by_name in
    rw (← c.as_slice-elements.ensures) (sym nowhere.0)

pub returns-in-Ok-clause-keeps : goal.returns-in-Ok-clause-keeps
returns-in-Ok-clause-keeps c = all_found (IsElement (storage_data c.args.self.now).kind)
    (λ (x : ElementData). bytes_eq x.name c.args.name.now) _ c.requires.each _ (sym (returns-in-Ok-clause-found c))
