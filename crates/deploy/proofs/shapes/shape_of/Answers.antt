use Rattle.std.proofs.Common.{ℕ, List, ap, ◌∙◌}
use Rattle.disk_model.specs.declared.place.Place.{Place}
use Rattle.deployment_model.specs.declared.configs.StorageConfig.{StorageConfig}
use Rattle.element_state.specs.declared.shapes.Shape.{Shape}
use Rattle.deploy_laws.specs.Places.{storage_shape}
use Rattle.deploy.proofs.shapes.shape_of.Goals as goal

abbrev shape_with : StorageConfig → List ℕ → Place → Shape
shape_with config name place = record {
  name = name;
  place = place;
  kind = config.kind;
  m = config.m;
  scope = config.scope;
  allowed = config.maximum;
}

pub returns-clause-shape : goal.returns-clause-shape
unfolding storage_shape
returns-clause-shape c =
    ap (λ (name : List ℕ). shape_with c.args.config.now name c.storage_place.result) c.in_ok-name.ensures
    ∙ ap (λ (place : Place). shape_with c.args.config.now c.args.config.now.name place) c.storage_place.ensures
