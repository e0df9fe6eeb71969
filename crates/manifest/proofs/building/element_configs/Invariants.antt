use Rattle.std.proofs.Common.{◌≡◌, map, take}
use Rattle.deployment_model.specs.Data.{element_data}
use Rattle.manifest.specs.Contents.{element_said}
use Rattle.manifest.specs.Views.{listed_views}
use Rattle.manifest.proofs.building.element_configs.Given as goal

abbrev pub invariant-loop-element : goal.invariant-loop-element
invariant-loop-element l = map element_data l.configs.items
    ≡ map element_said (listed_views (take l.element-index l.elements))
