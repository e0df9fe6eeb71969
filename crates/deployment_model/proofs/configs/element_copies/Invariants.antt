use Rattle.std.proofs.Common.{◌≡◌, take, map}
use Rattle.deployment_model.specs.Data.{element_data}
use Rattle.deployment_model.proofs.configs.element_copies.Given as goal

abbrev pub invariant-loop-element : goal.invariant-loop-element
invariant-loop-element l = map element_data l.copies.items ≡ map element_data (take l.element-index l.elements)
