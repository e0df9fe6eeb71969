use Rattle.std.proofs.Common.{◌≡◌, drop}
use Rattle.std.specs.List.{list_all}
use Rattle.manifest.specs.Rules.{has_different_elements}
use Rattle.manifest.specs.Views.{listed_views}
use Rattle.manifest.proofs.element_rules.elements_differ.Given as goal

-- what is left decides
abbrev pub invariant-loop-storage : goal.invariant-loop-storage
invariant-loop-storage l = list_all has_different_elements (listed_views l.storages)
    ≡ list_all has_different_elements (listed_views (drop l.storage-index l.storages))
