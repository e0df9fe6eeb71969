use Rattle.std.proofs.Common.{◌≡◌, ◌++◌, drop}
use Rattle.manifest.specs.Parts.{all_elements}
use Rattle.manifest.specs.Views.{listed_views}
use Rattle.manifest.proofs.parts.elements_of.Given as goal

-- what was found, and then the elements of what is left
abbrev pub invariant-loop-storage : goal.invariant-loop-storage
invariant-loop-storage l = listed_views l.found.items ++ all_elements (listed_views (drop l.storage-index l.storages))
    ≡ all_elements (listed_views l.storages)
