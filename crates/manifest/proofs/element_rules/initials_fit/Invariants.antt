use Rattle.std.proofs.Common.{◌≡◌, drop}
use Rattle.std.specs.List.{list_all}
use Rattle.manifest.specs.Rules.{has_room}
use Rattle.manifest.specs.Views.{listed_views}
use Rattle.manifest.proofs.element_rules.initials_fit.Given as goal

-- what is left decides
abbrev pub invariant-loop-storage : goal.invariant-loop-storage
invariant-loop-storage l = list_all has_room (listed_views l.storages)
    ≡ list_all has_room (listed_views (drop l.storage-index l.storages))
