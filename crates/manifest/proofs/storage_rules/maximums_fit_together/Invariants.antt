use Rattle.std.proofs.Common.{◌≡◌, ◌+◌, drop}
use Rattle.std.specs.Prelude.{sum_by}
use Rattle.manifest.specs.Parts.{ListedThing, maximum_in}
use Rattle.manifest.specs.Views.{listed_views}
use Rattle.manifest.proofs.storage_rules.maximums_fit_together.Given as goal

-- the room that is left is for what is left
abbrev pub invariant-loop-storage : goal.invariant-loop-storage
invariant-loop-storage l = sum_by (λ (s : ListedThing). maximum_in s.1) (listed_views l.storages) + l.room
    ≡ 16777216 + sum_by (λ (s : ListedThing). maximum_in s.1) (listed_views (drop l.storage-index l.storages))
