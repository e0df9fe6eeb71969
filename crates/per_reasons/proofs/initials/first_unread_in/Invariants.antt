use Rattle.std.proofs.Common.{◌≡◌, drop, map}
use Rattle.serde_json.specs.View.{view}
use Rattle.per_reasons.specs.Initials.{first_unread_in}
use Rattle.per_reasons.proofs.initials.first_unread_in.Given as goal

-- it is the first in what is left
abbrev pub invariant-loop-storage : goal.invariant-loop-storage
invariant-loop-storage l = first_unread_in (map view l.storages)
    ≡ first_unread_in (map view (drop l.storage-index l.storages))
