use Rattle.std.proofs.Common.{◌≡◌, drop, map}
use Rattle.serde_json.specs.View.{view}
use Rattle.per_reasons.specs.Initials.{first_unread}
use Rattle.per_reasons.proofs.initials.first_unread.Given as goal

-- it is the first of what is left
abbrev pub invariant-loop-key : goal.invariant-loop-key
invariant-loop-key l = first_unread (map view l.keys) ≡ first_unread (map view (drop l.key-index l.keys))
