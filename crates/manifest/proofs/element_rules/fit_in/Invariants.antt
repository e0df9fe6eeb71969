use Rattle.std.proofs.Common.{◌≡◌, ◌+◌, drop}
use Rattle.std.specs.Prelude.{sum_by}
use Rattle.manifest.specs.Rules.{initial_size}
use Rattle.manifest.specs.Views.{listed_views}
use Rattle.manifest.proofs.element_rules.fit_in.Given as goal

-- the room that is left is for what is left
abbrev pub invariant-loop-element : goal.invariant-loop-element
invariant-loop-element l = sum_by initial_size (listed_views l.elements) + l.room
    ≡ l.fn.maximum + sum_by initial_size (listed_views (drop l.element-index l.elements))
