use Rattle.std.proofs.Common.{◌≤◌, map, length}
use Rattle.value_model.specs.Views.{kind_of}
use Rattle.migrate_fns.specs.Chains.{links}
use Rattle.migrate_fns.specs.Stored.{rule_of}
use Rattle.migrate_fns.proofs.Levels.{Left}
use Rattle.migrate_fns.proofs.search.Search.trace.Given as goal

abbrev pub invariant-loop-left : goal.invariant-loop-left
invariant-loop-left g l = (l.left ≤ length l.levels)
    × Left (map rule_of l.self.list.now) l.self.element.now (kind_of l.self.to.now) l.self.types l.places.items l.left
    l.at (links (map rule_of l.self.list.now) l.self.element.now (kind_of l.self.to.now) (length l.levels)
    (kind_of l.self.from.now))

abbrev pub decreases-loop-left : goal.decreases-loop-left
decreases-loop-left g l = l.left
