use Rattle.std.proofs.Common.{◌≡◌, map, length}
use Rattle.value_model.specs.Views.{kind_of}
use Rattle.migrate_fns.specs.Links.{AreLevels, levels_view}
use Rattle.migrate_fns.specs.Stored.{rule_of}
use Rattle.migrate_fns.proofs.Levels.{IsLeft}
use Rattle.migrate_fns.proofs.search.Search.run.Given as goal

-- no list of as many links as there are levels leads to the end
abbrev pub invariant-loop : goal.invariant-loop
invariant-loop g l = AreLevels (map rule_of l.self.list.now) l.self.element.now (kind_of l.self.to.now) l.self.types
    (levels_view l.levels.items)
    × (length l.levels.items ≡ l.counter)
    × IsLeft (map rule_of l.self.list.now) l.self.element.now (kind_of l.self.to.now) (kind_of l.self.from.now)
    l.counter
