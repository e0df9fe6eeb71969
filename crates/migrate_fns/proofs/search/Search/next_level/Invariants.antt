use Rattle.std.proofs.Common.{map, length}
use Rattle.value_model.specs.Views.{kind_of}
use Rattle.migrate_fns.specs.Stored.{rule_of}
use Rattle.migrate_fns.proofs.Levels.{Begun}
use Rattle.migrate_fns.proofs.search.Search.next_level.Given as goal

abbrev pub invariant-loop-link : goal.invariant-loop-link
invariant-loop-link g l = Begun (map rule_of l.self.list.now) l.self.element.now (kind_of l.self.to.now) l.self.types
    (length l.levels) l.link-index l.level.items
