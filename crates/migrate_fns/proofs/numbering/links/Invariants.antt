use Rattle.std.proofs.Common.{◌≡◌, map, length}
use Rattle.migrate_fns.specs.Links.{AreLinks, KeepsNumbers}
use Rattle.migrate_fns.specs.Stored.{rule_of}
use Rattle.migrate_fns.proofs.numbering.links.Given as goal

abbrev pub invariant-loop-place : goal.invariant-loop-place
invariant-loop-place g l = AreLinks (map rule_of l.list) l.element l.types l.links.items
    × (length l.links.items ≡ l.place)
    × KeepsNumbers l.fn.types l.types
