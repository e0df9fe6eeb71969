use Rattle.std.proofs.Common.{◌≡◌, drop}
use Rattle.std.specs.List.{list_all}
use Rattle.manifest.specs.Rules.{may_start}
use Rattle.manifest.specs.Views.{listed_views}
use Rattle.manifest.proofs.element_rules.initials_are_read.Given as goal

-- what is left decides
abbrev pub invariant-loop-element : goal.invariant-loop-element
invariant-loop-element l = list_all may_start (listed_views l.elements)
    ≡ list_all may_start (listed_views (drop l.element-index l.elements))
