use Rattle.std.proofs.Common.{◌≡◌, drop}
use Rattle.std.specs.List.{list_all}
use Rattle.manifest.specs.Rules.{has_type}
use Rattle.manifest.specs.Views.{listed_views}
use Rattle.manifest.proofs.element_rules.keys_have_types.Given as goal

-- what is left decides
abbrev pub invariant-loop-element : goal.invariant-loop-element
invariant-loop-element l = list_all has_type (listed_views l.elements)
    ≡ list_all has_type (listed_views (drop l.element-index l.elements))
