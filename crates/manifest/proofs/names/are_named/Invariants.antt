use Rattle.std.proofs.Common.{◌≡◌, drop}
use Rattle.std.specs.List.{list_all}
use Rattle.manifest.specs.Rules.{is_named}
use Rattle.manifest.specs.Views.{listed_views}
use Rattle.manifest.proofs.names.are_named.Given as goal

-- what is left decides
abbrev pub invariant-loop-thing : goal.invariant-loop-thing
invariant-loop-thing l = list_all is_named (listed_views l.things)
    ≡ list_all is_named (listed_views (drop l.thing-index l.things))
