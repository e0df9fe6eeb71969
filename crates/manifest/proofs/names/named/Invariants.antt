use Rattle.std.proofs.Common.{◌≡◌, [], drop}
use Rattle.std.specs.Prelude.{fold}
use Rattle.manifest.specs.Parts.{with_named}
use Rattle.manifest.specs.Views.{listed_views, named_views}
use Rattle.manifest.proofs.names.named.Given as goal

-- what was found, with what is left
abbrev pub invariant-loop-thing : goal.invariant-loop-thing
invariant-loop-thing l = fold with_named (named_views l.found.entries) (listed_views (drop l.thing-index l.things))
    ≡ fold with_named [] (listed_views l.things)
