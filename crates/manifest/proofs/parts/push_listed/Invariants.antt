use Rattle.std.proofs.Common.{◌≡◌, ◌++◌, drop, map}
use Rattle.serde_json.specs.View.{view}
use Rattle.manifest.specs.Parts.{things_of_kind}
use Rattle.manifest.specs.Views.{listed_views}
use Rattle.manifest.proofs.parts.push_listed.Given as goal

-- what was found, and then what is left
abbrev pub invariant-loop-value : goal.invariant-loop-value
invariant-loop-value l = listed_views l.found.items ++ things_of_kind l.kind (map view (drop l.value-index l.things))
    ≡ listed_views l.fn.found.items ++ things_of_kind l.kind (map view l.things)
