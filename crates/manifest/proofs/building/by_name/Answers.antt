use Rattle.std.proofs.Common.{ap, map, ◌∙◌, List, ℕ}
use Rattle.manifest.specs.Parts.{ListedThing}
use Rattle.manifest.specs.Views.{listed_views}
use Rattle.manifest.proofs.NameLaws.{values_viewed}
use Rattle.manifest.proofs.building.by_name.Goals as goal

pub returns : goal.returns
returns c = ap listed_views c.in_ok-ordered.ensures ∙ values_viewed c.in_ok-found.found.entries
    ∙ ap (map (λ (e : List ℕ × ListedThing). e.1)) c.in_ok-found.ensures
