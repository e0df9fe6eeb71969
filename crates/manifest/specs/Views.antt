-- What denotes a part of a manifest: its kind and the value that it is.
use Rattle.std.specs.Prelude.{ℕ, List, map}
use denote.Ref.{Bor}
use Rattle.serde_json.specs.View.{view}
use Rattle.manifest.specs.declared.parts.ListedThing.{ListedThing as Part}
use Rattle.manifest.specs.Parts.{ListedThing}

-- what the code has of a storage or an element, as the kind and the JSON value that it is
abbrev pub listed_view : Part → ListedThing
listed_view p = (p.kind, view p.value.now)

-- the same of several storages or elements, in order
abbrev pub listed_views : List Part → List ListedThing
listed_views ps = map listed_view ps

-- things by their names
abbrev pub named_views : List (Bor (List ℕ) × Part) → List (List ℕ × ListedThing)
named_views es = map (λ e. (e.0.now, listed_view e.1)) es
