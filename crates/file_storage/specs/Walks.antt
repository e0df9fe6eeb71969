-- The changes that make the stored files into the working ones, as one walk along both maps finds them.
use Rattle.std.specs.Prelude.{ℕ, List, [], ◌∷◌, map, Some}
use Rattle.std.specs.List.{cons_option}
use Rattle.std.specs.Ordering.{match_ordering}
use Rattle.per_base.specs.declared.elements.Element.{Element}
use Rattle.per_base.specs.Maps.{Map}
use Rattle.per_base.specs.Names.{name_cmp}
use Rattle.per_base.specs.declared.elements.Change.{Change}
use Rattle.per_base.specs.declared.elements.Change.TheVariants.{Put, Remove, Touch}
use Rattle.element_maps.specs.Differences.{arrival, put}

-- the change that removes this stored file
abbrev pub removed : List ℕ × Element → Change
removed e = Remove e.0

-- the change without the bytes that it puts
abbrev pub bare : Change → Change
bare (Put f) = Put (record f { bytes = [] })
bare (Remove name) = Remove name
bare (Touch name info) = Touch name info

-- the changes along the stored files up to the name of this working file and at it, then those of the rest
abbrev pub passing : List ℕ × Element → (rest : Map → List Change) → (stored : Map) → List Change
passing file rest [] = put file.0 file.1 ∷ rest []
passing file rest (e ∷ stored) = match_ordering (name_cmp e.0 file.0)
    (removed e ∷ passing file rest stored)
    (cons_option (arrival file.0 (Some e.1) file.1) (rest stored))
    (put file.0 file.1 ∷ rest (e ∷ stored))

-- the changes that make the map `stored` into the map `files`, in the order of the names: one where the two differ,
-- and none else
abbrev pub walked : (files stored : Map) → List Change
walked [] stored = map removed stored
walked (file ∷ files) stored = passing file (walked files) stored
