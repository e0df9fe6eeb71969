-- The changes of a commit, by the names of their elements.
use Rattle.std.specs.Prelude.{ℕ, List, Option, Some, None, find}
use Rattle.std.specs.Str.{bytes_eq}
use Rattle.per_base.specs.declared.elements.Change.{Change}
use Rattle.per_base.specs.declared.elements.Change.TheVariants.{Put, Remove, Touch}
use Rattle.per_base.specs.declared.elements.Element.{Element}

-- the name of the element that a change is of
abbrev pub changed_name : Change → List ℕ
changed_name (Put f) = f.name
changed_name (Remove name) = name
changed_name (Touch name info) = name

-- the first of the changes that is of the element with this name, if one is
abbrev pub change_at : List ℕ → List Change → Option Change
change_at name changes = find (λ change. bytes_eq (changed_name change) name) changes

-- the change that takes away the element of this name: none where there is no such element
abbrev pub removal : List ℕ → Option Element → Option Change
removal name None = None
removal name (Some old) = Some (Remove name)
