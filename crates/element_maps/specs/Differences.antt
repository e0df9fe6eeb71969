-- What makes one map of elements into another, as the changes of a commit.
use Rattle.std.specs.Prelude.{◌≡◌, ℕ, List, map, Bool, false, cond, ◌&&◌, nat_eq, Option, None, Some}
use Rattle.std.specs.List.Sorted.{IsStrictlySortedBy}
use Rattle.std.specs.Str.{bytes_eq}
use Rattle.per_base.specs.declared.elements.Content.{Content}
use Rattle.per_base.specs.declared.elements.Content.TheVariants.{Good, Bad}
use Rattle.per_base.specs.declared.elements.Element.{Element}
use Rattle.per_base.specs.declared.elements.FileInfo.{FileInfo}
use Rattle.per_base.specs.Maps.{Map, element_at}
use Rattle.per_base.specs.Names.{name_cmp}
use Rattle.per_base.specs.declared.elements.Change.{Change}
use Rattle.per_base.specs.declared.elements.Change.TheVariants.{Put, Touch}
use Rattle.per_base.specs.Changes.{changed_name, change_at, removal}
use Rattle.per_base.specs.Contents.{readable_bytes}
use Rattle.element_state.specs.Changes.{same_element}

-- both can be read, and have the same bytes
abbrev pub same_value : Content → Content → Bool
same_value (Good old) (Good new) = bytes_eq old new
same_value (Good old) (Bad salvage) = false
same_value (Bad salvage) new = false

-- both can be read, and have the same bytes under the same length
abbrev pub same_bytes : Element → Element → Bool
same_bytes old new = nat_eq old.len new.len && same_value old.content new.content

-- the change that puts an element under a name: its info and its bytes
abbrev pub put : List ℕ → Element → Change
put name new = Put (record { name = name; info = new.info; bytes = readable_bytes new.content })

-- the change that gives an element under a name its info alone; one that has none is put
abbrev pub touch : List ℕ → Element → Option FileInfo → Change
touch name new None = put name new
touch name new (Some info) = Touch name info

-- the change at a name where an element stands and another shall: its info alone where the bytes are the same
abbrev pub replacement : List ℕ → Element → Element → Change
replacement name old new = cond (same_bytes old new) (touch name new new.info) (put name new)

-- the change at a name where an element shall stand: none where the same stands there
abbrev pub arrival : List ℕ → Option Element → Element → Option Change
arrival name None new = Some (put name new)
arrival name (Some old) new = cond (same_element old new) None (Some (replacement name old new))

-- what is to be done at a name where the one element stands and the other shall, and nothing where both are the same
abbrev pub difference : List ℕ → (old new : Option Element) → Option Change
difference name old None = removal name old
difference name old (Some new) = arrival name old new

-- the changes that make the first map into the second: in the order of the names, and exactly where the two differ
pub record MakeInto (changes : List Change) (old new : Map) : Type 0 where
  pub names_ascend : IsStrictlySortedBy name_cmp (map changed_name changes)
  pub exact : (name : List ℕ) → change_at name changes ≡ difference name (element_at old name) (element_at new name)
