-- A map read off another map: each entry gives one entry or none.
use Rattle.std.specs.Prelude.{List, [], ◌∷◌, Option, None, Some}

-- the rest of a list, with the key and the value in front of it where there is a value
abbrev pub when_some : {K B : Type 0} → K → Option B → List (K × B) → List (K × B)
when_some key None rest = rest
when_some key (Some b) rest = (key, b) ∷ rest

-- the entries from which something is read, with what it is
abbrev pub picked : {K A B : Type 0} → (A → Option B) → List (K × A) → List (K × B)
picked f [] = []
picked f (e ∷ es) = when_some e.0 (f e.1) (picked f es)
