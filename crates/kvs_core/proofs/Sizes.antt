-- How large a map is at most with one key more.
use Rattle.std.proofs.Common.{◌≡◌, ◌+◌, ◌≤◌, ℕ, List, length, refl, arith}
use Rattle.std.specs.Prelude.{Option, Some, None}
use Rattle.per_base.specs.declared.elements.Element.{Element}
use Rattle.per_base.specs.Maps.{Map, element_at, size_of, with_element}
use Rattle.key_maps.specs.TwoMaps.{IsKeyMap}
use Rattle.key_maps.specs.lemmas.Both.{size_new, size_set}

sized : (m : Map) (name : List ℕ) (key : Element) (old : Option Element) → IsKeyMap m → element_at m name ≡ old
    → size_of (with_element m name key) ≤ size_of m + (length name + key.len)
sized m name key None is at = omega (arith, size_new m name key is.ordered at)
sized m name key (Some old) is at = omega (arith, size_set m name old key is.ordered at)

pub size_most : (m : Map) (name : List ℕ) (key : Element) (most : ℕ) → IsKeyMap m
    → size_of m + (length name + key.len) ≤ most → size_of (with_element m name key) ≤ most
size_most m name key most is room = omega (arith, room, sized m name key (element_at m name) is refl)
