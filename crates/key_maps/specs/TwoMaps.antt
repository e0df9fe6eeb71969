-- The two maps of a session, and what always holds of them.
use Rattle.std.specs.Prelude.{◌≡◌, ℕ, ◌≤◌, List, length, false, Some}
use Rattle.std.specs.List.Sorted.{IsStrictlySortedBy}
use Rattle.per_base.specs.declared.elements.Element.{Element}
use Rattle.per_base.specs.Maps.{Map, element_at, names_of, size_of}
use Rattle.per_base.specs.Names.{name_cmp}
use Rattle.per_base.specs.Contents.{is_readable}
use Rattle.key_maps.specs.KeyElements.{IsKey}

-- what is on the disk (`synced`), and what calls see (`visible`), each a map from names to keys
pub record TwoMaps : Type 0 where
  pub synced : Map
  pub visible : Map

-- a map `m` from names to keys, in the order of the names and within the limits of a storage: at most 1,024 keys, and
-- 4,194,304 bytes of names and encodings
pub record IsKeyMap (m : Map) : Type 0 where
  pub ordered : IsStrictlySortedBy name_cmp (names_of m)
  pub few : length m ≤ 1024
  pub small : size_of m ≤ 4194304
  pub keys : (name : List ℕ) (key : Element) → element_at m name ≡ Some key → IsKey key

-- both are maps of keys, and what is visible and unreadable is as it was synchronised
pub record AreTwoMaps (maps : TwoMaps) : Type 0 where
  pub synced : IsKeyMap maps.synced
  pub visible : IsKeyMap maps.visible
  pub unreadable : (name : List ℕ) (key : Element) → element_at maps.visible name ≡ Some key
      → is_readable key.content ≡ false → element_at maps.synced name ≡ Some key
