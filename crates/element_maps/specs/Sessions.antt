-- What a session of a storage owes: the map that the storage holds, and the one that it is to hold next.
use Rattle.std.specs.Prelude.{◌≡◌, ◌≤◌, ℕ, List, [], ◌∷◌, length, Bool, true, false, cond, ◌&&◌, Option, Some, IsTrue}
use Rattle.std.specs.List.Sorted.{IsStrictlySortedBy}
use Rattle.std.specs.Str.{bytes_eq}
use Rattle.per_base.specs.declared.elements.StoreKind.{StoreKind}
use Rattle.per_base.specs.declared.elements.Content.{Content}
use Rattle.per_base.specs.declared.elements.Content.TheVariants.{Good, Bad}
use Rattle.per_base.specs.declared.elements.Element.{Element}
use Rattle.per_base.specs.Maps.{Map, element_at, names_of, size_of}
use Rattle.per_base.specs.Names.{name_cmp}
use Rattle.per_base.specs.declared.elements.Change.{Change}
use Rattle.index_text.specs.Rules.{has_info, max_len}
use Rattle.element_state.specs.declared.shapes.Shape.{Shape}
use Rattle.element_state.specs.declared.shapes.View.{View}
use Rattle.element_state.specs.Changes.{committed, same_element}
use Rattle.element_state.specs.Read.{IsView}
use Rattle.element_state.specs.Views.{judged_view, map_of}
use Rattle.element_maps.specs.Differences.{MakeInto}

-- ---- what the storage holds

-- the map that a view denotes with a test of contents: a value that fails it is unreadable
abbrev pub synchronised : (List ℕ → Bool) → View → Map
synchronised test v = map_of (judged_view test v)

-- ---- what it is to hold

-- the bytes of an element are as a storage of this kind asks
pub record IsWritable (kind : StoreKind) (new : Element) (bytes : List ℕ) : Type 0 where
  pub info : IsTrue (has_info kind new.info)
  pub length : length bytes ≡ new.len
  pub small : new.len ≤ max_len kind

-- an element, by its content: one that can be read is as the kind asks, and one that cannot is the very one that is
-- synchronised under its name
abbrev pub IsHeldElement : StoreKind → Option Element → Element → Content → Type 0
IsHeldElement kind synced new (Good bytes) = IsWritable kind new bytes
IsHeldElement kind synced new (Bad salvage) = synced ≡ Some new

-- a map in the order of the names and within the limits of the storage, each element as its kind asks
pub record IsNext (shape : Shape) (synced new : Map) : Type 0 where
  pub names_ascend : IsStrictlySortedBy name_cmp (names_of new)
  pub few : length new ≤ 1024
  pub small : size_of new ≤ shape.allowed
  pub each : (name : List ℕ) (element : Element) → element_at new name ≡ Some element
      → IsHeldElement shape.kind (element_at synced name) element element.content

-- its values pass the test
abbrev pub PassesTest : (List ℕ → Bool) → Map → Type 0
PassesTest test new = (name : List ℕ) (element : Element) (bytes : List ℕ) → element_at new name ≡ Some element
    → element.content ≡ Good bytes → IsTrue (test bytes)

-- the changes by which a storage that was read as this view comes to hold the new map in place of what is synchronised
pub record IsSync (shape : Shape) (test : List ℕ → Bool) (v : View) (synced new : Map) (changes : List Change) : Type 0
  where
    pub read : IsView shape v
    pub held : synced ≡ synchronised test v
    pub next : IsNext shape synced new
    pub made : MakeInto changes synced new

-- ---- what it holds then

-- both have the same names, and the same element under each
abbrev pub same_map : Map → Map → Bool
same_map [] [] = true
same_map (e ∷ es) [] = false
same_map [] (f ∷ fs) = false
same_map (e ∷ es) (f ∷ fs) = bytes_eq e.0 f.0 && same_element e.1 f.1 && same_map es fs

-- the view of the storage once it holds the new map: the old one where nothing differs, and else the next
abbrev pub view_once_synced : Shape → View → (synced new : Map) → View
view_once_synced shape v synced new = cond (same_map synced new) v (committed shape v synced new)
