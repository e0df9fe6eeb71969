-- What comes of the changes that make one map into another. In each law `shape` is the storage as it is configured,
-- `synced` the map that it holds at the view `v` (what its copies denote), `new` the one that it is to hold, and `test`
-- says which bytes a session takes as a value.
use Rattle.std.specs.Prelude.{◌≡◌, ◌≢◌, ◌↔◌, ◌≤◌, ◌<◌, ◌+◌, ℕ, List, [], Bool, true, IsTrue, ⊤}
use Rattle.std.specs.List.{All, AllByRecursion}
use Rattle.per_base.specs.declared.elements.StoreKind.{StoreKind}
use Rattle.per_base.specs.declared.elements.StoreKind.TheVariants.{Keys, Files}
use Rattle.per_base.specs.declared.elements.Element.{Element}
use Rattle.per_base.specs.Maps as maps
use Rattle.per_base.specs.Maps.{Map, element_at, names_of}
use Rattle.per_base.specs.Names.{IsName}
use Rattle.per_base.specs.declared.elements.Change.{Change}
use Rattle.per_base.specs.Changes.{changed_name}
use Rattle.element_state.specs.declared.shapes.Shape.{Shape}
use Rattle.element_state.specs.declared.shapes.View.{View}
use Rattle.element_state.specs.States.{greatest_generation}
use Rattle.element_state.specs.Changes.{after_changes, committed_by, committed, same_element}
use Rattle.element_state.specs.Conditions.{AreCommittable, size_of}
use Rattle.element_state.specs.Read.{IsView}
use Rattle.element_state.specs.Views.{map_of}
use Rattle.element_state.specs.Written.{commit_cost, map_cost}
use Rattle.element_maps.specs.Differences.{MakeInto}
use Rattle.element_maps.specs.Sessions.{IsNext, IsSync, PassesTest, same_map, synchronised, view_once_synced}

-- the changes from one map to another may be committed
abbrev pub CommittableLaw : Type 0
CommittableLaw = (shape : Shape) (test : List ℕ → Bool) (v : View) (synced new : Map) (changes : List Change)
    → IsSync shape test v synced new changes
    → v.generation < greatest_generation → AreCommittable shape v changes

-- the view after a commit of the changes from one map to another is `committed`: what the old view and both maps
-- determine, without the changes
abbrev pub CommittedLaw : Type 0
CommittedLaw = (shape : Shape) (test : List ℕ → Bool) (v : View) (synced new : Map) (changes : List Change)
    → IsSync shape test v synced new changes
    → committed_by shape v changes ≡ committed shape v synced new

-- after the changes from one map to another the storage holds the new one, if all its values pass the test
abbrev pub HeldLaw : Type 0
HeldLaw = (shape : Shape) (test : List ℕ → Bool) (v : View) (synced new : Map) (changes : List Change)
    → IsSync shape test v synced new changes
    → PassesTest test new → synchronised test (committed shape v synced new) ≡ new

-- after the changes from one map to another the storage is as it will be read, where each of its names is 1 to 255
-- ASCII letters, digits or _ - . /
abbrev pub ReadLaw : Type 0
ReadLaw = (shape : Shape) (test : List ℕ → Bool) (v : View) (synced new : Map) (changes : List Change)
    → IsSync shape test v synced new changes
    → AllByRecursion IsName (names_of new) → IsView shape (committed shape v synced new)

-- after the changes from one map to another the storage has the size of the new one
abbrev pub SizeLaw : Type 0
SizeLaw = (shape : Shape) (test : List ℕ → Bool) (v : View) (synced new : Map) (changes : List Change)
    → IsSync shape test v synced new changes
    → size_of (after_changes (v.generation + 1) v.entries changes) ≡ maps.size_of new

-- the contents of the changes cost no more bytes in each copy than what differs between the maps
abbrev pub CostLaw : Type 0
CostLaw = (shape : Shape) (test : List ℕ → Bool) (v : View) (synced new : Map) (changes : List Change)
    → IsSync shape test v synced new changes
    → commit_cost shape.kind v.entries changes ≤ map_cost shape.kind synced new

-- keys, or files of which no content fails the test
abbrev pub IsUntested : StoreKind → (List ℕ → Bool) → Type 0
IsUntested Keys test = ⊤
IsUntested Files test = (bytes : List ℕ) → IsTrue (test bytes)

-- they cost just that for keys, and for files where no content can fail the test
abbrev pub ExactCostLaw : Type 0
ExactCostLaw = (shape : Shape) (test : List ℕ → Bool) (v : View) (synced new : Map) (changes : List Change)
    → IsSync shape test v synced new changes
    → IsUntested shape.kind test → commit_cost shape.kind v.entries changes ≡ map_cost shape.kind synced new

-- there is nothing to change exactly where both maps are equal
abbrev pub NothingLaw : Type 0
NothingLaw = (shape : Shape) (test : List ℕ → Bool) (v : View) (synced new : Map) (changes : List Change)
    → IsSync shape test v synced new changes
    → (changes ≡ []) ↔ (synced ≡ new)

-- no change has a name at which both maps are alike
abbrev pub UnchangedNamesLaw : Type 0
UnchangedNamesLaw = (synced new : Map) (changes : List Change) → MakeInto changes synced new
    → (name : List ℕ) → element_at synced name ≡ element_at new name
    → All (λ change. changed_name change ≢ name) changes

-- ---- the map of a view

-- with a test that all bytes pass, the synchronised map of a view is the view's own, `map_of`
abbrev pub UntestedLaw : Type 0
UntestedLaw = (v : View) → synchronised (λ bytes. true) v ≡ map_of v

-- what is synchronised may be the next map, as it is: in order, within the limits, each element as its kind asks
abbrev pub SynchronisedLaw : Type 0
SynchronisedLaw = (shape : Shape) (test : List ℕ → Bool) (v : View) → IsView shape v
    → IsNext shape (synchronised test v) (synchronised test v)

-- comparing two elements (`same_element`) is true exactly where they are equal
abbrev pub SameLaw : Type 0
SameLaw = (a b : Element) → IsTrue (same_element a b) ↔ (a ≡ b)

-- ---- the view after a sync

-- comparing two maps (`same_map`) is true exactly where they are equal
abbrev pub DecidesLaw : Type 0
DecidesLaw = (a b : Map) → (same_map a b ≡ true) ↔ (a ≡ b)

-- after a sync the view is the old one where nothing differs
abbrev pub StaysLaw : Type 0
StaysLaw = (shape : Shape) (v : View) (synced new : Map) → synced ≡ new → view_once_synced shape v synced new ≡ v

-- after a sync the view is that after a commit of what differs, where something does
abbrev pub NextLaw : Type 0
NextLaw = (shape : Shape) (v : View) (synced new : Map) → synced ≢ new
    → view_once_synced shape v synced new ≡ committed shape v synced new
