-- The view that a commit makes, by its changes and by the maps of contents before and after.
use Rattle.std.specs.Prelude.{ℕ, ◌+◌, List, [], ◌∷◌, map, Bool, true, false, cond, not, Option, Some, None, find}
use Rattle.std.specs.Prelude.{filter, ◌&&◌, nat_eq}
use Rattle.std.specs.List.{fold}
use Rattle.std.specs.Str.{bytes_eq}
use Rattle.std.specs.Ordering.{is_lt}
use Rattle.per_base.specs.declared.elements.FileInfo.{FileInfo}
use Rattle.per_base.specs.declared.elements.Entry.{Entry}
use Rattle.per_base.specs.declared.elements.Element.{Element}
use Rattle.per_base.specs.Names.{name_cmp}
use Rattle.per_base.specs.Maps.{Map, element_at}
use Rattle.per_base.specs.declared.elements.Change.{Change}
use Rattle.per_base.specs.declared.elements.Change.TheVariants.{Put, Remove, Touch}
use Rattle.per_base.specs.Contents.{same_content}
use Rattle.index_text.specs.Spelling.{cause_code}
use Rattle.element_state.specs.declared.shapes.Shape.{Shape}
use Rattle.element_state.specs.declared.shapes.View.{View}
use Rattle.element_state.specs.States.{whole_view, fresh_entry, fresh_element}

-- ---- by changes

-- lists of items, each with a name, in the order of the names
module _ {X : Type 0} (name_of : X → List ℕ) where
  -- the item of a name, where there is one
  abbrev pub item_at : List ℕ → List X → Option X
  item_at name items = find (λ x. bytes_eq (name_of x) name) items

  -- the items without that of a name
  abbrev pub without_item : List ℕ → List X → List X
  without_item name items = filter (λ x. not (bytes_eq (name_of x) name)) items

  -- the items with one more, before the first whose name is not below its own
  abbrev pub insert_item : X → List X → List X
  insert_item x [] = x ∷ []
  insert_item x (y ∷ items) = cond (is_lt (name_cmp (name_of y) (name_of x))) (y ∷ insert_item x items) (x ∷ y ∷ items)

-- the name of an element
abbrev pub entry_name : Entry → List ℕ
entry_name e = e.name

-- the element of this name, where there is one
abbrev pub entry_by_name : List ℕ → List Entry → Option Entry
entry_by_name name entries = item_at entry_name name entries

-- an element after the one of this name got another info: then this generation changed it, and no copy lacks it
abbrev pub touched : (generation : ℕ) → List ℕ → FileInfo → Entry → Entry
touched generation name info e = cond (bytes_eq e.name name)
    (record e { info = Some info; changed = generation; lacking = [] }) e

-- the elements after one change, under the generation of the commit: a put stands in place of what had its name, and a
-- removal and a touch do nothing where there is no such name
abbrev pub after_change : (generation : ℕ) → List Entry → Change → List Entry
after_change generation entries (Put f) = insert_item entry_name (fresh_entry generation (fresh_element f))
    (without_item entry_name f.name entries)
after_change generation entries (Remove name) = without_item entry_name name entries
after_change generation entries (Touch name info) = map (touched generation name info) entries

-- the elements after some changes, one after another, under the generation of the commit
abbrev pub after_changes : (generation : ℕ) → List Entry → List Change → List Entry
after_changes generation entries changes = fold (after_change generation) entries changes

-- the view after a commit of these changes: under the next generation, with its text in every copy
unfoldable pub committed_by : Shape → View → List Change → View
committed_by shape v changes = whole_view shape (v.generation + 1) (after_changes (v.generation + 1) v.entries changes)

-- ---- by maps

-- both have no info, or infos that are equal
abbrev pub same_info : Option FileInfo → Option FileInfo → Bool
same_info None None = true
same_info (Some a) (Some b) = nat_eq a.created b.created && nat_eq a.modified b.modified && nat_eq a.accessed b.accessed
    && nat_eq (cause_code a.creation) (cause_code b.creation)
    && nat_eq (cause_code a.modification) (cause_code b.modification)
same_info None (Some b) = false
same_info (Some a) None = false

-- both have the same info, length and content
abbrev pub same_element : Element → Element → Bool
same_element a b = same_info a.info b.info && nat_eq a.len b.len && same_content a.content b.content

-- the first is there, and the same as the second
abbrev pub is_same : Option Element → Element → Bool
is_same None b = false
is_same (Some a) b = same_element a b

-- an element of the new map keeps the entry that it has if it did not change, and else is one that this generation
-- wrote
abbrev pub kept_or_fresh : (generation : ℕ) → Bool → Option Entry → List ℕ × Element → Entry
kept_or_fresh generation true (Some e) element = e
kept_or_fresh generation true None element = fresh_entry generation element
kept_or_fresh generation false e element = fresh_entry generation element

-- what becomes of an element of the new map, by the entries of the view and by the map that they made
abbrev pub committed_entry : (generation : ℕ) → List Entry → (synced : Map) → List ℕ × Element → Entry
committed_entry generation entries synced element =
    kept_or_fresh generation (is_same (element_at synced element.0) element.1) (entry_by_name element.0 entries) element

-- the view after a commit that makes one map of contents into another
unfoldable pub committed : Shape → View → (synced new : Map) → View
committed shape v synced new = whole_view shape (v.generation + 1)
    (map (committed_entry (v.generation + 1) v.entries synced) new)
