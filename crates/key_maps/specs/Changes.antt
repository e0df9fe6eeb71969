-- What makes one map of keys into another, as the changes of a commit.
use Rattle.std.specs.Prelude.{◌≡◌, ℕ, List, [], ◌∷◌, map, filter_map, Bool, true, false, cond, ◌&&◌, nat_eq, Option}
use Rattle.std.specs.Prelude.{None, Some}
use Rattle.std.specs.List.Sorted.{IsStrictlySortedBy}
use Rattle.per_base.specs.Changes.{change_at, changed_name, removal}
use Rattle.per_base.specs.declared.elements.Change.{Change}
use Rattle.per_base.specs.declared.elements.Change.TheVariants.{Put}
use Rattle.per_base.specs.declared.elements.Element.{Element}
use Rattle.per_base.specs.Maps.{Map, element_at}
use Rattle.per_base.specs.Names.{name_cmp}
use Rattle.per_base.specs.Contents.{readable_bytes, same_content}
use Rattle.key_maps.specs.declared.key_states.KeyState.{KeyState}
use Rattle.key_maps.specs.KeyStates.{KeyStates, synced_of, visible_of}

-- whether two keys have the same length and the same content: the same encoding, or both are unreadable with the same
-- salvage, or both with none
abbrev pub same_key : Element → Element → Bool
same_key here there = nat_eq here.len there.len && same_content here.content there.content

-- whether there is an old key and it is the same as this one
abbrev pub is_same_key : Option Element → Element → Bool
is_same_key None key = false
is_same_key (Some old) key = same_key old key

-- the change that writes this key under a name: without an info, and with the bytes of its readable content
abbrev pub put : List ℕ → Element → Change
put name key = Put (record { name = name; info = None; bytes = readable_bytes key.content })

-- the change at a name that makes the old key there, if any, into the new one, if any; none where both are the same
abbrev pub difference : List ℕ → (old new : Option Element) → Option Change
difference name old None = removal name old
difference name old (Some key) = cond (is_same_key old key) None (Some (put name key))

-- the changes that make the map `old` into the map `new`: in the order of the names, and one exactly where the two
-- differ
pub record AreChanges (changes : List Change) (old new : Map) : Type 0 where
  pub ordered : IsStrictlySortedBy name_cmp (map changed_name changes)
  pub exact : (name : List ℕ) → change_at name changes ≡ difference name (element_at old name) (element_at new name)

-- the change that a sync writes for the key of this name and state
abbrev pub change_of : List ℕ → KeyState → Option Change
change_of name state = difference name (synced_of state) (visible_of state)

-- the changes that a sync writes for all of these states, in their order
abbrev pub changes_of : KeyStates → List Change
changes_of states = filter_map (λ (e : List ℕ × KeyState). change_of e.0 e.1) states

-- whether a list is not empty
abbrev pub has_any : {A : Type 0} → List A → Bool
has_any [] = false
has_any (x ∷ xs) = true
