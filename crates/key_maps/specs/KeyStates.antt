-- The states of keys: beside each name what is synchronised and what is pending, from which both maps are read.
use Rattle.std.specs.Prelude.{◌≡◌, ℕ, ◌≤◌, List, length, map, Option, None, Some, IfSome, IsTrue}
use Rattle.std.specs.BTreeMap.{insert_entry, is_at}
use Rattle.std.specs.List.{AllByRecursion}
use Rattle.std.specs.List.Sorted.{IsStrictlySortedBy}
use Rattle.std.specs.Map.{keys_of, lookup, remove_entry}
use Rattle.per_base.specs.declared.elements.Element.{Element}
use Rattle.per_base.specs.declared.elements.Entry.{Entry}
use Rattle.per_base.specs.Maps.{Map, size_of}
use Rattle.per_base.specs.Names.{name_cmp}
use Rattle.per_base.specs.Contents.{is_readable}
use Rattle.key_maps.specs.declared.key_states.KeyState.{KeyState}
use Rattle.key_maps.specs.declared.key_states.Pending.{Pending}
use Rattle.key_maps.specs.declared.key_states.Pending.TheVariants.{Same, Removed, Now}
use Rattle.key_maps.specs.declared.extents.Extent.{Extent}
use Rattle.key_maps.specs.KeyElements.{IsKey, entry_element, key_judged}
use Rattle.key_maps.specs.Picked.{picked}

-- states of keys by name: a list of pairs of a name and a state
abbrev pub KeyStates : Type 0
KeyStates = List (List ℕ × KeyState)

-- the key that calls see, if any: what is synchronised, after the change that is pending
abbrev pub once_changed : Option Element → Pending → Option Element
once_changed synced Same = synced
once_changed synced Removed = None
once_changed synced (Now key) = Some key

-- the key that is synchronised, if any
abbrev pub synced_of : KeyState → Option Element
synced_of state = state.synced

-- the key that calls see, if any
abbrev pub visible_of : KeyState → Option Element
visible_of state = once_changed state.synced state.pending

-- the map of the keys that are synchronised
abbrev pub synced_map : KeyStates → Map
synced_map states = picked synced_of states

-- the map of the keys that calls see
abbrev pub visible_map : KeyStates → Map
visible_map states = picked visible_of states

-- the state of this name, if any
abbrev pub state_at : KeyStates → List ℕ → Option KeyState
state_at states name = lookup (is_at (name_cmp name)) states

-- a pending change that puts a key puts a readable one
abbrev pub IsPending : Pending → Type 0
IsPending Same = Unit {0}
IsPending Removed = Unit {0}
IsPending (Now key) = IsKey key × IsTrue (is_readable key.content)

-- what is synchronised is a key, and what is pending puts a readable key, where it puts one
abbrev pub IsKeyState : KeyState → Type 0
IsKeyState state = IfSome state.synced IsKey × IsPending state.pending

-- the states with this one at the name
abbrev pub with_state : KeyStates → List ℕ → KeyState → KeyStates
with_state states name state = insert_entry name_cmp states name state

-- the states with none at the name
abbrev pub without_state : KeyStates → List ℕ → KeyStates
without_state states name = remove_entry (is_at (name_cmp name)) states

-- the states stand in strictly ascending order of their names, and each holds keys
pub record AreKeyStates (states : KeyStates) : Type 0 where
  pub ordered : IsStrictlySortedBy name_cmp (keys_of states)
  pub sound : AllByRecursion (λ (e : List ℕ × KeyState). IsKeyState e.1) states

-- the extent counts the elements of the map `m`, and sums the bytes of their names and contents; both are within the
-- limits of a storage, 1,024 elements and 4,194,304 bytes
pub record Measures (extent : Extent) (m : Map) : Type 0 where
  pub counted : extent.count ≡ length m
  pub sized : extent.size ≡ size_of m
  pub few : extent.count ≤ 1024
  pub small : extent.size ≤ 4194304

-- the extent `one` measures what is synchronised, the extent `other` what is visible
pub record AreMeasured (states : KeyStates) (one other : Extent) : Type 0 where
  pub kept : AreKeyStates states
  pub synced : Measures one (synced_map states)
  pub visible : Measures other (visible_map states)

-- a step from states `old` to states `new` that leaves what is synchronised, and makes the map `target` visible
pub record IsStep (old new : KeyStates) (target : Map) : Type 0 where
  pub synced : synced_map new ≡ synced_map old
  pub visible : visible_map new ≡ target
  pub kept : AreKeyStates new

-- the step from states `old` to states `new` that makes synchronised what is visible
pub record IsMarkedSynced (old new : KeyStates) : Type 0 where
  pub synced : synced_map new ≡ visible_map old
  pub visible : visible_map new ≡ visible_map old
  pub kept : AreKeyStates new

-- the states of what is on the disk, with nothing pending
abbrev pub opened_state : Entry → List ℕ × KeyState
opened_state entry = (entry.name, record { synced = Some (key_judged (entry_element entry)); pending = Same })

-- those of all entries of a storage that is opened
abbrev pub opened_states : List Entry → KeyStates
opened_states entries = map opened_state entries
