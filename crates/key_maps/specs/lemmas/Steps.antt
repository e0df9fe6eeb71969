-- What each step on the states makes of both maps.
use Rattle.std.proofs.Common.{◌≡◌, ℕ, List, [], true, false, cond, refl, sym, ◌∙◌, subst}
use Rattle.std.specs.Prelude.{Option, Some, None, IfSome, IsSome, IsTrue, is_some, Result, Ok, Err, OnOk, OnErr}
use Rattle.std.specs.BTreeMap.{is_at}
use Rattle.std.specs.List.Sorted.{IsStrictlySortedBy}
use Rattle.std.specs.Map.{keys_of, set_value}
use Rattle.std.specs.Option.{option_and_then}
use Rattle.std.proofs.lemmas.Cmp.{nat_list_cmp_total}
use Rattle.std.proofs.lemmas.Map.Lookups.{exact_bytes}
use Rattle.per_base.specs.declared.elements.Element.{Element}
use Rattle.per_base.specs.Maps.{Map, element_at, with_element, without}
use Rattle.per_base.specs.Names.{name_cmp}
use Rattle.per_base.specs.Contents.{is_readable}
use Rattle.key_maps.specs.declared.key_states.KeyState.{KeyState}
use Rattle.key_maps.specs.declared.key_states.Pending.{Pending}
use Rattle.key_maps.specs.declared.key_states.Pending.TheVariants.{Same, Removed, Now}
use Rattle.key_maps.specs.KeyStates.{AreKeyStates, KeyStates, IsKeyState, IsPending, IsMarkedSynced, IsStep, state_at}
use Rattle.key_maps.specs.KeyStates.{once_changed, synced_map, synced_of, visible_map, visible_of, with_state}
use Rattle.key_maps.specs.KeyStates.{without_state}
use Rattle.key_maps.specs.Changes.{AreChanges, change_of, changes_of, difference}
use Rattle.key_maps.specs.KeyElements.{IsKey}
use Rattle.key_maps.specs.Picked.{picked}
use Rattle.key_maps.specs.lemmas.Changing.{changes_ascend, changes_at}
use Rattle.key_maps.specs.lemmas.Ordered.{all_insert, all_lookup, all_remove, set_is_insert, sorted_insert}
use Rattle.key_maps.specs.lemmas.Ordered.{sorted_remove}
use Rattle.key_maps.specs.lemmas.Ordered.{remove_none}
use Rattle.key_maps.specs.lemmas.Picked.{all_picked, lookup_picked, picked_drop, picked_kept, picked_none}
use Rattle.key_maps.specs.lemmas.Picked.{picked_picked}
use Rattle.key_maps.specs.lemmas.Picked.{picked_put, picked_remove, picked_same, sorted_picked}

pub state_set : (states : KeyStates) (name : List ℕ) (old new : KeyState) → state_at states name ≡ Some old
    → IsStrictlySortedBy name_cmp (keys_of states) → set_value (is_at (name_cmp name)) states new
    ≡ with_state states name new
state_set states name old new is sorted = set_is_insert nat_list_cmp_total name states old new is sorted

pub synced_at : (states : KeyStates) (name : List ℕ) → AreKeyStates states
    → element_at (synced_map states) name ≡ option_and_then synced_of (state_at states name)
synced_at states name are = lookup_picked nat_list_cmp_total synced_of name states are.ordered

pub visible_at : (states : KeyStates) (name : List ℕ) → AreKeyStates states
    → element_at (visible_map states) name ≡ option_and_then visible_of (state_at states name)
visible_at states name are = lookup_picked nat_list_cmp_total visible_of name states are.ordered

-- ---- one state

pub states_with : (states : KeyStates) (name : List ℕ) (state : KeyState) → AreKeyStates states → IsKeyState state
    → AreKeyStates (with_state states name state)
states_with states name state are is = record {
  ordered = sorted_insert nat_list_cmp_total name state states are.ordered;
  sound = all_insert IsKeyState name_cmp name state states is are.sound;
}

pub states_without : (states : KeyStates) (name : List ℕ) → AreKeyStates states
    → AreKeyStates (without_state states name)
states_without states name are = record {
  ordered = sorted_remove name_cmp (is_at (name_cmp name)) states are.ordered;
  sound = all_remove IsKeyState (is_at (name_cmp name)) states are.sound;
}

pub synced_kept : (states : KeyStates) (name : List ℕ) (state : KeyState) → AreKeyStates states
    → option_and_then synced_of (state_at states name) ≡ state.synced
    → synced_map (with_state states name state) ≡ synced_map states
synced_kept states name state are same = picked_kept nat_list_cmp_total exact_bytes synced_of name state states same
    are.ordered

pub visible_put : (states : KeyStates) (name : List ℕ) (state : KeyState) (key : Element) → AreKeyStates states
    → visible_of state ≡ Some key → visible_map (with_state states name state)
    ≡ with_element (visible_map states) name key
visible_put states name state key are is = picked_put nat_list_cmp_total exact_bytes visible_of name state key states is
    are.ordered

pub visible_drop : (states : KeyStates) (name : List ℕ) (state : KeyState) → AreKeyStates states
    → visible_of state ≡ None
    → visible_map (with_state states name state) ≡ without (visible_map states) name
visible_drop states name state are is = picked_drop nat_list_cmp_total visible_of name state states is are.ordered

pub visible_removed : (states : KeyStates) (name : List ℕ) → AreKeyStates states
    → visible_map (without_state states name) ≡ without (visible_map states) name
visible_removed states name are = picked_remove nat_list_cmp_total visible_of name states are.ordered

pub synced_removed : (states : KeyStates) (name : List ℕ) → AreKeyStates states
    → option_and_then synced_of (state_at states name) ≡ None
    → synced_map (without_state states name) ≡ synced_map states
synced_removed states name are none =
    picked_remove nat_list_cmp_total synced_of name states are.ordered
    ∙ remove_none (is_at (name_cmp name)) (synced_map states) (synced_at states name are ∙ none)

-- ---- a change at a name, and what it makes of all

pub put_marked : (old : KeyStates) (name : List ℕ) (state : KeyState) (key : Element) → AreKeyStates old → IsKey key
    → IsTrue (is_readable key.content) → state_at old name ≡ Some state
    → IsStep old (with_state old name (record state { pending = Now key })) (with_element (visible_map old) name key)
put_marked old name state key are is readable there =
    let new : KeyState = record state { pending = Now key } in
    let was : IsKeyState state = all_lookup IsKeyState (is_at (name_cmp name)) old state are.sound there in record {
      synced = synced_kept old name new are (rw there refl);
      visible = visible_put old name new key are refl;
      kept = states_with old name new are (was.0, (is, readable));
    }

pub put_added : (old : KeyStates) (name : List ℕ) (key : Element) → AreKeyStates old → IsKey key
    → IsTrue (is_readable key.content) → state_at old name ≡ None
    → IsStep old (with_state old name (record { synced = None; pending = Now key }))
    (with_element (visible_map old) name key)
put_added old name key are is readable none =
    let new : KeyState = record { synced = None; pending = Now key } in record {
      synced = synced_kept old name new are (rw none refl);
      visible = visible_put old name new key are refl;
      kept = states_with old name new are (tt, (is, readable));
    }

-- the same, as the calls say it
pub put_at : (old new : KeyStates) (name : List ℕ) (key : Element) → AreKeyStates old → IsKey key
    → IsTrue (is_readable key.content) → IsSome (state_at old name)
    → ((state : KeyState) → state_at old name ≡ Some state
    → new ≡ with_state old name (record state { pending = Now key }))
    → IsStep old new (with_element (visible_map old) name key)
put_at old new name key are is readable there marked = by (state_at old name) refl there
  where
    by : (found : Option KeyState) → state_at old name ≡ found → IsSome found
        → IsStep old new (with_element (visible_map old) name key)
    by None p some = absurd (cc)
    by (Some state) p some = subst (λ (n : KeyStates). IsStep old n (with_element (visible_map old) name key))
        (sym (marked state p)) (put_marked old name state key are is readable p)

pub put_new : (old mid new : KeyStates) (name : List ℕ) (key : Element) (pending : Pending) → AreKeyStates old
    → IsKey key
    → IsTrue (is_readable key.content) → state_at old name ≡ None
    → mid ≡ old → pending ≡ Now key → new ≡ with_state mid name (record { synced = None; pending = pending })
    → IsStep old new (with_element (visible_map old) name key)
put_new old mid new name key pending are is readable none same now added =
    let all : new ≡ with_state old name (record { synced = None; pending = Now key }) =
    added ∙ (λ i. with_state (same i) name (record { synced = None; pending = now i })) in
    subst (λ (n : KeyStates). IsStep old n (with_element (visible_map old) name key)) (sym all)
    (put_added old name key are is readable none)

pub removed_marked : (old : KeyStates) (name : List ℕ) (state : KeyState) → AreKeyStates old
    → state_at old name ≡ Some state
    → IsStep old (with_state old name (record state { pending = Removed })) (without (visible_map old) name)
removed_marked old name state are there =
    let new : KeyState = record state { pending = Removed } in
    let was : IsKeyState state = all_lookup IsKeyState (is_at (name_cmp name)) old state are.sound there in record {
      synced = synced_kept old name new are (rw there refl);
      visible = visible_drop old name new are refl;
      kept = states_with old name new are (was.0, tt);
    }

pub removed_at : (old new : KeyStates) (name : List ℕ) → AreKeyStates old
    → is_some (option_and_then synced_of (state_at old name)) ≡ true
    → (IsSome (state_at old name) → (state : KeyState) → state_at old name ≡ Some state
    → new ≡ with_state old name (record state { pending = Removed }))
    → IsStep old new (without (visible_map old) name)
removed_at old new name are there marked = by (state_at old name) refl there
  where
    by : (found : Option KeyState) → state_at old name ≡ found → is_some (option_and_then synced_of found) ≡ true
        → IsStep old new (without (visible_map old) name)
    by None p some = absurd (cc)
    by (Some state) p some =
        let present : IsSome (state_at old name) = rw p refl in
        subst (λ (n : KeyStates). IsStep old n (without (visible_map old) name)) (sym (marked present state p))
        (removed_marked old name state are p)

pub removed_by : {T E : Type 0} (r : Result T E) (old new : KeyStates) (name : List ℕ) → AreKeyStates old
    → is_some (option_and_then synced_of (state_at old name)) ≡ true
    → OnOk r ((state : KeyState) → state_at old name ≡ Some state
    → new ≡ with_state old name (record state { pending = Removed })) → OnErr r (state_at old name ≡ None)
    → IsStep old new (without (visible_map old) name)
removed_by (Ok x) old new name are there marked absent = removed_at old new name are there (λ _. marked)
removed_by (Err e) old new name are there marked absent =
    let no : is_some (option_and_then synced_of (state_at old name)) ≡ false = rw absent refl in absurd (cc)

pub removed_whole : (old : KeyStates) (name : List ℕ) → AreKeyStates old
    → is_some (option_and_then synced_of (state_at old name)) ≡ false
    → IsStep old (without_state old name) (without (visible_map old) name)
removed_whole old name are unsynced = record {
  synced = synced_removed old name are (none (option_and_then synced_of (state_at old name)) unsynced);
  visible = visible_removed old name are;
  kept = states_without old name are;
}
  where
    none : (key : Option Element) → is_some key ≡ false → key ≡ None
    none None is = refl
    none (Some key) is = absurd (cc)

-- ---- all states

-- the state without its pending change
abbrev pub unchanged : KeyState → Option KeyState
unchanged state = cond (is_some state.synced) (Some (record state { pending = Same })) None

abbrev pub emptied : KeyState → Option KeyState
emptied state = cond (is_some state.synced) (Some (record state { pending = Removed })) None

abbrev pub marked_synced : KeyState → Option KeyState
marked_synced state = cond (is_some (visible_of state)) (Some (record { synced = visible_of state; pending = Same }))
    None

through : (h : KeyState → Option KeyState) (f g : KeyState → Option Element)
    → ((state : KeyState) → option_and_then f (h state) ≡ g state)
    → (states : KeyStates) → picked f (picked h states) ≡ picked g states
through h f g same states = picked_picked f h states ∙ picked_same (λ state. option_and_then f (h state)) g same states

states_through : (h : KeyState → Option KeyState)
    → ((state : KeyState) → IsKeyState state → IfSome (h state) IsKeyState) → (states : KeyStates)
    → AreKeyStates states → AreKeyStates (picked h states)
states_through h step states are = record {
  ordered = sorted_picked name_cmp h states are.ordered;
  sound = all_picked IsKeyState IsKeyState h step states are.sound;
}

-- a state with what is synchronised and this pending
of_synced : (pending : Pending) (synced : Option Element)
    → option_and_then synced_of (cond (is_some synced) (Some (record { synced = synced; pending = pending })) None)
    ≡ synced
of_synced pending None = refl
of_synced pending (Some key) = refl

same_visible : (synced : Option Element) → option_and_then visible_of
    (cond (is_some synced) (Some (record { synced = synced; pending = Same })) None) ≡ synced
same_visible None = refl
same_visible (Some key) = refl

none_visible : (synced : Option Element) → option_and_then visible_of
    (cond (is_some synced) (Some (record { synced = synced; pending = Removed })) None) ≡ None
none_visible None = refl
none_visible (Some key) = refl

is_key_state : (pending : Pending) → IsPending pending → (synced : Option Element) → IfSome synced IsKey
    → IfSome (cond (is_some synced) (Some (record { synced = synced; pending = pending })) None) IsKeyState
is_key_state pending is None key = tt
is_key_state pending is (Some synced) key = (key, is)

pub visible_key : (state : KeyState) → IsKeyState state → IfSome (visible_of state) IsKey
visible_key state is = by state.pending is.1
  where
    by : (pending : Pending) → IsPending pending → IfSome (once_changed state.synced pending) IsKey
    by Same now = is.0
    by Removed now = tt
    by (Now key) now = now.0

pub discarded : (old : KeyStates) → AreKeyStates old → IsStep old (picked unchanged old) (synced_map old)
discarded old are = record {
  synced = through unchanged synced_of synced_of (λ state. of_synced Same state.synced) old;
  visible = through unchanged visible_of synced_of (λ state. same_visible state.synced) old;
  kept = states_through unchanged (λ state is. is_key_state Same tt state.synced is.0) old are;
}

pub cleared : (old : KeyStates) → AreKeyStates old → IsStep old (picked emptied old) []
cleared old are = record {
  synced = through emptied synced_of synced_of (λ state. of_synced Removed state.synced) old;
  visible = picked_picked visible_of emptied old ∙ picked_none (λ state. option_and_then visible_of (emptied state))
      (λ state. none_visible state.synced) old;
  kept = states_through emptied (λ state is. is_key_state Removed tt state.synced is.0) old are;
}

pub marks_synced : (old : KeyStates) → AreKeyStates old → IsMarkedSynced old (picked marked_synced old)
marks_synced old are = record {
  synced = through marked_synced synced_of visible_of (λ state. of_synced Same (visible_of state)) old;
  visible = through marked_synced visible_of visible_of (λ state. same_visible (visible_of state)) old;
  kept = states_through marked_synced (λ state is. is_key_state Same tt (visible_of state) (visible_key state is)) old
      are;
}

-- a step to an equal list
pub along : (old new found : KeyStates) (target : Map) → found ≡ new → IsStep old new target → IsStep old found target
along old new found target same step = subst (λ (n : KeyStates). IsStep old n target) (sym same) step

-- ---- what a sync hands down

pub changes_are : (states : KeyStates) → AreKeyStates states → AreChanges (changes_of states) (synced_map states)
    (visible_map states)
changes_are states are = record {
  ordered = changes_ascend states are.ordered;
  exact = λ name. changes_at name states are.ordered ∙ by name (state_at states name)
      ∙ sym (rw (synced_at states name are, visible_at states name are) refl);
}
  where
    by : (name : List ℕ) (state : Option KeyState) → option_and_then (change_of name) state
        ≡ difference name (option_and_then synced_of state) (option_and_then visible_of state)
    by name None = refl
    by name (Some state) = refl
