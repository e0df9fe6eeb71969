-- The sizes of a map, and what always holds of both maps.
use Rattle.std.proofs.Common.{◌≡◌, ℕ, ◌+◌, ◌-◌, ◌<◌, ◌≤◌, List, [], ◌∷◌, length, Bool, false, refl, sym, ◌∙◌, ap, subst}
use Rattle.std.proofs.Common.{arith}
use Rattle.std.specs.Prelude.{Option, Some, None, IfSome, IsTrue, sum_by, ◌↔◌}
use Rattle.std.specs.BTreeMap.{is_at}
use Rattle.std.specs.List.Sorted.{IsStrictlySortedBy}
use Rattle.std.specs.Option.{option_and_then}
use Rattle.std.proofs.lemmas.Cmp.{nat_list_cmp_total}
use Rattle.std.proofs.lemmas.Map.Lookups.{exact_bytes}
use Rattle.per_base.specs.declared.elements.Change.{Change}
use Rattle.per_base.specs.declared.elements.Element.{Element}
use Rattle.per_base.specs.Maps.{Map, element_at, names_of, size_of, with_element, without}
use Rattle.per_base.specs.Names.{name_cmp}
use Rattle.per_base.specs.Contents.{is_readable}
use Rattle.key_maps.specs.declared.key_states.KeyState.{KeyState}
use Rattle.key_maps.specs.declared.key_states.Pending.{Pending}
use Rattle.key_maps.specs.declared.key_states.Pending.TheVariants.{Same, Removed, Now}
use Rattle.key_maps.specs.declared.extents.Extent.{Extent}
use Rattle.key_maps.specs.KeyStates.{AreKeyStates, AreMeasured, KeyStates, IsKeyState, IsPending, IsMarkedSynced}
use Rattle.key_maps.specs.KeyStates.{IsStep, Measures, state_at, once_changed, synced_map, synced_of, visible_map}
use Rattle.key_maps.specs.KeyStates.{visible_of}
use Rattle.key_maps.specs.Changes.{AreChanges, changes_of, has_any}
use Rattle.key_maps.specs.KeyElements.{IsKey}
use Rattle.key_maps.specs.TwoMaps.{AreTwoMaps}
use Rattle.key_maps.specs.lemmas.Differing.{no_changes, same_changes}
use Rattle.key_maps.specs.lemmas.Ordered.{AllValues, all_lookup, remove_none}
use Rattle.key_maps.specs.lemmas.Picked.{all_picked, sorted_picked}
use Rattle.key_maps.specs.lemmas.Steps.{changes_are, synced_at, visible_at, visible_key}
use Rattle.key_maps.specs.lemmas.Sums.{length_sum, sum_insert, sum_remove}

abbrev weigh : List ℕ × Element → ℕ
weigh e = length e.0 + e.1.len

abbrev one : List ℕ × Element → ℕ
one e = 1

pub size_set : (m : Map) (name : List ℕ) (old new : Element) → IsStrictlySortedBy name_cmp (names_of m)
    → element_at m name ≡ Some old → size_of (with_element m name new) + old.len ≡ size_of m + new.len
size_set m name old new sorted is =
    let sum : sum_by weigh (with_element m name new) + (length name + old.len)
    ≡ sum_by weigh m + (length name + new.len) = rw is at
    (sum_insert nat_list_cmp_total exact_bytes weigh name new m sorted) in
    omega (arith, sum)

pub size_new : (m : Map) (name : List ℕ) (new : Element) → IsStrictlySortedBy name_cmp (names_of m)
    → element_at m name ≡ None → size_of (with_element m name new) ≡ size_of m + (length name + new.len)
size_new m name new sorted is =
    let sum : sum_by weigh (with_element m name new) + 0 ≡ sum_by weigh m + (length name + new.len) =
    rw is at (sum_insert nat_list_cmp_total exact_bytes weigh name new m sorted) in
    omega (arith, sum)

pub size_gone : (m : Map) (name : List ℕ) (old : Element) → element_at m name ≡ Some old
    → size_of (without m name) + (length name + old.len) ≡ size_of m
size_gone m name old is = rw is at (sum_remove {R = name_cmp} exact_bytes weigh name m)

pub count_set : (m : Map) (name : List ℕ) (old new : Element) → IsStrictlySortedBy name_cmp (names_of m)
    → element_at m name ≡ Some old → length (with_element m name new) ≡ length m
count_set m name old new sorted is =
    let sum : sum_by one (with_element m name new) + 1 ≡ sum_by one m + 1 =
    rw is at (sum_insert nat_list_cmp_total exact_bytes one name new m sorted) in
    omega (arith, sum, length_sum m, length_sum (with_element m name new))

pub count_new : (m : Map) (name : List ℕ) (new : Element) → IsStrictlySortedBy name_cmp (names_of m)
    → element_at m name ≡ None → length (with_element m name new) ≡ length m + 1
count_new m name new sorted is =
    let sum : sum_by one (with_element m name new) + 0 ≡ sum_by one m + 1 =
    rw is at (sum_insert nat_list_cmp_total exact_bytes one name new m sorted) in
    omega (arith, sum, length_sum m, length_sum (with_element m name new))

pub count_gone : (m : Map) (name : List ℕ) (old : Element) → element_at m name ≡ Some old
    → length (without m name) + 1 ≡ length m
count_gone m name old is =
    let sum : sum_by one (without m name) + 1 ≡ sum_by one m =
    rw is at (sum_remove {R = name_cmp} exact_bytes one name m) in
    omega (arith, sum, length_sum m, length_sum (without m name))

-- ---- the extents

pub few_with : (m : Map) (name : List ℕ) (new : Element) → IsStrictlySortedBy name_cmp (names_of m) → length m ≤ 1024
    → (element_at m name ≡ None → length m < 1024) → length (with_element m name new) ≤ 1024
few_with m name new sorted few place = by (element_at m name) refl
  where
    by : (found : Option Element) → element_at m name ≡ found → length (with_element m name new) ≤ 1024
    by None p = omega (arith, count_new m name new sorted p, place p)
    by (Some old) p = omega (arith, count_set m name old new sorted p, few)

pub visible_sorted : (states : KeyStates) → AreKeyStates states
    → IsStrictlySortedBy name_cmp (names_of (visible_map states))
visible_sorted states are = sorted_picked name_cmp visible_of states are.ordered

pub synced_sorted : (states : KeyStates) → AreKeyStates states
    → IsStrictlySortedBy name_cmp (names_of (synced_map states))
synced_sorted states are = sorted_picked name_cmp synced_of states are.ordered

pub stepped : (old new : KeyStates) (synced visible extent : Extent) (target : Map) → AreMeasured old synced visible
    → IsStep old new target → Measures extent target → AreMeasured new synced extent
stepped old new synced visible extent target are step measures = record {
  kept = step.kept;
  synced = subst (λ (m : Map). Measures synced m) (sym step.synced) are.synced;
  visible = subst (λ (m : Map). Measures extent m) (sym step.visible) measures;
}

pub put_measured : (old new : KeyStates) (synced visible extent : Extent) (name : List ℕ) (key : Element)
    → AreMeasured old synced visible → IsStep old new (with_element (visible_map old) name key)
    → extent.count ≡ length (with_element (visible_map old) name key)
    → extent.size ≡ size_of (with_element (visible_map old) name key)
    → (element_at (visible_map old) name ≡ None → length (visible_map old) < 1024)
    → size_of (with_element (visible_map old) name key) ≤ 4194304 → AreMeasured new synced extent
put_measured old new synced visible extent name key are step count size place small =
    let few : length (with_element (visible_map old) name key) ≤ 1024 =
    few_with (visible_map old) name key (visible_sorted old are.kept)
    (omega (arith, are.visible.counted, are.visible.few)) place in
    stepped old new synced visible extent (with_element (visible_map old) name key) are step (record {
      counted = count;
      sized = size;
      few = omega (arith, count, few);
      small = omega (arith, size, small);
    })

pub removed_measured : (old new : KeyStates) (synced visible extent : Extent) (name : List ℕ) (key : Element)
    → (taken : ℕ) → AreMeasured old synced visible → IsStep old new (without (visible_map old) name)
    → element_at (visible_map old) name ≡ Some key → taken ≡ length name + key.len → extent.count ≡ visible.count - 1
    → extent.size ≡ visible.size - taken → AreMeasured new synced extent
removed_measured old new synced visible extent name key taken are step there takes count size =
    let counts : length (without (visible_map old) name) + 1 ≡ length (visible_map old) =
    count_gone (visible_map old) name key there in
    let sizes : size_of (without (visible_map old) name) + (length name + key.len) ≡ size_of (visible_map old) =
    size_gone (visible_map old) name key there in
    let was : Measures visible (visible_map old) = are.visible in
    stepped old new synced visible extent (without (visible_map old) name) are step (record {
      counted = omega (arith, counts, count, was.counted);
      sized = omega (arith, sizes, size, takes, was.sized);
      few = omega (arith, count, was.few);
      small = omega (arith, size, was.small);
    })

pub cleared_measured : (old new : KeyStates) (synced visible extent : Extent) → AreMeasured old synced visible
    → IsStep old new [] → extent.count ≡ 0 → extent.size ≡ 0 → AreMeasured new synced extent
cleared_measured old new synced visible extent are step count size =
    stepped old new synced visible extent [] are step (record {
      counted = count;
      sized = size;
      few =
          omega (arith, count);
      small = omega (arith, size);
    })

pub discarded_measured : (old new : KeyStates) (synced visible : Extent) → AreMeasured old synced visible
    → IsStep old new (synced_map old) → AreMeasured new synced synced
discarded_measured old new synced visible are step = stepped old new synced visible synced (synced_map old) are step
    are.synced

pub marked_measured : (old new : KeyStates) (synced visible : Extent) → AreMeasured old synced visible
    → IsMarkedSynced old new
    → AreMeasured new visible visible
marked_measured old new synced visible are step = record {
  kept = step.kept;
  synced = subst (λ (m : Map). Measures visible m) (sym step.synced) are.visible;
  visible = subst (λ (m : Map). Measures visible m) (sym step.visible) are.visible;
}

-- ---- what always holds

synced_keys : (states : KeyStates) → AreKeyStates states → AllValues IsKey (synced_map states)
synced_keys states are = all_picked IsKeyState IsKey synced_of (λ state is. is.0) states are.sound

visible_keys : (states : KeyStates) → AreKeyStates states → AllValues IsKey (visible_map states)
visible_keys states are = all_picked IsKeyState IsKey visible_of (λ state is. visible_key state is) states are.sound

if_found : (m : Map) (name : List ℕ) → AllValues IsKey m → IfSome (element_at m name) IsKey
if_found m name all = by (element_at m name) refl
  where
    by : (found : Option Element) → element_at m name ≡ found → IfSome found IsKey
    by None p = tt
    by (Some key) p = all_lookup IsKey (is_at (name_cmp name)) m key all p

as_synced : (states : KeyStates) → AreKeyStates states → (name : List ℕ) (key : Element)
    → element_at (visible_map states) name ≡ Some key → is_readable key.content ≡ false
    → element_at (synced_map states) name ≡ Some key
as_synced states are name key there unreadable =
    synced_at states name are ∙ by (state_at states name) refl (sym (visible_at states name are) ∙ there)
  where
    of_pending : (state : KeyState) (pending : Pending) → IsPending pending → once_changed state.synced pending
        ≡ Some key
        → state.synced ≡ Some key
    of_pending state Same is p = p
    of_pending state Removed is p = absurd (cc)
    of_pending state (Now other) is p =
        let same : other ≡ key = cc in
        let readable : IsTrue (is_readable key.content) = subst (λ (e : Element). IsTrue (is_readable e.content)) same
        is.1 in
        let never : IsTrue false = subst IsTrue unreadable readable in absurd (cc)

    by : (found : Option KeyState) → state_at states name ≡ found → option_and_then visible_of found ≡ Some key
        → option_and_then synced_of found ≡ Some key
    by None p q = absurd (cc)
    by (Some state) p q =
        let is : IsKeyState state = all_lookup IsKeyState (is_at (name_cmp name)) states state are.sound p in
        of_pending state state.pending is.1 q

pub measured_maps : (states : KeyStates) (synced visible : Extent) → AreMeasured states synced visible
    → AreTwoMaps (record { synced = synced_map states; visible = visible_map states })
measured_maps states synced visible are = record {
  synced = record {
    ordered = synced_sorted states are.kept;
    few = omega (arith, are.synced.counted, are.synced.few);
    small = omega (arith, are.synced.sized, are.synced.small);
    keys = λ name key there. all_lookup IsKey (is_at (name_cmp name)) (synced_map states) key
        (synced_keys states are.kept) there;
  };
  visible = record {
    ordered = visible_sorted states are.kept;
    few = omega (arith, are.visible.counted, are.visible.few);
    small = omega (arith, are.visible.sized, are.visible.small);
    keys = λ name key there. all_lookup IsKey (is_at (name_cmp name)) (visible_map states) key
        (visible_keys states are.kept) there;
  };
  unreadable = as_synced states are.kept;
}

pub changes_exact : (states : KeyStates) → AreKeyStates states → (has_any (changes_of states) ≡ false) ↔
    (synced_map states ≡ visible_map states)
changes_exact states are = (there, back)
  where
    none : (changes : List Change) → has_any changes ≡ false → changes ≡ []
    none [] p = refl
    none (x ∷ xs) p = absurd (cc)

    there : has_any (changes_of states) ≡ false → synced_map states ≡ visible_map states
    there p =
        no_changes (synced_map states) (visible_map states) (synced_sorted states are) (visible_sorted states are)
        (λ name. if_found (synced_map states) name (synced_keys states are))
        (λ name. if_found (visible_map states) name (visible_keys states are))
        (subst (λ (l : List Change). AreChanges l (synced_map states) (visible_map states))
        (none (changes_of states) p) (changes_are states are))

    back : synced_map states ≡ visible_map states → has_any (changes_of states) ≡ false
    back same =
        ap has_any (same_changes (changes_of states) (visible_map states)
        (subst (λ (m : Map). AreChanges (changes_of states) m (visible_map states)) same (changes_are states are)))

pub exact_by : (answer : Bool) (states : KeyStates) → AreKeyStates states → answer ≡ has_any (changes_of states)
    → (answer ≡ false) ↔ (synced_map states ≡ visible_map states)
exact_by answer states are is = (
  (λ p. (changes_exact states are).0 (sym is ∙ p)),
  (λ e. is ∙ (changes_exact states are).1 e),
)

pub changes_by : (changes : List Change) (states : KeyStates) → AreKeyStates states
    → changes ≡ changes_of states → AreChanges changes (synced_map states) (visible_map states)
changes_by changes states are is = subst (λ (l : List Change).
    AreChanges l (synced_map states) (visible_map states)) (sym is) (changes_are states are)

pub without_absent : (m : Map) (name : List ℕ) → element_at m name ≡ None → without m name ≡ m
without_absent m name none = remove_none (is_at (name_cmp name)) m none
