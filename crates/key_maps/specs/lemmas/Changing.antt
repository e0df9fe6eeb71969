-- What a sync hands down: its names ascend, and the change of a name is that of the state there.
use Rattle.std.proofs.Common.{◌≡◌, ℕ, List, [], ◌∷◌, map, Bool, true, false, cond, refl, sym, ◌∙◌, ap, subst}
use Rattle.std.specs.Prelude.{Option, Some, None}
use Rattle.std.specs.BTreeMap.{is_at}
use Rattle.std.specs.List.{cons_option}
use Rattle.std.specs.List.Sorted.{IsStrictlySortedBy}
use Rattle.std.specs.Map.{keys_of}
use Rattle.std.specs.Option.{option_and_then}
use Rattle.std.specs.Str.{bytes_eq}
use Rattle.std.proofs.lemmas.Bool.Decides.{same_from_decides}
use Rattle.std.proofs.lemmas.Map.Keys.{sorted_head, sorted_tail}
use Rattle.std.proofs.lemmas.Map.Text.{is_eq-slice_cmp}
use Rattle.std.proofs.lemmas.Slice.Eq.{bytes_eq-Decides}
use Rattle.per_base.specs.Changes.{change_at, changed_name}
use Rattle.per_base.specs.declared.elements.Change.{Change}
use Rattle.per_base.specs.Names.{name_cmp}
use Rattle.key_maps.specs.declared.key_states.KeyState.{KeyState}
use Rattle.key_maps.specs.KeyStates.{KeyStates, state_at, synced_of, visible_of}
use Rattle.key_maps.specs.Changes.{change_of, changes_of}
use Rattle.key_maps.specs.lemmas.Differing.{difference_named}
use Rattle.key_maps.specs.lemmas.Ordered.{Above, lookup_above, sorted_cons}

-- ---- the first state

pub changes_some : (e : List ℕ × KeyState) (es : KeyStates) (c : Change) → change_of e.0 e.1 ≡ Some c
    → changes_of (e ∷ es) ≡ c ∷ changes_of es
changes_some e es c is = rw is refl

pub changes_skip : (e : List ℕ × KeyState) (es : KeyStates) → change_of e.0 e.1 ≡ None
    → changes_of (e ∷ es) ≡ changes_of es
changes_skip e es is = rw is refl

change_named : (name : List ℕ) (state : KeyState) (c : Change) → change_of name state ≡ Some c → changed_name c ≡ name
change_named name state c is = difference_named name (synced_of state) (visible_of state) c is

-- ---- names

above_changes : (name : List ℕ) (es : KeyStates) → Above name_cmp name (keys_of es)
    → Above name_cmp name (map changed_name (changes_of es))
above_changes name [] above = tt
above_changes name (e ∷ es) above = by (change_of e.0 e.1) refl (above_changes name es above.1)
  where
    by : (c : Option Change) → change_of e.0 e.1 ≡ c → Above name_cmp name (map changed_name (changes_of es))
        → Above name_cmp name (map changed_name (cons_option c (changes_of es)))
    by None p later = later
    by (Some c) p later = (rw (change_named e.0 e.1 c p) above.0, later)

pub changes_ascend : (es : KeyStates) → IsStrictlySortedBy name_cmp (keys_of es)
    → IsStrictlySortedBy name_cmp (map changed_name (changes_of es))
changes_ascend [] sorted = sorted
changes_ascend (e ∷ es) sorted =
    by (change_of e.0 e.1) refl (changes_ascend es (sorted_tail name_cmp e.0 (keys_of es) sorted))
    (above_changes e.0 es (sorted_head name_cmp e.0 (keys_of es) sorted))
  where
    by : (c : Option Change) → change_of e.0 e.1 ≡ c → IsStrictlySortedBy name_cmp (map changed_name (changes_of es))
        → Above name_cmp e.0 (map changed_name (changes_of es))
        → IsStrictlySortedBy name_cmp (map changed_name (cons_option c (changes_of es)))
    by None p later above = later
    by (Some c) p later above =
        rw (change_named e.0 e.1 c p) (sorted_cons name_cmp e.0 (map changed_name (changes_of es)) above later)

-- ---- the change of a name

bytes_eq_sym : (a b : List ℕ) → bytes_eq a b ≡ bytes_eq b a
bytes_eq_sym a b = same_from_decides (bytes_eq a b) (bytes_eq b a) (bytes_eq-Decides a b)
    ((λ p. sym ((bytes_eq-Decides b a).0 p)), (λ p. (bytes_eq-Decides b a).1 (sym p)))

same_place : (name other : List ℕ) → bytes_eq other name ≡ is_at (name_cmp name) other
same_place name other = bytes_eq_sym other name ∙ sym (is_eq-slice_cmp name other)

pub changes_at : (name : List ℕ) (es : KeyStates) → IsStrictlySortedBy name_cmp (keys_of es)
    → change_at name (changes_of es) ≡ option_and_then (change_of name) (state_at es name)
changes_at name [] sorted = refl
changes_at name (e ∷ es) sorted =
    by (is_at (name_cmp name) e.0) (same_place name e.0) (change_of e.0 e.1) refl
    (changes_at name es (sorted_tail name_cmp e.0 (keys_of es) sorted))
  where
    -- the name is the first one
    moved : bytes_eq e.0 name ≡ true → (c : Option Change) → change_of e.0 e.1 ≡ c → change_of name e.1 ≡ c
    moved p c q = subst (λ (n : List ℕ). change_of n e.1 ≡ c) ((bytes_eq-Decides e.0 name).0 p) q

    gone : bytes_eq e.0 name ≡ true → state_at es name ≡ None
    gone p = subst (λ (n : List ℕ). state_at es n ≡ None) ((bytes_eq-Decides e.0 name).0 p)
        (lookup_above name_cmp e.0 es (sorted_head name_cmp e.0 (keys_of es) sorted))

    by : (b : Bool) → bytes_eq e.0 name ≡ b → (c : Option Change) → change_of e.0 e.1 ≡ c
        → change_at name (changes_of es) ≡ option_and_then (change_of name) (state_at es name)
        → change_at name (cons_option c (changes_of es))
        ≡ option_and_then (change_of name) (cond b (Some e.1) (state_at es name))
    by true p None q later = later ∙ (ap (option_and_then (change_of name)) (gone p) ∙ sym (moved p None q))
    by true p (Some c) q later = rw (change_named e.0 e.1 c q, p) (sym (moved p (Some c) q))
    by false p None q later = later
    by false p (Some c) q later = rw (change_named e.0 e.1 c q, p) later
