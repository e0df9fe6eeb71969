-- A value that was set is what is got.
use Rattle.std.proofs.Common.{◌≡◌, ◌&&◌, ℕ, List, [], ◌∷◌, length, Bool, true, false, cond, not, refl}
use Rattle.std.specs.Prelude.{Option, Some, None, Result, Ok, Err, nat_le, nat_lt}
use Rattle.std.specs.declared.cmp.Ordering.{Ordering}
use Rattle.std.specs.declared.cmp.Ordering.TheVariants.{Less, Equal, Greater}
use Rattle.std.proofs.lemmas.Cmp.{nat_list_cmp_total, tied_itself}
use Rattle.per_base.specs.declared.elements.Element.{Element}
use Rattle.per_base.specs.declared.errors.Limit.TheVariants as limit
use Rattle.per_base.specs.declared.errors.PerError.{PerError}
use Rattle.per_base.specs.declared.errors.PerError.TheVariants.{IllegalWriteAccess, LimitReached, OutOfStorageSpace}
use Rattle.per_base.specs.Maps.{Map, element_at, has, size_of, with_element}
use Rattle.per_base.specs.Names.{name_cmp}
use Rattle.per_base.specs.Refusals.{refuse}
use Rattle.value_model.specs.Encoding.{encoding}
use Rattle.value_model.specs.Kinds.{Kind, kind_depth}
use Rattle.value_model.specs.Trees.{Tree, type_of}
use Rattle.value_model.specs.Validity.{max_depth, max_length}
use Rattle.value_code.specs.Reading.{decoded}
use Rattle.deployment_model.specs.Data.{StorageData}
use Rattle.deployment_model.specs.Lookups.{element_named}
use Rattle.key_maps.specs.KeyElements.{key_of}
use Rattle.kvs_core.specs.Calls.{get_as, kind_for, set_any, set_value, unless_typed, with_placed, with_room}
use Rattle.kvs_laws.proofs.SameKinds.{same_kind_self}

-- ---- a call that is answered passed each refusal

passes : {A : Type 0} (refused : Bool) (error : PerError) (rest : Result A PerError) (x : A)
    → cond refused (Err error) rest ≡ Ok x → rest ≡ Ok x
passes true error rest x is = absurd (cc)
passes false error rest x is = is

typed : {A : Type 0} (stored : Option Kind) (asked : Kind) (rest : Result A PerError) (x : A)
    → unless_typed stored asked rest ≡ Ok x → rest ≡ Ok x
typed None asked rest x is = is
typed (Some k) asked rest x is = passes _ _ rest x is

pub set_puts : (c : StorageData) (m : Map) (name : List ℕ) (value : Tree) (new : Map)
    → set_value c m name value ≡ Ok new
    → with_element m name (key_of (encoding value)) ≡ new
set_puts c m name value new is =
    let put = with_element m name (key_of (encoding value)) in
    let stored = kind_for (element_named c name) (element_at m name) in
    let short = passes (nat_lt max_depth (kind_depth (type_of value))) (LimitReached limit.ValueDepth)
    (refuse (nat_lt max_length (length (encoding value))) (LimitReached limit.ValueBytes) (set_any c m name value)) new
    is
    in
    let any = passes (nat_lt max_length (length (encoding value))) (LimitReached limit.ValueBytes)
    (set_any c m name value) new short in
    let writes = passes c.read_only IllegalWriteAccess
    (unless_typed stored (type_of value) (with_placed c m name (encoding value))) new any in
    let place = typed stored (type_of value) (with_placed c m name (encoding value)) new writes in
    let room = passes (not (has m name) && nat_le 1024 (length m)) (LimitReached limit.Elements) (with_room c put) new
    place in
    let all = passes (nat_lt c.maximum (size_of put)) (OutOfStorageSpace (size_of put) c.maximum) (Ok put) new room in
    cc

-- ---- what was put is there

pub put_is_there : (m : Map) (name : List ℕ) (key : Element) → element_at (with_element m name key) name ≡ Some key
put_is_there [] name key = rw (tied_itself nat_list_cmp_total name) refl
put_is_there (e ∷ m) name key = by (name_cmp name e.0) refl (put_is_there m name key)
  where
    by : (r : Ordering) → name_cmp name e.0 ≡ r → element_at (with_element m name key) name ≡ Some key
        → element_at (with_element (e ∷ m) name key) name ≡ Some key
    by Less is later = rw (is, tied_itself nat_list_cmp_total name) refl
    by Equal is later = rw (is, is) refl
    by Greater is later = rw (is, is) later

pub set_is_got : (c : StorageData) (m : Map) (name : List ℕ) (value : Tree) (new : Map)
    → decoded (encoding value) ≡ Some value → set_value c m name value ≡ Ok new
    → get_as c new name (type_of value) ≡ Ok value
set_is_got c m name value new again is =
    let puts = set_puts c m name value new is in
    let there : element_at new name ≡ Some (key_of (encoding value)) =
    rw (← puts) (put_is_there m name (key_of (encoding value))) in
    rw (there, again, same_kind_self (type_of value)) refl
