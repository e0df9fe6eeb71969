-- The calls of a session of keys: each is a function of the storage's configuration (`c`), the visible map from names
-- to keys (`m : Map`), the name of a key in bytes (`name`) and the other arguments. A call that writes gives the map
-- that is visible after it. A `Tree` is a value, a `Kind` a type of values.
use Rattle.std.specs.Prelude.{ℕ, List, [], length, Bool, false, not, ◌&&◌, nat_le, nat_lt, Option, None, Some}
use Rattle.std.specs.Prelude.{option_map, Result, Ok, Err}
use Rattle.per_base.specs.declared.elements.Content.{Content}
use Rattle.per_base.specs.declared.elements.Content.TheVariants.{Good, Bad}
use Rattle.per_base.specs.declared.elements.Element.{Element}
use Rattle.per_base.specs.declared.errors.Limit.TheVariants as limit
use Rattle.per_base.specs.declared.errors.PerError.{PerError}
use Rattle.per_base.specs.declared.errors.PerError.TheVariants.{KeyNotFound, IllegalWriteAccess, IntegrityCorrupted}
use Rattle.per_base.specs.declared.errors.PerError.TheVariants.{OutOfStorageSpace, LimitReached}
use Rattle.per_base.specs.declared.errors.Unit.TheVariants.{Part}
use Rattle.per_base.specs.Maps.{Map, element_at, has, size_of, with_element, without}
use Rattle.per_base.specs.Refusals.{with_initial, refuse}
use Rattle.per_base.specs.Contents.{is_readable}
use Rattle.value_model.specs.Encoding.{encoding}
use Rattle.value_model.specs.Kinds.{Kind, kind_depth, same_kind}
use Rattle.value_model.specs.Trees.{Tree, type_of}
use Rattle.value_model.specs.Validity.{max_depth, max_length}
use Rattle.value_code.specs.Reading.{decoded}
use Rattle.value_text.specs.Texts.{mismatch}
use Rattle.deployment_model.specs.Data.{ElementData, StorageData}
use Rattle.deployment_model.specs.Lookups.{element_named, initial_content}
use Rattle.key_maps.specs.KeyElements.{key_of}

-- what a call gives for the key of a name, or `KeyNotFound` where there is none
abbrev pub found : {A : Type 0} → Option Element → (Element → Result A PerError) → Result A PerError
found None call = Err KeyNotFound
found (Some key) call = call key

-- ---- reading

-- whether there is a key and it is readable
abbrev pub is_readable_key : Option Element → Bool
is_readable_key None = false
is_readable_key (Some key) = is_readable key.content

-- the value that a readable content decodes to; there always is one, so that `KeyNotFound` does not come from here
abbrev pub readable_value : Option Tree → Result Tree PerError
readable_value None = Err KeyNotFound
readable_value (Some value) = Ok value

-- the value in this content of the key `name`, or that it is unreadable, with the names of the storage and of the key
abbrev pub read_key : StorageData → List ℕ → Content → Result Tree PerError
read_key c name (Good bytes) = readable_value (decoded bytes)
read_key c name (Bad salvage) = Err (IntegrityCorrupted (Part c.name name))

-- the value of the visible key of a name
abbrev pub get_any : StorageData → Map → List ℕ → Result Tree PerError
get_any c m name = found (element_at m name) (λ key. read_key c name key.content)

-- `DataTypeMismatch` where the stored type and the asked one differ, with both; else the rest
abbrev pub unless_differ : {A : Type 0} → Kind → Kind → Result A PerError → Result A PerError
unless_differ stored asked rest = refuse (not (same_kind stored asked)) (mismatch stored asked) rest

-- the answer where its value has the asked type; an error stays
abbrev pub as_kind : Kind → Result Tree PerError → Result Tree PerError
as_kind asked (Ok value) = unless_differ (type_of value) asked (Ok value)
as_kind asked (Err error) = Err error

-- the value of a key, asked for by its type
abbrev pub get_as : StorageData → Map → List ℕ → Kind → Result Tree PerError
get_as c m name asked = as_kind asked (get_any c m name)

-- ---- writing

-- the type of the value in a readable content; an unreadable one has none
abbrev pub stored_kind : Content → Option Kind
stored_kind (Good bytes) = option_map type_of (decoded bytes)
stored_kind (Bad salvage) = None

-- the type that values of a name have, if any: the one of its configuration, where the name is configured (which may
-- leave it open), else that of its visible readable value
abbrev pub kind_for : Option ElementData → Option Element → Option Kind
kind_for (Some e) key = e.value_type
kind_for None None = None
kind_for None (Some key) = stored_kind key.content

-- `DataTypeMismatch` where there is a stored type and it differs from the asked one; else the rest
abbrev pub unless_typed : {A : Type 0} → Option Kind → Kind → Result A PerError → Result A PerError
unless_typed None asked rest = rest
unless_typed (Some stored) asked rest = unless_differ stored asked rest

-- `LimitReached` where `name` is not in `m` and there are 1,024 keys, the most that a storage has; else the rest
abbrev pub with_place : {A : Type 0} → Map → List ℕ → Result A PerError → Result A PerError
with_place m name rest = refuse (not (has m name) && nat_le 1024 (length m)) (LimitReached limit.Elements) rest

-- the map `new`, or `OutOfStorageSpace` where its names and encodings take more bytes than the storage is allowed,
-- with both numbers
abbrev pub with_room : StorageData → Map → Result Map PerError
with_room c new = refuse (nat_lt c.maximum (size_of new)) (OutOfStorageSpace (size_of new) c.maximum) (Ok new)

-- the map with this encoding at the name, where one key more is allowed and there is room for it
abbrev pub with_placed : StorageData → Map → List ℕ → List ℕ → Result Map PerError
with_placed c m name bytes = with_place m name (with_room c (with_element m name (key_of bytes)))

-- refused where the storage is read-only, or where values of the name have another type than the asked one; else the
-- rest
abbrev pub unless_refused : StorageData → Map → List ℕ → Kind → Result Map PerError → Result Map PerError
unless_refused c m name asked rest = refuse c.read_only IllegalWriteAccess
    (unless_typed (kind_for (element_named c name) (element_at m name)) asked rest)

-- setting a key to a value; the key is created where the name is not visible
abbrev pub set_any : StorageData → Map → List ℕ → Tree → Result Map PerError
set_any c m name value = unless_refused c m name (type_of value) (with_placed c m name (encoding value))

-- setting a key to the value of a Rust type, which may be too deep or too long: that is refused first
abbrev pub set_value : StorageData → Map → List ℕ → Tree → Result Map PerError
set_value c m name value =
    refuse (nat_lt max_depth (kind_depth (type_of value))) (LimitReached limit.ValueDepth)
    (refuse (nat_lt max_length (length (encoding value))) (LimitReached limit.ValueBytes)
    (set_any c m name value))

-- removing a key, which must be visible
abbrev pub remove_key : StorageData → Map → List ℕ → Result Map PerError
remove_key c m name = refuse c.read_only IllegalWriteAccess
    (refuse (not (has m name)) KeyNotFound (Ok (without m name)))

-- removing all keys
abbrev pub remove_all_keys : StorageData → Map → Result Map PerError
remove_all_keys c m = refuse c.read_only IllegalWriteAccess (Ok [])

-- ---- restoring

-- the map once an unreadable key without a salvage is recovered: with its initial value in bytes, if there is room
-- for it, or without the key where it has none
abbrev pub restored : StorageData → Map → List ℕ → Option (List ℕ) → Result Map PerError
restored c m name None = Ok (without m name)
restored c m name (Some bytes) = with_room c (with_element m name (key_of bytes))

-- a recovery of a key, of this initial value and this content, takes the salvage or the initial value, which has to
-- be copied
abbrev pub TakesCopy : Option (List ℕ) → Content → Type 0
TakesCopy initial (Good bytes) = ⊥
TakesCopy initial (Bad (Some salvage)) = Unit {0}
TakesCopy None (Bad None) = ⊥
TakesCopy (Some bytes) (Bad None) = Unit {0}

-- recovering a key of this content: a readable one stays; an unreadable one becomes its salvage, else its initial
-- value, else it goes
abbrev pub recovered : StorageData → Map → List ℕ → Content → Result Map PerError
recovered c m name (Good bytes) = Ok m
recovered c m name (Bad (Some salvage)) = Ok (with_element m name (key_of salvage))
recovered c m name (Bad None) = restored c m name (initial_content c name)

-- recovering the visible key of a name
abbrev pub recover_key : StorageData → Map → List ℕ → Result Map PerError
recover_key c m name = refuse c.read_only IllegalWriteAccess
    (found (element_at m name) (λ key. recovered c m name key.content))

-- setting a key to its initial value; `InitValueNotAvailable` where it has none
abbrev pub reset_key : StorageData → Map → List ℕ → Result Map PerError
reset_key c m name = refuse c.read_only IllegalWriteAccess
    (with_initial (initial_content c name) (λ bytes. with_placed c m name bytes))
