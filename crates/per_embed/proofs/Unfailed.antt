-- No call on keys answers that the disk failed.
use Rattle.std.proofs.Common.{◌≡◌, ◌≢◌, ℕ, List, Bool, true, false, not, length}
use Rattle.std.specs.Prelude.{◌&&◌, nat_le, nat_lt, IfErr, Option, Some, None, Result, Ok, Err}
use Rattle.per_base.specs.declared.elements.Content.{Content}
use Rattle.per_base.specs.declared.elements.Content.TheVariants.{Good, Bad}
use Rattle.per_base.specs.declared.elements.Element.{Element}
use Rattle.per_base.specs.declared.errors.Limit.TheVariants as limit
use Rattle.per_base.specs.declared.errors.PerError.{PerError}
use Rattle.per_base.specs.declared.errors.PerError.TheVariants.{PhysicalStorageFailure, IllegalWriteAccess}
use Rattle.per_base.specs.declared.errors.PerError.TheVariants.{LimitReached, OutOfStorageSpace}
use Rattle.per_base.specs.Maps.{Map, element_at, has, size_of, with_element}
use Rattle.per_base.specs.Refusals.{IsRefusal, refuse}
use Rattle.value_model.specs.Encoding.{encoding}
use Rattle.value_model.specs.Kinds.{Kind, kind_depth, same_kind}
use Rattle.value_model.specs.Trees.{Tree, type_of}
use Rattle.value_model.specs.Validity.{max_depth, max_length}
use Rattle.deployment_model.specs.Data.{StorageData}
use Rattle.deployment_model.specs.Lookups.{element_named}
use Rattle.value_code.specs.Reading.{decoded}
use Rattle.value_text.specs.Texts.{mismatch}
use Rattle.key_maps.specs.KeyElements.{key_of}
use Rattle.kvs_core.specs.Calls.{kind_for, set_value, unless_typed, with_placed, with_room}
use Rattle.kvs_core.specs.Calls.{as_kind, found, get_any, get_as, read_key, readable_value, set_any}

abbrev IsUnfailed : {A : Type 0} → Result A PerError → Type 0
IsUnfailed result = result ≢ Err PhysicalStorageFailure

refuses : {A : Type 0} (test : Bool) (error : PerError) (rest : Result A PerError) → error ≢ PhysicalStorageFailure
    → IsUnfailed rest → IsUnfailed (refuse test error rest)
refuses true error rest differs not_rest = λ e. differs cc
refuses false error rest differs not_rest = not_rest

typed : (stored : Option Kind) (asked : Kind) (rest : Result Map PerError) → IsUnfailed rest
    → IsUnfailed (unless_typed stored asked rest)
typed None asked rest not_rest = not_rest
typed (Some stored) asked rest not_rest = refuses (not (same_kind stored asked)) (mismatch stored asked) rest
    (λ e. absurd cc) not_rest

room : (c : StorageData) (new : Map) → IsUnfailed (with_room c new)
room c new = refuses (nat_lt c.maximum (size_of new)) (OutOfStorageSpace (size_of new) c.maximum) (Ok new)
    (λ e. absurd cc) (λ e. absurd cc)

place : (c : StorageData) (m : Map) (name bytes : List ℕ) → IsUnfailed (with_placed c m name bytes)
place c m name bytes = refuses (not (has m name) && nat_le 1024 (length m)) (LimitReached limit.Elements)
    (with_room c (with_element m name (key_of bytes))) (λ e. absurd cc) (room c (with_element m name (key_of bytes)))

any : (c : StorageData) (m : Map) (name : List ℕ) (value : Tree) → IsUnfailed (set_any c m name value)
any c m name value = refuses c.read_only IllegalWriteAccess
    (unless_typed (kind_for (element_named c name) (element_at m name)) (type_of value)
    (with_placed c m name (encoding value))) (λ e. absurd cc)
    (typed (kind_for (element_named c name) (element_at m name)) (type_of value)
    (with_placed c m name (encoding value)) (place c m name (encoding value)))

pub set_unfailed : (c : StorageData) (m : Map) (name : List ℕ) (value : Tree)
    → set_value c m name value ≢ Err PhysicalStorageFailure
set_unfailed c m name value = refuses (nat_lt max_depth (kind_depth (type_of value))) (LimitReached limit.ValueDepth)
    (refuse (nat_lt max_length (length (encoding value))) (LimitReached limit.ValueBytes) (set_any c m name value))
    (λ e. absurd cc)
    (refuses (nat_lt max_length (length (encoding value))) (LimitReached limit.ValueBytes) (set_any c m name value)
    (λ e. absurd cc) (any c m name value))

-- ---- reading

readable : (found_value : Option Tree) → IsUnfailed (readable_value found_value)
readable None = λ e. absurd cc
readable (Some value) = λ e. absurd cc

content : (c : StorageData) (name : List ℕ) (there : Content) → IsUnfailed (read_key c name there)
content c name (Good bytes) = readable (decoded bytes)
content c name (Bad salvage) = λ e. absurd cc

there_is : (c : StorageData) (name : List ℕ) (key : Option Element)
    → IsUnfailed (found key (λ (k : Element). read_key c name k.content))
there_is c name None = λ e. absurd cc
there_is c name (Some key) = content c name key.content

of_kind : (asked : Kind) (result : Result Tree PerError) → IsUnfailed result → IsUnfailed (as_kind asked result)
of_kind asked (Ok value) unfailed = refuses (not (same_kind (type_of value) asked)) (mismatch (type_of value) asked)
    (Ok value) (λ e. absurd cc) (λ e. absurd cc)
of_kind asked (Err error) unfailed = unfailed

get_unfailed : (c : StorageData) (m : Map) (name : List ℕ) (asked : Kind)
    → get_as c m name asked ≢ Err PhysicalStorageFailure
get_unfailed c m name asked = of_kind asked (get_any c m name) (there_is c name (element_at m name))

-- ---- a refusal of a storage that is open

not_refused : {A : Type 0} (due : Result A PerError) → due ≢ Err PhysicalStorageFailure
    → ¬ (IsRefusal due PhysicalStorageFailure)
not_refused due unfailed refusal = unfailed (refusal (λ e. absurd cc))

pub set_open : {A : Type 0} (c : StorageData) (m : Map) (name : List ℕ) (value : Tree) (result : Result A PerError)
    → IfErr result (λ error. IsRefusal (set_value c m name value) error) → result ≢ Err PhysicalStorageFailure
set_open c m name value (Ok answer) refused is = absurd cc
set_open c m name value (Err error) refused is =
    let same : error ≡ PhysicalStorageFailure = cc in
    not_refused (set_value c m name value) (set_unfailed c m name value) (rw same at refused)

pub get_open : {A : Type 0} (c : StorageData) (m : Map) (name : List ℕ) (kind : Kind) (result : Result A PerError)
    → IfErr result (λ error. IsRefusal (get_as c m name kind) error) → result ≢ Err PhysicalStorageFailure
get_open c m name kind (Ok answer) refused is = absurd cc
get_open c m name kind (Err error) refused is =
    let same : error ≡ PhysicalStorageFailure = cc in
    not_refused (get_as c m name kind) (get_unfailed c m name kind) (rw same at refused)
