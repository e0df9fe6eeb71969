-- What a recovery makes of a content, and that a salvage always fits.
use Rattle.std.proofs.Common.{◌≡◌, ℕ, ◌≤◌, List, length, true, false, refl, sym, ap, subst, ◌∙◌, arith, inr}
use Rattle.std.specs.Prelude.{◌⊎◌, Option, Some, None, Result, Ok, Err, IfErr, nat_lt}
use Rattle.std.specs.List.Sorted.{IsStrictlySortedBy}
use Rattle.per_base.specs.declared.elements.Content.{Content}
use Rattle.per_base.specs.declared.elements.Content.TheVariants.{Good, Bad}
use Rattle.per_base.specs.declared.elements.Element.{Element}
use Rattle.per_base.specs.Maps.{Map, element_at, names_of, size_of, with_element, without}
use Rattle.per_base.specs.Names.{name_cmp}
use Rattle.std.proofs.lemmas.Bool.Decides.{nat_tests}
use Rattle.per_base.specs.declared.errors.PerError.{PerError}
use Rattle.per_base.specs.declared.errors.PerError.TheVariants.{OutOfMemory}
use Rattle.per_base.specs.Refusals.{IsRefusal, NeedsMemory}
use Rattle.per_base.specs.Contents.{is_readable}
use Rattle.value_model.specs.Encoding.{encoding}
use Rattle.value_model.specs.Kinds.{kind_depth}
use Rattle.value_model.specs.Trees.{Tree, type_of}
use Rattle.value_model.specs.Validity.{IsValue, max_depth, max_length}
use Rattle.key_maps.specs.TwoMaps.{TwoMaps}
use Rattle.kvs_core.specs.Sessions.{HasRoom}
use Rattle.deployment_model.specs.Data.{StorageData}
use Rattle.deployment_model.specs.Lookups.{initial_content}
use Rattle.key_maps.specs.KeyElements.{key_of}
use Rattle.key_maps.specs.Shown.{salvage_in}
use Rattle.key_maps.specs.lemmas.Both.{size_gone, size_set, without_absent}
use Rattle.kvs_core.specs.Calls.{recovered, restored, set_any, set_value}

pub recovers_good : (c : StorageData) (m : Map) (name : List ℕ) (content : Content) → is_readable content ≡ true
    → recovered c m name content ≡ Ok m
recovers_good c m name (Good bytes) is = refl
recovers_good c m name (Bad salvage) is = absurd (cc)

pub recovers_salvage : (c : StorageData) (m : Map) (name : List ℕ) (content : Content) (salvage : List ℕ)
    → Some salvage ≡ salvage_in content → recovered c m name content ≡ Ok (with_element m name (key_of salvage))
recovers_salvage c m name (Good bytes) salvage is = absurd (cc)
recovers_salvage c m name (Bad None) salvage is = absurd (cc)
recovers_salvage c m name (Bad (Some there)) salvage is = let same : there ≡ salvage = cc in rw same refl

pub recovers_other : (c : StorageData) (m : Map) (name : List ℕ) (content : Content) → is_readable content ≡ false
    → None ≡ salvage_in content → recovered c m name content ≡ restored c m name (initial_content c name)
recovers_other c m name (Good bytes) is none = absurd (cc)
recovers_other c m name (Bad None) is none = refl
recovers_other c m name (Bad (Some there)) is none = absurd (cc)

-- a key of the same length takes the same room
pub same_room : (m : Map) (name : List ℕ) (old new : Element) (most : ℕ) → IsStrictlySortedBy name_cmp (names_of m)
    → element_at m name ≡ Some old → new.len ≡ old.len → size_of m ≤ most → size_of (with_element m name new) ≤ most
same_room m name old new most sorted is len fits = omega (arith, size_set m name old new sorted is, len, fits)

-- ---- what is removed makes room

less_without : (m : Map) (name : List ℕ) → size_of (without m name) ≤ size_of m
less_without m name = by (element_at m name) refl
  where
    by : (found : Option Element) → element_at m name ≡ found → size_of (without m name) ≤ size_of m
    by None p = let same : size_of (without m name) ≡ size_of m =
        ap size_of (without_absent m name p) in omega (arith, same)
    by (Some old) p = omega (arith, size_gone m name old p)

pub room_without : (config : StorageData) (old new : TwoMaps) (name : List ℕ) → HasRoom config old
    → new ≡ record old { visible = without old.visible name } → HasRoom config new
room_without config old new name room is =
    subst (λ (m : TwoMaps). HasRoom config m) (sym is) (record {
      configured = room.configured;
      of_keys = room.of_keys;
      synced = room.synced;
      visible = omega (arith, room.visible, less_without old.visible name);
    })

-- ---- refusals

pub refused_same : {T A : Type 0} (r : Result T PerError) (due other : Result A PerError) → due ≡ other
    → IfErr r (λ error. IsRefusal other error) → IfErr r (λ error. IsRefusal due error)
refused_same (Ok x) due other same h = tt
refused_same (Err error) due other same h = λ never. same ∙ h never

pub needs_alike : {T A : Type 0} (P : Type 0) (r : Result T PerError) (due other : Result A PerError) → due ≡ other
    → IfErr r (λ error. error ≡ OutOfMemory → NeedsMemory other)
    → IfErr r (λ error. error ≡ OutOfMemory → P ⊎ NeedsMemory due)
needs_alike P (Ok x) due other same h = tt
needs_alike {A = A} P (Err error) due other same h = λ out. inr (subst (λ (row : Result A PerError). NeedsMemory row)
    (sym same) (h out))

pub value_kept : (c : StorageData) (m : Map) (name : List ℕ) (tree value : Tree) → value ≡ tree → IsValue value
    → set_value c m name tree ≡ set_any c m name value
value_kept c m name tree value is valid =
    let deep : nat_lt max_depth (kind_depth (type_of value)) ≡ false = grind (arith, nat_tests, valid.shallow) in
    let long : nat_lt max_length (length (encoding value)) ≡ false = grind (arith, nat_tests, valid.short) in
    let kept : set_value c m name value ≡ set_any c m name value = rw (deep, long) refl in
    ap (λ (t : Tree). set_value c m name t) (sym is) ∙ kept
