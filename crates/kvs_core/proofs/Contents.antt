-- What is read of a content.
use Rattle.std.proofs.Common.{◌≡◌, ◌<◌, ◌&&◌, ◌∙◌, ℕ, List, length, Bool, true, false, cond, not, refl, sym, ap, subst}
use Rattle.std.proofs.Common.{arith}
use Rattle.std.specs.Prelude.{◌↔◌, Option, Some, None, Result, Ok, Err, IfErr, IsErr, IsErrAnd, IsTrue, is_some}
use Rattle.std.specs.Prelude.{nat_le, option_map}
use Rattle.std.proofs.lemmas.Bool.Decides.{nat_tests}
use Rattle.per_base.specs.declared.elements.Content.{Content}
use Rattle.per_base.specs.declared.elements.Content.TheVariants.{Good, Bad}
use Rattle.per_base.specs.declared.elements.Element.{Element}
use Rattle.per_base.specs.declared.errors.Limit.TheVariants as limit
use Rattle.per_base.specs.declared.errors.PerError.{PerError}
use Rattle.per_base.specs.declared.errors.PerError.TheVariants.{IntegrityCorrupted, LimitReached}
use Rattle.per_base.specs.declared.errors.Unit.TheVariants.{Part}
use Rattle.per_base.specs.Maps.{Map, element_at, has, with_element}
use Rattle.per_base.specs.Refusals.{IsRefusal, NeedsMemory}
use Rattle.value_model.specs.Kinds.{Kind, same_kind}
use Rattle.value_model.specs.Trees.{Tree, type_of}
use Rattle.value_code.specs.Reading.{decoded, is_encoding}
use Rattle.value_text.specs.Texts.{mismatch}
use Rattle.value_text.specs.lemmas.LimitLaws.{same_kind-self, same_kind-true}
use Rattle.deployment_model.specs.Data.{StorageData}
use Rattle.deployment_model.specs.Lookups.{initial_content}
use Rattle.key_maps.specs.KeyElements.{key_of}
use Rattle.key_maps.specs.Shown.{good_bytes}
use Rattle.kvs_core.specs.Calls.{as_kind, get_any, get_as, read_key, readable_value, reset_key, stored_kind}
use Rattle.kvs_core.specs.Calls.{unless_differ, unless_refused, unless_typed, with_place, with_placed, with_room}

pub read_stored : (c : StorageData) (name : List ℕ) (content : Content) (bytes : List ℕ)
    → Some bytes ≡ good_bytes content → read_key c name content ≡ readable_value (decoded bytes)
read_stored c name (Good there) bytes is = let same : there ≡ bytes = cc in rw same refl
read_stored c name (Bad salvage) bytes is = absurd (cc)

pub read_bad : (c : StorageData) (name : List ℕ) (content : Content) → None ≡ good_bytes content
    → read_key c name content ≡ Err (IntegrityCorrupted (Part c.name name))
read_bad c name (Good there) is = absurd (cc)
read_bad c name (Bad salvage) is = refl

kind_stored : (content : Content) (bytes : List ℕ) → Some bytes ≡ good_bytes content
    → stored_kind content ≡ option_map type_of (decoded bytes)
kind_stored (Good there) bytes is = let same : there ≡ bytes = cc in rw same refl
kind_stored (Bad salvage) bytes is = absurd (cc)

abbrev HasKind : List ℕ → Kind → Type 0
HasKind bytes asked = option_map type_of (decoded bytes) ≡ Some asked

-- a value for a key that has one of the same type, or of another
module _ (content : Content) (bytes : List ℕ) (asked : Kind) (is : Some bytes ≡ good_bytes content)
    (rest : Result Map PerError) where
  pub same_typed : HasKind bytes asked → unless_typed (stored_kind content) asked rest ≡ rest
  same_typed same = rw (kind_stored content bytes is, same, same_kind-self asked) refl

  pub other_typed : (stored : Tree) → decoded bytes ≡ Some stored → ¬ HasKind bytes asked
      → unless_typed (stored_kind content) asked rest ≡ Err (mismatch (type_of stored) asked)
  other_typed stored reads other = by (same_kind (type_of stored) asked) refl
    where
      by : (same : Bool) → same_kind (type_of stored) asked ≡ same
          → unless_typed (stored_kind content) asked rest ≡ Err (mismatch (type_of stored) asked)
      by true e =
          let there : HasKind bytes asked =
          ap (option_map type_of) reads ∙ ap (λ (k : Kind). Some k) (same_kind-true (type_of stored) asked e) in
          absurd (other there)
      by false e = rw (kind_stored content bytes is, reads, e) refl

  pub typed_needs : IsTrue (is_encoding bytes) → ¬ HasKind bytes asked
      → NeedsMemory (unless_typed (stored_kind content) asked rest)
  typed_needs encodes other = by (decoded bytes) refl encodes
    where
      by : (read : Option Tree) → decoded bytes ≡ read → IsTrue (is_some read)
          → NeedsMemory (unless_typed (stored_kind content) asked rest)
      by None reads some = absurd (cc)
      by (Some stored) reads some =
          subst (λ (due : Result Map PerError). NeedsMemory due) (sym (other_typed stored reads other)) tt

-- what a test that failed says
pub untrue : {P : Type 0} (answer : Bool) → (IsTrue answer ↔ P) → answer ≡ false → ¬ P
untrue answer both fails holds = let is : IsTrue answer = both.1 holds in absurd (cc (is, fails))

pub kind_bad : (content : Content) → None ≡ good_bytes content → stored_kind content ≡ None
kind_bad (Good there) is = absurd (cc)
kind_bad (Bad salvage) is = refl

-- ---- what needs memory

-- an answer of two types, or that they differ
needs_same : {A : Type 0} (stored asked : Kind) (answer : A) → NeedsMemory (unless_differ stored asked (Ok answer))
needs_same {A = A} stored asked answer = by (same_kind stored asked)
  where
    by : (same : Bool) → NeedsMemory (cond (not same) (let r : Result A PerError = Err (mismatch stored asked) in r)
        (Ok answer))
    by true = tt
    by false = tt

pub needs_value : (c : StorageData) (m : Map) (name : List ℕ) (asked : Kind) (value : Tree)
    → get_any c m name ≡ Ok value → NeedsMemory (get_as c m name asked)
needs_value c m name asked value is = rw is (needs_same (type_of value) asked value)

-- what a call needs memory for whatever the type, it does for this one
pub needs_kept : (asked : Kind) (due : Result Tree PerError) → NeedsMemory due → NeedsMemory (as_kind asked due)
needs_kept asked (Ok value) needs = needs_same (type_of value) asked value
needs_kept asked (Err error) needs = needs

-- a value is there to be read
pub reads_needs : (due : Result Tree PerError) (read : Option Tree) → due ≡ readable_value read
    → IsTrue (is_some read) → NeedsMemory due
reads_needs due None is some = absurd (cc)
reads_needs due (Some value) is some = subst (λ (r : Result Tree PerError). NeedsMemory r) (sym is) tt

-- a name that is there has a place
pub there : (m : Map) (name : List ℕ) (key : Element) → element_at m name ≡ Some key → with_place m name (Ok m) ≡ Ok m
there m name key is = rw is refl

-- ---- a place for a name

pub few_without : (m : Map) (name : List ℕ) (full : Bool) → full ≡ (not (has m name) && nat_le 1024 (length m))
    → full ≡ false → element_at m name ≡ None → length m < 1024
few_without m name full is empty none =
    let here : (not (has m name) && nat_le 1024 (length m)) ≡ false = sym is ∙ empty in
    let less : nat_le 1024 (length m) ≡ false = rw none at here in
    grind (arith, nat_tests, less)

pub placed_there : (c : StorageData) (m : Map) (name bytes stored : List ℕ) (full : Bool)
    → full ≡ (not (has m name) && nat_le 1024 (length m)) → full ≡ false → stored ≡ bytes
    → with_placed c m name bytes ≡ with_room c (with_element m name (key_of stored))
placed_there c m name bytes stored full is empty same =
    let here : (not (has m name) && nat_le 1024 (length m)) ≡ false = sym is ∙ empty in
    rw (← same, here) refl

pub lacks_place : (c : StorageData) (m : Map) (name : List ℕ) (asked : Kind) (full : Bool)
    → full ≡ (not (has m name) && nat_le 1024 (length m)) → full ≡ true
    → ((rest : Result Map PerError) → unless_refused c m name asked rest ≡ rest)
    → (rest : Result Map PerError)
    → IsRefusal (unless_refused c m name asked (with_place m name rest)) (LimitReached limit.Elements)
lacks_place c m name asked full is filled passes rest =
    let here : (not (has m name) && nat_le 1024 (length m)) ≡ true = sym is ∙ filled in
    let place : with_place m name rest ≡ Err (LimitReached limit.Elements) = rw here refl in
    λ other. passes (with_place m name rest) ∙ place

-- an error that is handed on
pub handed_refusal : {T A : Type 0} (result : Result T PerError) (due : Result A PerError) (error : PerError)
    → IsErr result × IsErrAnd result (λ e. e ≡ error) → IsRefusal due error → IfErr result (λ e. IsRefusal due e)
handed_refusal (Ok x) due error is refusal = tt
handed_refusal (Err e) due error is refusal = subst (λ (x : PerError). IsRefusal due x) (sym is.1) refusal

pub needs_done : {A : Type 0} (due : Result A PerError) (answer : A) → due ≡ Ok answer → NeedsMemory due
needs_done {A} due answer is = subst (λ (r : Result A PerError). NeedsMemory r) (sym is) tt

-- what a reset needs memory for, where there is an initial value and a place for it
pub reset_there : (c : StorageData) (m : Map) (name bytes : List ℕ) (full : Bool) → c.read_only ≡ false
    → initial_content c name ≡ Some bytes → full ≡ (not (has m name) && nat_le 1024 (length m)) → full ≡ false
    → NeedsMemory (with_room c (with_element m name (key_of bytes))) → NeedsMemory (reset_key c m name)
reset_there c m name bytes full writes is fills empty needs =
    rw (writes, is, placed_there c m name bytes bytes full fills empty refl) needs
