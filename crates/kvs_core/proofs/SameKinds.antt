-- The test whether two types are the same answers what it says.
use Rattle.std.proofs.Common.{◌≡◌, ◌≤◌, length, Bool, true, false, List, [], ◌∷◌, ℕ, refl, sym, ap, subst, ◌∙◌}
use Rattle.std.specs.Prelude.{IsTrue, ◌↔◌, Option, Some, None, find}
use Rattle.std.specs.List.{AllByRecursion}
use Rattle.std.specs.Str.{bytes_eq}
use Rattle.per_base.specs.declared.elements.StoreKind.{StoreKind}
use Rattle.per_base.specs.declared.elements.StoreKind.TheVariants.{Keys}
use Rattle.value_model.specs.Kinds.{Kind, kind_fits, same_kind}
use Rattle.value_model.specs.Encoding.{encoding}
use Rattle.deployment_model.specs.Conditions.{HasTypeFor, IsElement, IsStorage, StartsAs}
use Rattle.deployment_model.specs.Data.{ElementData, StorageData}
use Rattle.deployment_model.specs.Lookups.{element_named, initial_content}
use Rattle.value_text.specs.lemmas.LimitLaws.{same_kind-true, same_kind-self}

pub has_kind : (answer : Bool) (j k : Kind) → (IsTrue answer ↔ (j ≡ k)) → answer ≡ same_kind j k
has_kind answer j k both = by answer (same_kind j k) refl refl
  where
    same : j ≡ k → same_kind j k ≡ true
    same e = ap (λ (x : Kind). same_kind x k) e ∙ same_kind-self k

    by : (a s : Bool) → answer ≡ a → same_kind j k ≡ s → answer ≡ same_kind j k
    by true true p q = p ∙ sym q
    by false false p q = p ∙ sym q
    by true false p q = let e : j ≡ k = both.0 (rw p refl) in let is : same_kind j k ≡ true = same e in absurd (cc)
    by false true p q = let is : IsTrue answer = both.1 (same_kind-true j k q) in let e : answer ≡ true =
        is in absurd (cc)

pub is_kind : (answer : Bool) (j k : Kind) → (IsTrue answer ↔ (j ≡ k)) → answer ≡ same_kind k j
is_kind answer j k both = has_kind answer k j ((λ t. sym (both.0 t)), (λ e. both.1 (sym e)))

pub same_from : (answer : Bool) (j k l : Kind) → answer ≡ same_kind j k → answer ≡ true → k ≡ l → j ≡ l
same_from answer j k l is holds last = same_kind-true j k (sym is ∙ holds) ∙ last

-- ---- the type of a key that is configured

found_holds : {X : Type 0} (P : X → Type 0) (test : X → Bool) (xs : List X) (x : X) → AllByRecursion P xs
    → find test xs ≡ Some x → P x
found_holds P test [] x all is = absurd (cc)
found_holds {X = X} P test (y ∷ ys) x all is = by (test y) refl (λ later. found_holds P test ys x all.1 later)
  where
    by : (b : Bool) → test y ≡ b → (find test ys ≡ Some x → P x) → P x
    by true p later = let here : Some y ≡ Some x = rw p at is in let same : y ≡ x = cc in rw (← same) all.0
    by false p later = later (rw p at is)

pub configured_kind : (s : StorageData) (name : List ℕ) (e : ElementData) (k : Kind) → IsStorage s → s.kind ≡ Keys
    → Some e ≡ element_named s name → e.value_type ≡ Some k → IsTrue (kind_fits k)
configured_kind s name e k storage keys is typed =
    let element : IsElement s.kind e = found_holds (IsElement s.kind) (λ (x : ElementData). bytes_eq x.name name)
    s.elements e storage.each (sym is) in
    let one : HasTypeFor Keys e.value_type = subst (λ (kind : StoreKind). HasTypeFor kind e.value_type) keys
    element.typed in
    let two : HasTypeFor Keys (Some k) = subst (λ (t : Option Kind). HasTypeFor Keys t) typed one in
    two.groups

-- ---- the initial value of a key

short_start : (t : Option Kind) (initial : Option (List ℕ)) (bytes : List ℕ) → initial ≡ Some bytes
    → StartsAs Keys t initial → length bytes ≤ 65536
short_start t None bytes is starts = absurd (cc)
short_start None (Some there) bytes is starts = absurd starts
short_start (Some k) (Some there) bytes is starts =
    let same : there ≡ bytes = cc in
    let short : length (encoding starts.value) ≤ 65536 = starts.is_value.short in
    rw (← same, starts.encoded) short

pub initial_short : (s : StorageData) (name bytes : List ℕ) → IsStorage s → s.kind ≡ Keys
    → Some bytes ≡ initial_content s name → length bytes ≤ 65536
initial_short s name bytes storage keys is = by (element_named s name) refl
  where
    by : (found : Option ElementData) → element_named s name ≡ found → length bytes ≤ 65536
    by None p = absurd (cc (rw p at is))
    by (Some e) p =
        let element : IsElement s.kind e = found_holds (IsElement s.kind) (λ (x : ElementData). bytes_eq x.name name)
        s.elements e storage.each p in
        let starts : StartsAs Keys e.value_type e.initial =
        subst (λ (kind : StoreKind). StartsAs kind e.value_type e.initial) keys element.initial in
        short_start e.value_type e.initial bytes (sym (rw p at is)) starts
