-- What the readers of whole texts promise.
use Rattle.std.proofs.Common.{◌≡◌, ◌≢◌, ℕ, ◌≤◌, ◌<◌, cond, nat_eq, List, [], ◌++◌, length, Some, None, Result, Ok, Err}
use Rattle.std.proofs.Common.{refl, sym, ap, subst, ◌∙◌}
use Rattle.std.specs.Prelude.{IfOk}
use Rattle.std.proofs.lemmas.Bool.{eqb-true}
use Rattle.std.proofs.lemmas.List.{append-nil, nil_from_length}
use Rattle.value_model.specs.declared.errors.DecodeError.{DecodeError}
use Rattle.value_model.specs.declared.errors.DecodeError.TheVariants as errors
use Rattle.value_model.specs.Kinds.{Kind, kind_depth}
use Rattle.value_model.specs.Validity.{IsTyped, InRange, IsValue, max_depth, max_length}
use Rattle.value_model.specs.Trees.{Tree, type_of}
use Rattle.value_model.specs.Encoding.{encoding}
use Rattle.value_model.specs.declared.errors.ValueError.{ValueError}
use Rattle.value_model.specs.declared.errors.ValueError.TheVariants as value_errors
use Rattle.value_model.specs.Decoding.{Gives}
use Rattle.value_text.specs.Types.{IsType}
use Rattle.value_text.specs.Texts.{type_text, value_text}
use Rattle.value_text.specs.Parsing.{kind_at, kind_in, tree_at, tree_in, value_in}
use Rattle.value_text.specs.Limits.{keeps_limits, kept}
use Rattle.value_text.specs.lemmas.Steps.{bind_some, if_some, some_is}
use Rattle.value_text.specs.lemmas.TypeLaws.{kind_takes, kind_again}
use Rattle.value_text.specs.lemmas.ValueLaws.{tree_takes, tree_again}
use Rattle.value_text.specs.lemmas.LimitLaws.{keeps_limits-true, keeps_limits-from, ill_typed, too_deep, too_long}

-- ---- types

abbrev IsTypeOf : List ℕ → Kind → Type 0
IsTypeOf text k = IsType k × (text ≡ type_text k)

pub kind_in_takes : (text : List ℕ) (k : Kind) → kind_in text ≡ Some k → IsTypeOf text k
unfolding kind_in
kind_in_takes text k e =
    let a = bind_some (kind_at max_depth text) (λ x. cond (nat_eq (length x.1) 0) (Some x.0) None) k e in
    let b = if_some (nat_eq (length a.0.1) 0) (Some a.0.0) k a.2 in
    let read = kind_takes max_depth text a.0 a.1 in
    let whole : text ≡ type_text a.0.0 = read.0 ∙ ap (λ (t : List ℕ). type_text a.0.0 ++ t)
    (nil_from_length a.0.1 (eqb-true _ _ b.0)) ∙ append-nil (type_text a.0.0) in
    subst (λ (x : Kind). IsTypeOf text x) (some_is a.0.0 k b.1)
    (record { groups = read.1.groups; shallow = read.1.shallow }, whole)

pub kind_in_again : (k : Kind) → IsType k → kind_in (type_text k) ≡ Some k
unfolding kind_in
kind_in_again k fits =
    let read : kind_at max_depth (type_text k) ≡ Some (k, []) =
    ap (kind_at max_depth) (sym (append-nil (type_text k))) ∙ kind_again max_depth k [] fits.groups fits.shallow in
    rw read refl

pub type_found : {T : Type 0} (view : T → Kind) (text : List ℕ) (r : Result T DecodeError) → Gives view r (kind_in text)
    → IfOk r (λ t. IsTypeOf text (view t))
type_found view text (Ok t) given = kind_in_takes text (view t) given
type_found view text (Err e) given = tt

pub type_only : {T : Type 0} (view : T → Kind) (text : List ℕ) (r : Result T DecodeError) → Gives view r (kind_in text)
    → r ≡ Err errors.NotAValue → (k : Kind) → IsType k → text ≢ type_text k
type_only view text r given e k fits same =
    let none : kind_in text ≡ None = subst (λ (x : Result _ DecodeError). Gives view x (kind_in text)) e given in
    let found : kind_in text ≡ Some k = ap kind_in same ∙ kind_in_again k fits in
    absurd cc

-- ---- values

abbrev IsValueOf : List ℕ → Tree → Type 0
IsValueOf text t = IsValue t × (text ≡ value_text t)

tree_in_takes : (text : List ℕ) (t : Tree) → tree_in text ≡ Some t → (text ≡ value_text t) × InRange t
unfolding tree_in
tree_in_takes text t e =
    let a = bind_some (tree_at max_depth text) (λ x. cond (nat_eq (length x.1) 0) (Some x.0) None) t e in
    let b = if_some (nat_eq (length a.0.1) 0) (Some a.0.0) t a.2 in
    let read = tree_takes max_depth text a.0 a.1 in
    let whole : text ≡ value_text a.0.0 = read.0 ∙ ap (λ (r : List ℕ). value_text a.0.0 ++ r)
    (nil_from_length a.0.1 (eqb-true _ _ b.0)) ∙ append-nil (value_text a.0.0) in
    subst (λ (x : Tree). (text ≡ value_text x) × InRange x) (some_is a.0.0 t b.1) (whole, read.1)

tree_in_again : (t : Tree) → IsValue t → tree_in (value_text t) ≡ Some t
unfolding tree_in
tree_in_again t value =
    let read : tree_at max_depth (value_text t) ≡ Some (t, []) =
    ap (tree_at max_depth) (sym (append-nil (value_text t)))
    ∙ tree_again max_depth t value.shallow value.typed value.in_range [] refl in
    rw read refl

pub value_in_takes : (text : List ℕ) (t : Tree) → value_in text ≡ Some t → IsValueOf text t
unfolding value_in
value_in_takes text t e =
    let a = bind_some (tree_in text) kept t e in
    let b = if_some (keeps_limits a.0) (Some a.0) t a.2 in
    let read = tree_in_takes text a.0 a.1 in
    subst (λ (x : Tree). IsValueOf text x) (some_is a.0 t b.1) (keeps_limits-true a.0 read.1 b.0, read.0)

pub value_in_again : (t : Tree) → IsValue t → value_in (value_text t) ≡ Some t
unfolding value_in
value_in_again t value = rw (tree_in_again t value, keeps_limits-from t value) refl

pub value_found : {V : Type 0} (view : V → Tree) (text : List ℕ) (r : Result V DecodeError)
    → Gives view r (value_in text) → IfOk r (λ v. IsValueOf text (view v))
value_found view text (Ok v) given = value_in_takes text (view v) given
value_found view text (Err e) given = tt

pub value_only : {V : Type 0} (view : V → Tree) (text : List ℕ) (r : Result V DecodeError)
    → Gives view r (value_in text) → r ≡ Err errors.NotAValue → (t : Tree) → IsValue t → text ≢ value_text t
value_only view text r given e t value same =
    let none : value_in text ≡ None = subst (λ (x : Result _ DecodeError). Gives view x (value_in text)) e given in
    let found : value_in text ≡ Some t = ap value_in same ∙ value_in_again t value in
    absurd cc

-- a node that is no value does not keep the limits
pub refused : {V : Type 0} (t : Tree) (r : Result V ValueError) (error : ValueError) → r ≡ Err error
    → (r ≡ Err value_errors.IllTyped → ¬ IsTyped t) → (r ≡ Err value_errors.TooDeep
    → IsTyped t × (max_depth < kind_depth (type_of t)))
    → (r ≡ Err value_errors.TooLong → IsTyped t × ((kind_depth (type_of t) ≤ max_depth)
    × (max_length < length (encoding t))))
    → (r ≡ Err value_errors.OutOfMemory → ⊥) → kept t ≡ None
refused t r value_errors.IllTyped is ill deep long memory = rw (ill_typed t (ill is)) refl
refused t r value_errors.TooDeep is ill deep long memory = rw (too_deep t (deep is).1) refl
refused t r value_errors.TooLong is ill deep long memory = rw (too_long t (long is).1.1) refl
refused t r value_errors.OutOfMemory is ill deep long memory = absurd (memory is)

pub kept_value : (t v : Tree) → v ≡ t → IsValue t → kept t ≡ Some v
kept_value t v same value = rw (keeps_limits-from t value) (ap (λ (x : Tree). Some x) (sym same))

-- ---- one text, one thing

pub same_type : (j k : Kind) → IsType j → IsType k → type_text j ≡ type_text k → j ≡ k
same_type j k p q e = some_is j k (sym (kind_in_again j p) ∙ ap kind_in e ∙ kind_in_again k q)

pub same_value : (t u : Tree) → IsValue t → IsValue u → value_text t ≡ value_text u → t ≡ u
same_value t u p q e = some_is t u (sym (value_in_again t p) ∙ ap value_in e ∙ value_in_again u q)
