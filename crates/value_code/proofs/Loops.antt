-- Reading as many kinds as a count says, one after the other, as a loop does.
use Rattle.std.proofs.Common.{◌≡◌, ℕ, suc, ◌-◌, ◌+◌, ◌≤◌, ◌<◌, List, [], ◌∷◌, ◌++◌, Option, Some, None, refl, sym, ap}
use Rattle.std.proofs.Common.{◌∙◌, arith}
use Rattle.per_base.specs.Fields.{◌>>=◌}
use Rattle.value_model.specs.declared.errors.DecodeError.{DecodeError}
use Rattle.value_model.specs.declared.errors.DecodeError.TheVariants.{NotAValue, OutOfMemory}
use Rattle.value_model.specs.Kinds.{Kind, Kinds, no_kinds, kind_then}
use Rattle.value_model.specs.declared.types.ValueType.{ValueType}
use Rattle.value_model.specs.Views.{kind_of, kinds_view}
use Rattle.value_model.specs.Decoding.{FailsToRead}
use Rattle.value_code.specs.Reading.{kinds_by}

-- kinds before others
abbrev pub join_kinds : Kinds → Kinds → Kinds
join_kinds no_kinds others = others
join_kinds (kind_then k ks) others = kind_then k (join_kinds ks others)

join_kinds-nil : (ks : Kinds) → join_kinds ks no_kinds ≡ ks
join_kinds-nil no_kinds = refl
join_kinds-nil (kind_then k ks) = ap (λ js. kind_then k js) (join_kinds-nil ks)

join_kinds_assoc : (ks : Kinds) (k : Kind) (js : Kinds)
    → join_kinds (join_kinds ks (kind_then k no_kinds)) js ≡ join_kinds ks (kind_then k js)
join_kinds_assoc no_kinds k js = refl
join_kinds_assoc (kind_then i ks) k js = ap (λ ls. kind_then i ls) (join_kinds_assoc ks k js)

-- what was read before, and what is still read
abbrev pub kinds_with : Kinds → Option (Kinds × List ℕ) → Option (Kinds × List ℕ)
kinds_with front read = read >>= λ x. Some (join_kinds front x.0, x.1)

regroup_kinds : (front : Kinds) (k : Kind) (read : Option (Kinds × List ℕ))
    → kinds_with front (read >>= λ x. Some (kind_then k x.0, x.1))
    ≡ kinds_with (join_kinds front (kind_then k no_kinds)) read
regroup_kinds front k None = refl
regroup_kinds front k (Some x) = ap (λ (ks : Kinds). Some (ks, x.1)) (sym (join_kinds_assoc front k x.0))

pub kinds_go_on : (f : List ℕ → Option (Kind × List ℕ)) (front : Kinds) (count i : ℕ) (bytes : List ℕ) (k : Kind)
    (after : List ℕ) (total : Option (Kinds × List ℕ)) → i < count → f bytes ≡ Some (k, after)
    → kinds_with front (kinds_by f (count - i) bytes) ≡ total
    → kinds_with (join_kinds front (kind_then k no_kinds)) (kinds_by f (count - (i + 1)) after) ≡ total
unfolding kinds_by
kinds_go_on f front count i bytes k after total lt h so_far =
    let left : count - i ≡ suc (count - (i + 1)) = omega arith in
    let step : kinds_with front (kinds_by f (count - i) bytes)
    ≡ kinds_with (join_kinds front (kind_then k no_kinds)) (kinds_by f (count - (i + 1)) after) =
    rw (left, h) (regroup_kinds front k (kinds_by f (count - (i + 1)) after)) in
    sym step ∙ so_far

pub kinds_end : (e : DecodeError) (f : List ℕ → Option (Kind × List ℕ)) (front : Kinds) (count i : ℕ) (bytes : List ℕ)
    (total : Option (Kinds × List ℕ)) → i < count → FailsToRead e (f bytes)
    → kinds_with front (kinds_by f (count - i) bytes) ≡ total → FailsToRead e total
unfolding kinds_by
kinds_end NotAValue f front count i bytes total lt h so_far =
    let left : count - i ≡ suc (count - (i + 1)) = omega arith in
    let step : kinds_with front (kinds_by f (count - i) bytes) ≡ None = rw (left, h) refl in
    sym so_far ∙ step
kinds_end OutOfMemory f front count i bytes total lt h so_far = tt

pub kinds_done : (f : List ℕ → Option (Kind × List ℕ)) (front : Kinds) (count i : ℕ) (bytes : List ℕ)
    (total : Option (Kinds × List ℕ)) → count ≤ i → kinds_with front (kinds_by f (count - i) bytes) ≡ total
    → total ≡ Some (front, bytes)
unfolding kinds_by
kinds_done f front count i bytes total le so_far =
    let left : count - i ≡ 0 = omega arith in
    let step : kinds_with front (kinds_by f (count - i) bytes) ≡ Some (front, bytes) =
    rw left (ap (λ (ks : Kinds). Some (ks, bytes)) (join_kinds-nil front)) in
    sym so_far ∙ step

pub kinds_push : (ts : List ValueType) (t : ValueType)
    → kinds_view (ts ++ t ∷ []) ≡ join_kinds (kinds_view ts) (kind_then (kind_of t) no_kinds)
kinds_push [] t = refl
kinds_push (u ∷ ts) t = ap (λ ks. kind_then (kind_of u) ks) (kinds_push ts t)
