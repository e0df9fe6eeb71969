-- Reading as many trees as a count says, one after the other, as a loop does: what `Loops` says of kinds.
use Rattle.std.proofs.Common.{◌≡◌, ℕ, suc, ◌-◌, ◌+◌, ◌≤◌, ◌<◌, List, [], ◌∷◌, ◌++◌, Option, Some, None, refl, sym, ap}
use Rattle.std.proofs.Common.{◌∙◌, arith, length, drop}
use Rattle.per_base.specs.Fields.{◌>>=◌}
use Rattle.value_model.specs.declared.errors.DecodeError.{DecodeError}
use Rattle.value_model.specs.declared.errors.DecodeError.TheVariants.{NotAValue, OutOfMemory}
use Rattle.value_model.specs.Trees.{Tree, Trees, no_trees, tree_then}
use Rattle.value_model.specs.declared.nodes.Node.{Node}
use Rattle.std.proofs.lemmas.List.{drop_all}
use Rattle.value_model.specs.declared.types.ValueType.{ValueType}
use Rattle.value_model.specs.Views.{kind_of, kinds_view, tree_of, trees_view}
use Rattle.value_model.specs.Decoding.{FailsToRead}
use Rattle.value_code.specs.Reading.{tree_at, trees_at, trees_by}

abbrev pub join_trees : Trees → Trees → Trees
join_trees no_trees others = others
join_trees (tree_then k ks) others = tree_then k (join_trees ks others)

join_trees-nil : (ks : Trees) → join_trees ks no_trees ≡ ks
join_trees-nil no_trees = refl
join_trees-nil (tree_then k ks) = ap (λ js. tree_then k js) (join_trees-nil ks)

join_trees_assoc : (ks : Trees) (k : Tree) (js : Trees)
    → join_trees (join_trees ks (tree_then k no_trees)) js ≡ join_trees ks (tree_then k js)
join_trees_assoc no_trees k js = refl
join_trees_assoc (tree_then i ks) k js = ap (λ ls. tree_then i ls) (join_trees_assoc ks k js)

-- what was read before, and what is still read
abbrev pub trees_with : Trees → Option (Trees × List ℕ) → Option (Trees × List ℕ)
trees_with front read = read >>= λ x. Some (join_trees front x.0, x.1)

regroup_trees : (front : Trees) (k : Tree) (read : Option (Trees × List ℕ))
    → trees_with front (read >>= λ x. Some (tree_then k x.0, x.1))
    ≡ trees_with (join_trees front (tree_then k no_trees)) read
regroup_trees front k None = refl
regroup_trees front k (Some x) = ap (λ (ks : Trees). Some (ks, x.1)) (sym (join_trees_assoc front k x.0))

pub trees_go_on : (f : List ℕ → Option (Tree × List ℕ)) (front : Trees) (count i : ℕ) (bytes : List ℕ) (k : Tree)
    (after : List ℕ) (total : Option (Trees × List ℕ)) → i < count → f bytes ≡ Some (k, after)
    → trees_with front (trees_by f (count - i) bytes) ≡ total
    → trees_with (join_trees front (tree_then k no_trees)) (trees_by f (count - (i + 1)) after) ≡ total
unfolding trees_by
trees_go_on f front count i bytes k after total lt h so_far =
    let left : count - i ≡ suc (count - (i + 1)) = omega arith in
    let step : trees_with front (trees_by f (count - i) bytes)
    ≡ trees_with (join_trees front (tree_then k no_trees)) (trees_by f (count - (i + 1)) after) =
    rw (left, h) (regroup_trees front k (trees_by f (count - (i + 1)) after)) in
    sym step ∙ so_far

pub trees_end : (e : DecodeError) (f : List ℕ → Option (Tree × List ℕ)) (front : Trees) (count i : ℕ) (bytes : List ℕ)
    (total : Option (Trees × List ℕ)) → i < count → FailsToRead e (f bytes)
    → trees_with front (trees_by f (count - i) bytes) ≡ total → FailsToRead e total
unfolding trees_by
trees_end NotAValue f front count i bytes total lt h so_far =
    let left : count - i ≡ suc (count - (i + 1)) = omega arith in
    let step : trees_with front (trees_by f (count - i) bytes) ≡ None = rw (left, h) refl in
    sym so_far ∙ step
trees_end OutOfMemory f front count i bytes total lt h so_far = tt

pub trees_done : (f : List ℕ → Option (Tree × List ℕ)) (front : Trees) (count i : ℕ) (bytes : List ℕ)
    (total : Option (Trees × List ℕ)) → count ≤ i → trees_with front (trees_by f (count - i) bytes) ≡ total
    → total ≡ Some (front, bytes)
unfolding trees_by
trees_done f front count i bytes total le so_far =
    let left : count - i ≡ 0 = omega arith in
    let step : trees_with front (trees_by f (count - i) bytes) ≡ Some (front, bytes) =
    rw left (ap (λ (ks : Trees). Some (ks, bytes)) (join_trees-nil front)) in
    sym so_far ∙ step

pub trees_push : (ts : List Node) (t : Node) → trees_view (ts ++ t ∷ [])
    ≡ join_trees (trees_view ts) (tree_then (tree_of t) no_trees)
trees_push [] t = refl
trees_push (u ∷ ts) t = ap (λ ks. tree_then (tree_of u) ks) (trees_push ts t)

-- one node of each type, as a loop over the types reads them
pub members_go_on : (front : Trees) (types : List ValueType) (i : ℕ) (t : ValueType) (bytes : List ℕ) (x : Tree)
    (after : List ℕ) (total : Option (Trees × List ℕ)) → drop i types ≡ t ∷ drop (i + 1) types
    → tree_at (kind_of t) bytes ≡ Some (x, after)
    → trees_with front (trees_at (kinds_view (drop i types)) bytes) ≡ total
    → trees_with (join_trees front (tree_then x no_trees)) (trees_at (kinds_view (drop (i + 1) types)) after)
    ≡ total
members_go_on front types i t bytes x after total left h so_far =
    let step : trees_with front (trees_at (kinds_view (drop i types)) bytes)
    ≡ trees_with (join_trees front (tree_then x no_trees)) (trees_at (kinds_view (drop (i + 1) types)) after) =
    rw (left, h) (regroup_trees front x (trees_at (kinds_view (drop (i + 1) types)) after)) in
    sym step ∙ so_far

pub members_done : (front : Trees) (types : List ValueType) (i : ℕ) (bytes : List ℕ) (total : Option (Trees × List ℕ))
    → length types ≤ i → trees_with front (trees_at (kinds_view (drop i types)) bytes) ≡ total
    → total ≡ Some (front, bytes)
members_done front types i bytes total le so_far =
    let none : drop i types ≡ [] = drop_all i types le in
    let step : trees_with front (trees_at (kinds_view (drop i types)) bytes) ≡ Some (front, bytes) =
    rw none (ap (λ (ts : Trees). Some (ts, bytes)) (join_trees-nil front)) in
    sym so_far ∙ step
