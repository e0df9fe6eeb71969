-- The kinds and trees of lists: how many there are, and what is left of them in a loop.
use Rattle.std.proofs.Common.{◌≡◌, ◌≢◌, ◌≤◌, ◌↔◌, ◌++◌, ℕ, suc, true, false, drop, List, [], ◌∷◌, length, map, refl, ap}
use Rattle.std.proofs.Common.{sym, ◌∙◌, ◌&&◌, Vec, vec_len, Global, rules}
use Rattle.std.specs.declared.rc.Rc.{Rc}
use Rattle.value_model.specs.declared.types.ValueType as types
use Rattle.value_model.specs.declared.types.ValueType.{ValueType}
use Rattle.value_model.specs.declared.nodes.Node as nodes
use Rattle.value_model.specs.declared.nodes.Node.{Node}
use Rattle.std.proofs.lemmas.List.{drop_all, append-nil}
use Rattle.std.proofs.lemmas.Bool.{and_parts, and_from, leb-true, le-leb}
use Rattle.std.specs.Prelude.{nat_le}
use Rattle.value_model.specs.Validity.{IsTyped, AllTyped}
use Rattle.value_model.specs.Kinds.{Kind, count_kinds, fields_kind, list_kind, kind_then, kind_fits, kinds_fit}
use Rattle.value_model.specs.Kinds.{is_group}
use Rattle.value_model.specs.Trees.{Trees, no_trees, tree_then, fields_tree, list_tree, count_trees, type_of, types_of}
use Rattle.value_model.specs.Views.{kind_of, kinds_of, kinds_view, tree_of, trees_view}

pub count_kinds-view : (ts : List ValueType) → count_kinds (kinds_view ts) ≡ length ts
count_kinds-view [] = refl
count_kinds-view (t ∷ ts) = ap suc (count_kinds-view ts)

pub count_trees-view : (ns : List Node) → count_trees (trees_view ns) ≡ length ns
count_trees-view [] = refl
count_trees-view (n ∷ ns) = ap suc (count_trees-view ns)

-- lists of different lengths hold different types
pub types_differ : (ts us : List ValueType) → length ts ≢ length us → kinds_view ts ≢ kinds_view us
types_differ ts us n e = n (sym (count_kinds-view ts) ∙ (ap count_kinds e ∙ count_kinds-view us))

pub count_types : (ts : Trees) → count_kinds (types_of ts) ≡ count_trees ts
count_types no_trees = refl
count_types (tree_then t ts) = ap suc (count_types ts)

pub members_differ : (ns : List Node) (ts : List ValueType) → length ns ≢ length ts
    → types_of (trees_view ns) ≢ kinds_view ts
members_differ ns ts n e = n (sym (count_trees-view ns)
    ∙ (sym (count_types (trees_view ns)) ∙ (ap count_kinds e ∙ count_kinds-view ts)))

pub types_view : (ns : List Node) → types_of (trees_view ns) ≡ kinds_of (map (λ n. type_of (tree_of n)) ns)
types_view [] = refl
types_view (n ∷ ns) = ap (λ ks. kind_then (type_of (tree_of n)) ks) (types_view ns)

-- the types of all nodes, where none is left
pub types_done : (front : List Kind) (ns : List Node) (i : ℕ) → length ns ≤ i
    → front ++ map (λ n. type_of (tree_of n)) (drop i ns) ≡ map (λ n. type_of (tree_of n)) ns
    → kinds_of front ≡ types_of (trees_view ns)
types_done front ns i le e =
    let none : drop i ns ≡ [] = drop_all i ns le in
    let all : front ≡ map (λ n. type_of (tree_of n)) ns =
    sym (append-nil front) ∙ (ap (λ (ms : List Node). front ++ map (λ n. type_of (tree_of n)) ms) (sym none) ∙ e) in
    ap kinds_of all ∙ sym (types_view ns)

pub len-items : {X : Type 0} (v : Vec X Global) → length v.items ≡ vec_len v
len-items v = sym v.ok.0

-- what a group of fields keeps, by the number of its members
pub kind_of-Fields : (v : Vec ValueType Global) → kind_of (types.Fields v) ≡ fields_kind (kinds_view v.items)
kind_of-Fields v = search (rules, types.the_lemmas)

pub fits-Fields : (v : Vec ValueType Global) → kind_fits (kind_of (types.Fields v))
    ≡ (is_group (vec_len v) && kinds_fit (kinds_view v.items))
fits-Fields v = rw (kind_of-Fields v, count_kinds-view v.items, len-items v) refl

pub kind_of-List : (item : Rc ValueType Global) → kind_of (types.List item) ≡ list_kind (kind_of item.value)
kind_of-List item = search (rules, types.the_lemmas)

pub tree_of-List : (item : Rc ValueType Global) (v : Vec Node Global)
    → tree_of (nodes.List item v) ≡ list_tree (kind_of item.value) (trees_view v.items)
tree_of-List item v = search (rules, nodes.the_lemmas)

pub tree_of-Fields : (v : Vec Node Global) → tree_of (nodes.Fields v) ≡ fields_tree (trees_view v.items)
tree_of-Fields v = search (rules, nodes.the_lemmas)

pub counted : (v : Vec Node Global) → count_trees (trees_view v.items) ≡ vec_len v
counted v = count_trees-view v.items ∙ len-items v

typed_group : (ts : Trees) (n : ℕ) → count_trees ts ≡ n → is_group n ≡ true → IsTyped (fields_tree ts) ↔ AllTyped ts
typed_group ts n same e =
    let group = and_parts (nat_le 1 n) (nat_le n 32) e in
    (λ t. t.1.1, λ all. (rw same (leb-true 1 n group.0), (rw same (leb-true n 32 group.1), all)))

untyped_group : (ts : Trees) (n : ℕ) → count_trees ts ≡ n → is_group n ≡ false → ¬ IsTyped (fields_tree ts)
untyped_group ts n same e t =
    let least : 1 ≤ n = rw (← same) t.0 in
    let most : n ≤ 32 = rw (← same) t.1.0 in
    cc (e, and_from (nat_le 1 n) (nat_le n 32) (le-leb 1 n least) (le-leb n 32 most))

pub typed-Fields : (v : Vec Node Global) (members : List Node) → members ≡ v.items → is_group (vec_len v) ≡ true
    → IsTyped (tree_of (nodes.Fields v)) ↔ AllTyped (trees_view members)
typed-Fields v members same e = rw (tree_of-Fields v, same) (typed_group (trees_view v.items) (vec_len v) (counted v) e)

pub untyped-Fields : (v : Vec Node Global) → is_group (vec_len v) ≡ false → ¬ IsTyped (tree_of (nodes.Fields v))
untyped-Fields v e = rw (tree_of-Fields v) (untyped_group (trees_view v.items) (vec_len v) (counted v) e)
