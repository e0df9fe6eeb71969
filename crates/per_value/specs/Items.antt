-- The trees of a list of things, when two lists are the same item by item, and what the laws of the items say of lists.
use Rattle.std.specs.Prelude.{◌≡◌, IsTrue, List, [], ◌∷◌, map}
use Rattle.value_model.specs.Kinds.{Kind, kind_fits}
use Rattle.value_model.specs.Trees.{Tree, Trees, list_tree, type_of}
use Rattle.value_model.specs.Validity.{AllOf, AllTyped, IsTyped}
use Rattle.value_model.specs.Views.{trees_of}

-- the tree of each thing, by the function that says which tree a thing is, in order
abbrev pub trees_each : {T : Type 0} → (T → Tree) → List T → Trees
trees_each tree things = trees_of (map tree things)

-- two lists are equally long, and each item of one is the same, by this relation, as the item at its place in the other
abbrev pub AllSame : {T : Type 0} → (T → T → Type 0) → List T → List T → Type 0
AllSame same [] [] = Unit {0}
AllSame same [] (y ∷ ys) = ⊥
AllSame same (x ∷ xs) [] = ⊥
AllSame same (x ∷ xs) (y ∷ ys) = same x y × AllSame same xs ys

items_of_kind : {T : Type 0} (tree : T → Tree) (k : Kind) → ((x : T) → type_of (tree x) ≡ k) → (xs : List T)
    → AllOf k (trees_each tree xs)
items_of_kind tree k has_type [] = tt
items_of_kind tree k has_type (x ∷ xs) = (has_type x, items_of_kind tree k has_type xs)

items_typed : {T : Type 0} (tree : T → Tree) → ((x : T) → IsTyped (tree x)) → (xs : List T)
    → AllTyped (trees_each tree xs)
items_typed tree typed [] = tt
items_typed tree typed (x ∷ xs) = (typed x, items_typed tree typed xs)

-- where each thing is well typed and has the type k, a list of them is a well-typed list of that type
pub list_typed : {T : Type 0} (tree : T → Tree) (k : Kind) → IsTrue (kind_fits k) → ((x : T) → type_of (tree x) ≡ k)
    → ((x : T) → IsTyped (tree x)) → (xs : List T) → IsTyped (list_tree k (trees_each tree xs))
list_typed tree k proper has_type typed xs = (proper, (items_of_kind tree k has_type xs, items_typed tree typed xs))

-- where things with one tree are the same, lists with the same trees are the same item by item
pub items_same : {T : Type 0} (tree : T → Tree) (same : T → T → Type 0) → ((x y : T) → tree x ≡ tree y → same x y)
    → (xs ys : List T) → trees_each tree xs ≡ trees_each tree ys → AllSame same xs ys
items_same tree same faithful [] [] e = tt
items_same tree same faithful [] (y ∷ ys) e = cc
items_same tree same faithful (x ∷ xs) [] e = cc
items_same tree same faithful (x ∷ xs) (y ∷ ys) e = (faithful x y cc, items_same tree same faithful xs ys cc)
