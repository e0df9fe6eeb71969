-- The kind that a `ValueType` denotes, and the tree that a `Node` denotes: pointers and capacities are left out.
use Rattle.std.specs.Prelude.{List, [], ◌∷◌, map}
use Rattle.value_model.specs.declared.types.ValueType.{ValueType, fold-ValueType}
use Rattle.value_model.specs.declared.types.ValueType.TheOpen.{ValueType-F}
use Rattle.value_model.specs.declared.nodes.Node.{Node, fold-Node}
use Rattle.value_model.specs.declared.nodes.Node.TheOpen.{Node-F}
use Rattle.value_model.specs.Kinds.{one, two, four, eight, Kind, bool_kind, unsigned_kind, signed_kind, text_kind}
use Rattle.value_model.specs.Kinds.{bytes_kind, list_kind, fields_kind, Kinds, no_kinds, kind_then}
use Rattle.value_model.specs.Trees.{Tree, bool_tree, unsigned_tree, signed_tree, text_tree, bytes_tree, list_tree}
use Rattle.value_model.specs.Trees.{fields_tree, Trees, no_trees, tree_then}

-- a list of types as the types of the members of a group
abbrev pub kinds_of : List Kind → Kinds
kinds_of [] = no_kinds
kinds_of (k ∷ ks) = kind_then k (kinds_of ks)

-- one level, with each type inside already seen as its kind
abbrev pub kind_step : ValueType-F Kind → Kind
kind_step ValueType-F.Bool = bool_kind
kind_step ValueType-F.U8 = unsigned_kind one
kind_step ValueType-F.U16 = unsigned_kind two
kind_step ValueType-F.U32 = unsigned_kind four
kind_step ValueType-F.U64 = unsigned_kind eight
kind_step ValueType-F.I8 = signed_kind one
kind_step ValueType-F.I16 = signed_kind two
kind_step ValueType-F.I32 = signed_kind four
kind_step ValueType-F.I64 = signed_kind eight
kind_step ValueType-F.Text = text_kind
kind_step ValueType-F.Bytes = bytes_kind
kind_step (ValueType-F.List b) = list_kind b.value
kind_step (ValueType-F.Fields v) = fields_kind (kinds_of v.items)

-- the kind that a `ValueType` of the code denotes
abbrev pub kind_of : ValueType → Kind
kind_of = fold-ValueType Kind kind_step

-- the kinds that these types denote, in order
abbrev pub kinds_view : List ValueType → Kinds
kinds_view ts = kinds_of (map kind_of ts)

-- a list of trees as the items of a list or the members of a group
abbrev pub trees_of : List Tree → Trees
trees_of [] = no_trees
trees_of (t ∷ ts) = tree_then t (trees_of ts)

-- one level, with each node inside already seen as its tree
abbrev pub tree_step : Node-F Tree → Tree
tree_step (Node-F.Bool b) = bool_tree b
tree_step (Node-F.U8 n) = unsigned_tree one n
tree_step (Node-F.U16 n) = unsigned_tree two n
tree_step (Node-F.U32 n) = unsigned_tree four n
tree_step (Node-F.U64 n) = unsigned_tree eight n
tree_step (Node-F.I8 z) = signed_tree one z
tree_step (Node-F.I16 z) = signed_tree two z
tree_step (Node-F.I32 z) = signed_tree four z
tree_step (Node-F.I64 z) = signed_tree eight z
tree_step (Node-F.Text t) = text_tree t
tree_step (Node-F.Bytes b) = bytes_tree b
tree_step (Node-F.List k v) = list_tree (kind_of k.value) (trees_of v.items)
tree_step (Node-F.Fields v) = fields_tree (trees_of v.items)

-- the tree that a `Node` of the code denotes
abbrev pub tree_of : Node → Tree
tree_of = fold-Node Tree tree_step

-- the trees that these nodes denote, in order
abbrev pub trees_view : List Node → Trees
trees_view ns = trees_of (map tree_of ns)
