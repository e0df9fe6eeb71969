use Rattle.std.proofs.Common.{◌≡◌, List, [], ◌∷◌, length, refl, arith}
use Rattle.value_model.specs.declared.nodes.Node.{Node}
use Rattle.value_model.specs.Kinds.{Kind, kind_then, no_kinds}
use Rattle.value_model.specs.Trees.{types_of}
use Rattle.value_model.specs.Views.{trees_view}
use Rattle.per_value.proofs.members.last_member.Goals as goal

one_member : (ms : List Node) (k : Kind) → types_of (trees_view ms) ≡ kind_then k no_kinds → length ms ≡ 1
one_member [] k e = cc
one_member (m ∷ []) k e = refl
one_member (m ∷ n ∷ ms) k e = cc

pub unreachable-requires-in-len2-up : goal.unreachable-requires-in-len2-up
unreachable-requires-in-len2-up g c =
    let one = one_member c.args.members.now g.T.PerValue.kind c.requires.of_type in omega arith
