use Rattle.std.proofs.Common.{◌≡◌, ◌↔◌, drop}
use Rattle.value_model.specs.Trees.{types_of}
use Rattle.value_model.specs.Views.{kinds_view, trees_view}
use Rattle.value_model.proofs.typing.+has_type.Given as goal

-- the nodes that are left decide
abbrev pub invariant-have_types-loop-i : goal.invariant-have_types-loop-i
invariant-have_types-loop-i l = (types_of (trees_view (drop l.i l.nodes)) ≡ kinds_view (drop l.i l.types)) ↔
    (types_of (trees_view l.nodes) ≡ kinds_view l.types)
