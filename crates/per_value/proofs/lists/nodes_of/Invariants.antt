use Rattle.std.proofs.Common.{◌≡◌, ◌++◌, drop, map}
use Rattle.value_model.specs.Views.{tree_of}
use Rattle.per_value.proofs.lists.nodes_of.Given as goal

-- the trees so far, and the things that are left
abbrev pub invariant-loop-thing : goal.invariant-loop-thing
invariant-loop-thing g l = map tree_of l.nodes.items ++ map g.T.PerValue.tree (drop l.thing-index l.things)
    ≡ map g.T.PerValue.tree l.things
