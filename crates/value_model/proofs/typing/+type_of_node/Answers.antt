use Rattle.value_model.specs.lemmas.Members.{types_done}
use Rattle.value_model.proofs.typing.+type_of_node.Goals as goal

pub types_of_nodes-returns : goal.types_of_nodes-returns
types_of_nodes-returns t c = types_done _ c.args.nodes.now c.loop-node.node-index c.loop-node-test.false
    c.loop-node.invariant
