use Rattle.std.proofs.Common.{◌≡◌, ◌∷◌, ◌+◌, ◌∙◌, ap, sym, drop}
use Rattle.std.proofs.lemmas.List.{drop_more}
use Rattle.std.proofs.lemmas.Result.{err_from_is_err_and}
use Rattle.value_model.specs.Views.{kind_of, kinds_view, tree_of, trees_view}
use Rattle.value_model.specs.Trees.{tree_then, no_trees}
use Rattle.value_code.specs.Reading.{tree_at, trees_at, trees_by}
use Rattle.value_code.proofs.TreeLoops.{join_trees, trees_push, trees_go_on, trees_end, trees_done, members_go_on}
use Rattle.value_code.proofs.TreeLoops.{members_done}
use Rattle.value_code.proofs.trees.+node_at.Goals as goal

pub items_at-returns-in_err-node : goal.items_at-returns-in_err-node
items_at-returns-in_err-node t c =
    let p = err_from_is_err_and c.from_residual.result c.from_residual.ensures.1 in
    rw (p.1, p.2) (trees_end c.in_err-node.field-0.0 (tree_at (kind_of c.args.item.now)) (trees_view c.loop.nodes.items)
    c.args.count c.loop.counter c.loop.rest.now (trees_by (tree_at (kind_of c.args.item.now)) c.args.count
    c.args.bytes.now) c.loop-test.true c.in_err-node.ensures c.loop.invariant)

pub items_at-loop-preserved : goal.items_at-loop-preserved
items_at-loop-preserved t c =
    let next = c.in_ok-node.node in
    let e : trees_view c.push.new.self.items ≡ join_trees (trees_view c.loop.nodes.items)
    (tree_then (tree_of next) no_trees) = rw c.in_ok-push.ensures.items (trees_push c.loop.nodes.items next) in
    rw e (trees_go_on (tree_at (kind_of c.args.item.now)) (trees_view c.loop.nodes.items) c.args.count c.loop.counter
    c.loop.rest.now (tree_of next) c.in_ok-node.after.now
    (trees_by (tree_at (kind_of c.args.item.now)) c.args.count c.args.bytes.now) c.loop-test.true
    c.in_ok-node.ensures c.loop.invariant)

pub items_at-returns : goal.items_at-returns
items_at-returns t c = trees_done (tree_at (kind_of c.args.item.now)) (trees_view c.loop.nodes.items) c.args.count
    c.loop.counter c.loop.rest.now (trees_by (tree_at (kind_of c.args.item.now)) c.args.count c.args.bytes.now)
    c.loop-test.false c.loop.invariant

pub members_at-loop-value_type-preserved : goal.members_at-loop-value_type-preserved
members_at-loop-value_type-preserved t c =
    let next = c.in_ok-node.node in
    let left = drop_more c.args.types.now c.loop-value_type.value_type-index c.value_type-item.result
    c.loop-value_type-test.true in
    rw (c.in_ok-push.ensures.items, trees_push c.loop-value_type.nodes.items next)
    (members_go_on (trees_view c.loop-value_type.nodes.items) c.args.types.now c.loop-value_type.value_type-index
    c.value_type-item.result c.loop-value_type.rest.now (tree_of next) c.in_ok-node.after.now
    (trees_at (kinds_view c.args.types.now) c.args.bytes.now)
    (left ∙ ap (λ (t : _). t ∷ drop (c.loop-value_type.value_type-index + 1) c.args.types.now)
    (sym c.value_type-item.is)) c.in_ok-node.ensures c.loop-value_type.invariant)

pub members_at-returns : goal.members_at-returns
members_at-returns t c = members_done (trees_view c.loop-value_type.nodes.items) c.args.types.now
    c.loop-value_type.value_type-index c.loop-value_type.rest.now
    (trees_at (kinds_view c.args.types.now) c.args.bytes.now) c.loop-value_type-test.false c.loop-value_type.invariant
