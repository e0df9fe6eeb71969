use Rattle.std.proofs.Common.{◌≡◌, ◌∙◌, ap, map, Some, true, false, Bool}
use Rattle.std.proofs.lemmas.Result.{err_from_is_err_and}
use Rattle.std.proofs.lemmas.List.{map_push}
use Rattle.value_model.specs.Views.{tree_of}
use Rattle.value_text.specs.Readers.{punctuation_at}
use Rattle.value_text.specs.Parsing.{tree_at}
use Rattle.value_text.proofs.Depth.{tree_at-none, tree_at-more}
use Rattle.value_text.specs.lemmas.Loop.{thing_fails, punctuation_fails, closes, continues, is_full}
use Rattle.value_text.proofs.values.+values.Goals as goal

pub value_at-returns-then-depth-eq0 : goal.value_at-returns-then-depth-eq0
value_at-returns-then-depth-eq0 t c = tree_at-none c.args.depth c.args.bytes.now c.if-depth-eq0.true

pub value_at-returns : goal.value_at-returns
value_at-returns t c = rw (tree_at-more c.args.depth c.args.bytes.now c.if-depth-eq0.false) c.value_here.ensures

pub nodes-returns-in_err-node : goal.nodes-returns-in_err-node
nodes-returns-in_err-node t c =
    let p = err_from_is_err_and c.from_residual.result c.from_residual.ensures.1 in
    rw (p.1, p.2) (thing_fails (tree_at c.args.depth) c.args.close c.in_err-node.field-0.0
    (map tree_of c.loop.nodes.items) c.args.most c.loop.counter c.loop.rest.now _ c.loop-test.true
    c.in_err-node.ensures c.loop.invariant)

pub nodes-returns-in_err-is_last : goal.nodes-returns-in_err-is_last
nodes-returns-in_err-is_last t c =
    let p = err_from_is_err_and c.from_residual-in_err-is_last.result c.from_residual-in_err-is_last.ensures.1 in
    rw (p.1, p.2) (punctuation_fails (tree_at c.args.depth) c.args.close c.in_err-is_last.field-0.0
    (map tree_of c.loop.nodes.items) c.args.most c.loop.counter c.loop.rest.now (tree_of c.in_ok-node.node)
    c.in_ok-node.behind.now _ c.loop-test.true c.in_ok-node.ensures c.in_err-is_last.ensures c.loop.invariant)

pub nodes-returns-then-is_last : goal.nodes-returns-then-is_last
nodes-returns-then-is_last t c =
    let cut : punctuation_at c.args.close c.in_ok-node.behind.now ≡ Some (true, c.in_ok-is_last.others.now) =
    c.in_ok-is_last.ensures ∙ ap (λ (b : Bool). Some (b, c.in_ok-is_last.others.now)) c.if-is_last.true in
    rw (c.in_ok-push.ensures.items, map_push tree_of c.loop.nodes.items c.in_ok-node.node)
    (closes (tree_at c.args.depth) c.args.close (map tree_of c.loop.nodes.items) c.args.most c.loop.counter
    c.loop.rest.now (tree_of c.in_ok-node.node) c.in_ok-node.behind.now c.in_ok-is_last.others.now _
    c.loop-test.true c.in_ok-node.ensures cut c.loop.invariant)

pub nodes-loop-preserved : goal.nodes-loop-preserved
nodes-loop-preserved t c =
    let cut : punctuation_at c.args.close c.in_ok-node.behind.now ≡ Some (false, c.in_ok-is_last.others.now) =
    c.in_ok-is_last.ensures ∙ ap (λ (b : Bool). Some (b, c.in_ok-is_last.others.now)) c.if-is_last.false in
    rw (c.in_ok-push.ensures.items, map_push tree_of c.loop.nodes.items c.in_ok-node.node)
    (continues (tree_at c.args.depth) c.args.close (map tree_of c.loop.nodes.items) c.args.most c.loop.counter
    c.loop.rest.now (tree_of c.in_ok-node.node) c.in_ok-node.behind.now c.in_ok-is_last.others.now _
    c.loop-test.true c.in_ok-node.ensures cut c.loop.invariant)

pub nodes-returns : goal.nodes-returns
nodes-returns t c = is_full (tree_at c.args.depth) c.args.close (map tree_of c.loop.nodes.items) c.args.most
    c.loop.counter c.loop.rest.now _ c.loop-test.false c.loop.invariant
