use Rattle.std.proofs.Common.{◌≡◌}
use Rattle.std.proofs.lemmas.Result.{err_from_is_err_and}
use Rattle.value_model.specs.Views.{kind_of, kinds_view}
use Rattle.value_model.specs.Kinds.{kind_then, no_kinds}
use Rattle.value_code.specs.Reading.{kind_at, kinds_by}
use Rattle.value_code.proofs.Loops.{join_kinds, kinds_push, kinds_go_on, kinds_end, kinds_done}
use Rattle.value_code.proofs.types.+type_at.Goals as goal

pub types_at-returns-in_err-value_type : goal.types_at-returns-in_err-value_type
types_at-returns-in_err-value_type t c =
    let p = err_from_is_err_and c.from_residual.result c.from_residual.ensures.1 in
    rw (p.1, p.2) (kinds_end c.in_err-value_type.field-0.0 (kind_at c.args.depth) (kinds_view c.loop.types.items)
    c.args.count c.loop.counter c.loop.rest.now (kinds_by (kind_at c.args.depth) c.args.count c.args.bytes.now)
    c.loop-test.true c.in_err-value_type.ensures c.loop.invariant)

pub types_at-loop-preserved : goal.types_at-loop-preserved
types_at-loop-preserved t c =
    let next = c.in_ok-value_type.value_type in
    let e : kinds_view c.push.new.self.items ≡ join_kinds (kinds_view c.loop.types.items)
    (kind_then (kind_of next) no_kinds) = rw c.in_ok-push.ensures.items (kinds_push c.loop.types.items next) in
    rw e (kinds_go_on (kind_at c.args.depth) (kinds_view c.loop.types.items) c.args.count c.loop.counter c.loop.rest.now
    (kind_of next) c.in_ok-value_type.after.now (kinds_by (kind_at c.args.depth) c.args.count c.args.bytes.now)
    c.loop-test.true c.in_ok-value_type.ensures c.loop.invariant)

pub types_at-returns : goal.types_at-returns
types_at-returns t c = kinds_done (kind_at c.args.depth) (kinds_view c.loop.types.items) c.args.count c.loop.counter
    c.loop.rest.now (kinds_by (kind_at c.args.depth) c.args.count c.args.bytes.now) c.loop-test.false c.loop.invariant
