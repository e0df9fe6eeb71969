use Rattle.std.proofs.lemmas.Result.{err_from_is_err_and}
use Rattle.per_base.specs.Fields.{many}
use Rattle.per_base.specs.FieldLoops.{goes_on, is_done}
use Rattle.export_text.specs.Exports.{fresh_at}
use Rattle.export_text.proofs.Loop.{ends}
use Rattle.export_text.proofs.reading.contents_of.Goals as goal

pub returns-in_err-element : goal.returns-in_err-element
returns-in_err-element c =
    let read = fresh_at c.args.header.kind in
    let p = err_from_is_err_and c.from_residual.result c.from_residual.ensures.1 in
    rw (p.1, p.2) (ends read c.in_err-element.field-0.0 c.loop.contents.items c.args.header.count c.loop.counter
    c.loop.rest.now (many read c.args.header.count c.args.bytes.now) c.loop-test.true c.in_err-element.ensures
    c.loop.invariant)

pub loop-preserved : goal.loop-preserved
loop-preserved c =
    let read = fresh_at c.args.header.kind in
    rw c.in_ok-push.ensures.items (goes_on read c.loop.contents.items c.args.header.count c.loop.counter c.loop.rest.now
    c.in_ok-element.element c.in_ok-element.after.now (many read c.args.header.count c.args.bytes.now)
    c.loop-test.true c.in_ok-element.ensures c.loop.invariant)

pub returns : goal.returns
returns c =
    let read = fresh_at c.args.header.kind in
    is_done read c.loop.contents.items c.args.header.count c.loop.counter c.loop.rest.now
    (many read c.args.header.count c.args.bytes.now) c.loop-test.false c.loop.invariant
