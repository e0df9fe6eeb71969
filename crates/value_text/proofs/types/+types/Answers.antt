use Rattle.std.proofs.Common.{◌≡◌, ◌∙◌, ap, map, Some, true, false, Bool}
use Rattle.std.proofs.lemmas.Result.{err_from_is_err_and}
use Rattle.std.proofs.lemmas.List.{map_push}
use Rattle.value_model.specs.Views.{kind_of}
use Rattle.value_text.specs.Readers.{punctuation_at}
use Rattle.value_text.specs.Parsing.{kind_at}
use Rattle.value_text.proofs.Depth.{kind_at-none, kind_at-more}
use Rattle.value_text.specs.lemmas.Loop.{thing_fails, punctuation_fails, closes, continues, is_full}
use Rattle.value_text.proofs.types.+types.Goals as goal

pub type_at-returns-then-depth-eq0 : goal.type_at-returns-then-depth-eq0
type_at-returns-then-depth-eq0 t c = kind_at-none c.args.depth c.args.bytes.now c.if-depth-eq0.true

pub type_at-returns : goal.type_at-returns
type_at-returns t c = rw (kind_at-more c.args.depth c.args.bytes.now c.if-depth-eq0.false) c.type_here.ensures

pub members-returns-in_err-member : goal.members-returns-in_err-member
members-returns-in_err-member t c =
    let p = err_from_is_err_and c.from_residual.result c.from_residual.ensures.1 in
    rw (p.1, p.2) (thing_fails (kind_at c.args.depth) 125 c.in_err-member.field-0.0 (map kind_of c.loop.members.items)
    32 c.loop.counter c.loop.rest.now _ c.loop-test.true c.in_err-member.ensures c.loop.invariant)

pub members-returns-in_err-is_last : goal.members-returns-in_err-is_last
members-returns-in_err-is_last t c =
    let p = err_from_is_err_and c.from_residual-in_err-is_last.result c.from_residual-in_err-is_last.ensures.1 in
    rw (p.1, p.2) (punctuation_fails (kind_at c.args.depth) 125 c.in_err-is_last.field-0.0
    (map kind_of c.loop.members.items) 32 c.loop.counter c.loop.rest.now (kind_of c.in_ok-member.member)
    c.in_ok-member.behind.now _ c.loop-test.true c.in_ok-member.ensures c.in_err-is_last.ensures c.loop.invariant)

pub members-returns-then-is_last : goal.members-returns-then-is_last
members-returns-then-is_last t c =
    let cut : punctuation_at 125 c.in_ok-member.behind.now ≡ Some (true, c.in_ok-is_last.others.now) =
    c.in_ok-is_last.ensures ∙ ap (λ (b : Bool). Some (b, c.in_ok-is_last.others.now)) c.if-is_last.true in
    rw (c.in_ok-push.ensures.items, map_push kind_of c.loop.members.items c.in_ok-member.member)
    (closes (kind_at c.args.depth) 125 (map kind_of c.loop.members.items) 32 c.loop.counter c.loop.rest.now
    (kind_of c.in_ok-member.member) c.in_ok-member.behind.now c.in_ok-is_last.others.now _ c.loop-test.true
    c.in_ok-member.ensures cut c.loop.invariant)

pub members-loop-preserved : goal.members-loop-preserved
members-loop-preserved t c =
    let cut : punctuation_at 125 c.in_ok-member.behind.now ≡ Some (false, c.in_ok-is_last.others.now) =
    c.in_ok-is_last.ensures ∙ ap (λ (b : Bool). Some (b, c.in_ok-is_last.others.now)) c.if-is_last.false in
    rw (c.in_ok-push.ensures.items, map_push kind_of c.loop.members.items c.in_ok-member.member)
    (continues (kind_at c.args.depth) 125 (map kind_of c.loop.members.items) 32 c.loop.counter c.loop.rest.now
    (kind_of c.in_ok-member.member) c.in_ok-member.behind.now c.in_ok-is_last.others.now _ c.loop-test.true
    c.in_ok-member.ensures cut c.loop.invariant)

pub members-returns : goal.members-returns
members-returns t c = is_full (kind_at c.args.depth) 125 (map kind_of c.loop.members.items) 32 c.loop.counter
    c.loop.rest.now _ c.loop-test.false c.loop.invariant
