use Rattle.std.proofs.Common.{◌+◌, drop, get_or, false}
use Rattle.std.proofs.lemmas.Result.{err_from_is_err_and}
use Rattle.std.proofs.lemmas.List.{take_rest, drop_all}
use Rattle.value_text.specs.Readers.{quoted_at}
use Rattle.value_text.proofs.Quoted.{behind_means, behind_fails, quote_ends, backslash_behind, line_feed, plain}
use Rattle.value_text.proofs.Quoted.{stays_open, at_next}
use Rattle.value_text.proofs.strings.unescaped.Goals as goal

pub returns-in_err-meant_by : goal.returns-in_err-meant_by
returns-in_err-meant_by c =
    let bytes = c.args.bytes.now in
    let p = err_from_is_err_and c.from_residual.result c.from_residual.ensures.1 in
    let so_far = at_next c.loop-i.text.items c.loop-i.is_escaped bytes c.loop-i.i (quoted_at false bytes)
    c.loop-i-test.true c.loop-i.invariant in
    rw (p.1, p.2) (behind_fails c.in_err-meant_by.field-0.0 c.loop-i.text.items c.loop-i.is_escaped
    (get_or bytes c.loop-i.i 0) (drop (c.loop-i.i + 1) bytes) (quoted_at false bytes) c.if-is_escaped.true
    c.in_err-meant_by.ensures so_far)

pub loop-i-preserved-then-is_escaped : goal.loop-i-preserved-then-is_escaped
loop-i-preserved-then-is_escaped c =
    let bytes = c.args.bytes.now in
    let so_far = at_next c.loop-i.text.items c.loop-i.is_escaped bytes c.loop-i.i (quoted_at false bytes)
    c.loop-i-test.true c.loop-i.invariant in
    rw c.in_ok-push.ensures.items (behind_means c.loop-i.text.items c.loop-i.is_escaped (get_or bytes c.loop-i.i 0)
    c.in_ok-meant_by.field-0 (drop (c.loop-i.i + 1) bytes) (quoted_at false bytes) c.if-is_escaped.true
    c.in_ok-meant_by.ensures so_far)

pub returns-then-byte-eq-QUOTE : goal.returns-then-byte-eq-QUOTE
returns-then-byte-eq-QUOTE c =
    let bytes = c.args.bytes.now in
    let so_far = at_next c.loop-i.text.items c.loop-i.is_escaped bytes c.loop-i.i (quoted_at false bytes)
    c.loop-i-test.true c.loop-i.invariant in
    rw (take_rest bytes (c.loop-i.i + 1)) (quote_ends c.loop-i.text.items c.loop-i.is_escaped (get_or bytes c.loop-i.i 0)
    (drop (c.loop-i.i + 1) bytes) (quoted_at false bytes) c.if-is_escaped.false c.if-byte-eq-QUOTE.true so_far)

pub loop-i-preserved-then-byte-eq-BACKSLASH : goal.loop-i-preserved-then-byte-eq-BACKSLASH
loop-i-preserved-then-byte-eq-BACKSLASH c =
    let bytes = c.args.bytes.now in
    let so_far = at_next c.loop-i.text.items c.loop-i.is_escaped bytes c.loop-i.i (quoted_at false bytes)
    c.loop-i-test.true c.loop-i.invariant in
    backslash_behind c.loop-i.text.items c.loop-i.is_escaped (get_or bytes c.loop-i.i 0) (drop (c.loop-i.i + 1) bytes)
    (quoted_at false bytes) c.if-is_escaped.false c.if-byte-eq-BACKSLASH.true so_far

pub returns-then-byte-eq-LINE_FEED : goal.returns-then-byte-eq-LINE_FEED
returns-then-byte-eq-LINE_FEED c =
    let bytes = c.args.bytes.now in
    let so_far = at_next c.loop-i.text.items c.loop-i.is_escaped bytes c.loop-i.i (quoted_at false bytes)
    c.loop-i-test.true c.loop-i.invariant in
    line_feed c.loop-i.text.items c.loop-i.is_escaped (get_or bytes c.loop-i.i 0) (drop (c.loop-i.i + 1) bytes)
    (quoted_at false bytes) c.if-is_escaped.false c.if-byte-eq-LINE_FEED.true so_far

pub loop-i-preserved : goal.loop-i-preserved
loop-i-preserved c =
    let bytes = c.args.bytes.now in
    let so_far = at_next c.loop-i.text.items c.loop-i.is_escaped bytes c.loop-i.i (quoted_at false bytes)
    c.loop-i-test.true c.loop-i.invariant in
    rw (c.in_ok-push-2.ensures.items, c.if-is_escaped.false)
    (plain c.loop-i.text.items c.loop-i.is_escaped (get_or bytes c.loop-i.i 0) (drop (c.loop-i.i + 1) bytes)
    (quoted_at false bytes) c.if-is_escaped.false c.if-byte-eq-QUOTE.false c.if-byte-eq-BACKSLASH.false
    c.if-byte-eq-LINE_FEED.false so_far)

pub returns : goal.returns
returns c =
    let bytes = c.args.bytes.now in
    stays_open c.loop-i.text.items c.loop-i.is_escaped (drop c.loop-i.i bytes) (quoted_at false bytes)
    (drop_all c.loop-i.i bytes c.loop-i-test.false) c.loop-i.invariant
