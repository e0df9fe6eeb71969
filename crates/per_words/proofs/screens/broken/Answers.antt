use Rattle.std.proofs.Common.{◌+◌, drop}
use Rattle.std.proofs.lemmas.List.{drop_more}
use Rattle.per_words.specs.Screens.{broken}
use Rattle.per_words.proofs.Rows.{more_rows}
use Rattle.per_words.proofs.screens.broken.Goals as goal

pub loop-at-preserved : goal.loop-at-preserved
loop-at-preserved c = more_rows c.loop-at.rows.items c.push_piece.new.rows.items (drop c.loop-at.at c.args.text.now)
    (drop (c.loop-at.at + 1) c.args.text.now) (broken 0 c.args.text.now) c.loop-at.column c.next_column-column.result _
    c.breaks-is_break.result c.loop-at.invariant (drop_more c.args.text.now c.loop-at.at 0 c.loop-at-test.true)
    c.breaks-is_break.ensures c.in_ok-push_piece.ensures c.next_column-column.ensures
