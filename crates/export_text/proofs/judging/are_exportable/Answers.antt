use Rattle.std.proofs.Common.{sym, ◌∙◌, arith}
use Rattle.export_text.proofs.Judged.{each_can, too_many, unordered}
use Rattle.export_text.proofs.judging.are_exportable.Goals.{then-contents-via-then-contents}
use Rattle.export_text.proofs.judging.are_exportable.Goals.{then-contents-via-else-contents+then-not-names_ascend}
use Rattle.export_text.proofs.judging.are_exportable.Goals as goal

pub returns-then-contents : goal.returns-then-contents
returns-then-contents c = elim c.then-contents.branch [
  | then-contents-via-then-contents w ↦ too_many c.args.kind c.args.contents.now (omega (arith, w.if-contents.true))
  | then-contents-via-else-contents+then-not-names_ascend w ↦
      unordered c.args.kind c.args.contents.now (sym w.names_ascend.ensures ∙ w.if-not-names_ascend.true)
]

pub returns : goal.returns
returns c = each_can c.args.kind c.args.contents.now c.loop-fresh.fresh-index (omega (arith, c.loop-fresh-test.false))
    c.loop-fresh.invariant (omega (arith, c.if-contents.false))
    (sym c.names_ascend.ensures ∙ c.if-not-names_ascend.false)
