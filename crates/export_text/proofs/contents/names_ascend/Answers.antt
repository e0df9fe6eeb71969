use Rattle.std.proofs.Common.{◌-◌, arith, drop, sym, ◌∙◌}
use Rattle.std.proofs.lemmas.List.{length-drop}
use Rattle.export_text.proofs.Order.{ascends_short}
use Rattle.export_text.proofs.contents.names_ascend.Goals as goal

pub returns : goal.returns
returns c =
    let fs = c.args.contents.now in
    let i = c.loop-i.i in
    sym (c.loop-i.invariant ∙ ascends_short (drop (i - 1) fs) (omega (arith, length-drop (i - 1) fs)))
