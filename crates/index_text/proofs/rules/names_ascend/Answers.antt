use Rattle.std.proofs.Common.{◌-◌, arith, drop, sym, ◌∙◌}
use Rattle.std.proofs.lemmas.List.{length-drop}
use Rattle.index_text.specs.lemmas.Order.{ascends_short}
use Rattle.index_text.proofs.rules.names_ascend.Goals as goal

pub returns : goal.returns
returns c =
    let es = c.args.entries.now in
    let i = c.loop-i.i in
    sym (c.loop-i.invariant ∙ ascends_short (drop (i - 1) es) (omega (arith, length-drop (i - 1) es)))
