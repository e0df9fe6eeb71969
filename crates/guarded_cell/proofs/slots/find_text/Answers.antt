use Rattle.std.proofs.Common.{◌∙◌, sym}
use Rattle.guarded_cell.proofs.Choosing.{another}
use Rattle.guarded_cell.proofs.slots.find_text.Goals as goal

pub returns-else-is_wanted : goal.returns-else-is_wanted
returns-else-is_wanted c = another c.args.bytes.now c.args.generation c.in-Some.found.generation c.args.text.now
    c.in-Some.found.body.now
    c.in-Some.ensures.some (sym c.is_wanted.ensures ∙ c.if-is_wanted.false)
