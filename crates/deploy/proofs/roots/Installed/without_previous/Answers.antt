use Rattle.std.proofs.Common.{◌∙◌, not, ap, arith}
use Rattle.deploy.proofs.LoneRows.{finish_lone, finish_none, finish_worn, first_text}
use Rattle.deploy.proofs.roots.Installed.without_previous.Goals as goal

pub returns-then-is_none-clause-refused : goal.returns-then-is_none-clause-refused
returns-then-is_none-clause-refused c = finish_none c.args.self.cell c.args.self.bank c.args.self.active
    c.args.self.previous c.refuses.result
    (c.is_none.ensures ∙ ap not c.if-is_none.true) c.refuses.ensures

pub returns-then-generation-clause-refused : goal.returns-then-generation-clause-refused
returns-then-generation-clause-refused c = finish_worn c.args.self.cell c.args.self.bank c.args.self.active
    c.args.self.previous c.refuses-then-generation.result c.worn_out.result
    (c.is_none.ensures ∙ ap not c.if-is_none.false) (omega arith) c.worn_out.ensures c.refuses-then-generation.ensures

pub returns-clause-lone : goal.returns-clause-lone
returns-clause-lone c = finish_lone c.args.self.cell c.args.self.bank c.args.self.active c.args.self.previous
    (c.is_none.ensures ∙ ap not c.if-is_none.false) c.requires (omega arith)

pub returns-clause-text : goal.returns-clause-text
returns-clause-text c = first_text c.args.self.cell c.args.self.bank c.args.self.active c.args.self.previous
