use denote.Ref.{Bor}
use Rattle.std.proofs.Common.{option_map}
use Rattle.per_base.specs.declared.names.Name.{Name}
use Rattle.deploy.proofs.Due.{rollback_not_due}
use Rattle.deploy.proofs.LoneRows.{last_text, rollback_lone, rollback_none, rollback_refused}
use Rattle.deploy.proofs.roots.Installed.with_previous.Goals as goal

pub returns-in_default-clause-refused : goal.returns-in_default-clause-refused
returns-in_default-clause-refused c = rollback_none c.args.self.cell c.args.self.bank c.args.self.active
    (option_map (λ n. n.now) c.args.busy) c.args.self.previous c.refuses.result c.in_default.is c.refuses.ensures

pub returns-in_default-2-clause-lone : goal.returns-in_default-2-clause-lone
returns-in_default-2-clause-lone c = rollback_lone c.args.self.cell c.args.self.bank c.args.self.active
    (option_map (λ n. n.now) c.args.busy)
    c.generation.result c.generation.ensures c.in_ok-refused.field-0 c.in_ok-refused.ensures.row c.args.self.previous
    c.in-Some.version c.in-Some.is c.in_default-2.is c.in_ok-refused.ensures.left c.requires

pub returns-in_default-2-clause-text : goal.returns-in_default-2-clause-text
returns-in_default-2-clause-text c = last_text c.args.self.cell c.args.self.bank c.args.self.active c.args.self.previous
    c.in-Some.version c.in-Some.is

pub returns-clause-refused : goal.returns-clause-refused
returns-clause-refused c = rollback_refused c.args.self.cell c.args.self.bank c.args.self.active
    (option_map (λ n. n.now) c.args.busy)
    c.generation.result c.generation.ensures c.in_ok-refused.field-0 c.in_ok-refused.ensures.row c.args.self.previous
    c.in-Some.version c.in-Some-2.refused c.refuses-2.result c.in-Some.is c.in-Some-2.is c.refuses-2.ensures

pub returns-in_err-refused-clause-due : goal.returns-in_err-refused-clause-due
returns-in_err-refused-clause-due c = λ e refusal either.
    absurd (rollback_not_due (λ (n : Bor Name). n.now) c.args.busy c.args.self c.in-Some.version c.in-Some.is
    (λ none. let ok = c.in_err-refused.ensures.due none in cc) e refusal either)
