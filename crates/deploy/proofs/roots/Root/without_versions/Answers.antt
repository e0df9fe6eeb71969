use Rattle.std.proofs.Common.{option_map}
use Rattle.deploy.proofs.LoneRows.{wipe_emptied, wipe_refused}
use Rattle.deploy.proofs.roots.Root.without_versions.Goals as goal

pub returns-in_default-clause-emptied : goal.returns-in_default-clause-emptied
returns-in_default-clause-emptied c = wipe_emptied (option_map (λ n. n.now) c.args.busy) c.args.self
    c.generation.result c.generation.ensures c.in_ok-refused.field-0 c.in_ok-refused.ensures.row c.register.result
    c.register.ensures c.in_default.is c.in_ok-refused.ensures.left

pub returns-clause-refused : goal.returns-clause-refused
returns-clause-refused c = wipe_refused (option_map (λ n. n.now) c.args.busy) c.args.self
    c.generation.result c.generation.ensures c.in_ok-refused.field-0 c.in_ok-refused.ensures.row c.in-Some.refused
    c.refuses.result c.in-Some.is c.refuses.ensures
