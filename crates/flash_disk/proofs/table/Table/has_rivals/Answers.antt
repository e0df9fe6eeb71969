use Rattle.std.proofs.Common.{sym, ◌∙◌, rules, tests}
use Rattle.std.proofs.lemmas.Iterator.Search.{any_from_yields_List}
use Rattle.std.proofs.lemmas.Iterator.Consumers.{YieldsList-from_rest}
use Rattle.flash_disk.proofs.Lengths.{none_passes, one_passes}
use Rattle.flash_disk.proofs.table.Table.has_rivals.Goals as goal

pub returns-clause-no_rivals : goal.returns-clause-no_rivals
returns-clause-no_rivals c no_rivals key entry is =
    let all = any_from_yields_List (λ e. e.rivalled) _ _ c.any.result c.any.ensures.ran
    (YieldsList-from_rest _ c.values.ensures.rest) (λ x b q k. search (rules, tests)) in
    none_passes (λ e. e.rivalled) key entry c.args.self.now.newest.entries (sym all ∙ no_rivals) is

pub returns-clause-rivals : goal.returns-clause-rivals
returns-clause-rivals c some =
    let all = any_from_yields_List (λ e. e.rivalled) _ _ c.any.result c.any.ensures.ran
    (YieldsList-from_rest _ c.values.ensures.rest) (λ x b q k. search (rules, tests)) in
    one_passes (λ e. e.rivalled) c.args.self.now.newest.entries c.values.ensures.unique (sym all ∙ some)
