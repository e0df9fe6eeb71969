use Rattle.std.proofs.Common.{◌∙◌, sym, rules, tests}
use Rattle.std.proofs.lemmas.Iterator.{YieldsList-from_slice}
use Rattle.std.proofs.lemmas.Iterator.Search.{all_from_yields_List}
use Rattle.manifest.specs.Rules.{has_redundancy, redundancies_are_objects}
use Rattle.manifest.specs.Views.{listed_view}
use Rattle.manifest.proofs.ListLaws.{list_all-map}
use Rattle.manifest.proofs.storage_rules.redundancies_are_objects.Goals as goal

pub returns : goal.returns
unfolding redundancies_are_objects
returns c =
    all_from_yields_List (λ s. has_redundancy (listed_view s)) _ _ c.all.result c.all.ensures.ran
    (YieldsList-from_slice c.args.storages.now cc) (λ x b q k. search (rules, tests))
    ∙ sym (list_all-map has_redundancy listed_view c.args.storages.now)
