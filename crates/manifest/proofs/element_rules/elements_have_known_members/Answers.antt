use Rattle.std.proofs.Common.{◌∙◌, sym, rules, tests}
use Rattle.std.proofs.lemmas.Iterator.{YieldsList-from_slice}
use Rattle.std.proofs.lemmas.Iterator.Search.{all_from_yields_List}
use Rattle.manifest.specs.Rules.{has_element_members, elements_have_known_members}
use Rattle.manifest.specs.Views.{listed_view}
use Rattle.manifest.proofs.ListLaws.{list_all-map}
use Rattle.manifest.proofs.element_rules.elements_have_known_members.Goals as goal

pub returns : goal.returns
unfolding elements_have_known_members
returns c =
    all_from_yields_List (λ s. has_element_members (listed_view s)) _ _ c.all.result c.all.ensures.ran
    (YieldsList-from_slice c.args.elements.now cc) (λ x b q k. search (rules, tests))
    ∙ sym (list_all-map has_element_members listed_view c.args.elements.now)
