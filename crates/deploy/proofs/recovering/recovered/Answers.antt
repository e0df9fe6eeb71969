use Rattle.std.proofs.Common.{sym, subst, ◌∙◌}
use Rattle.std.proofs.lemmas.Result.{IfOk-weaker}
use Rattle.per_base.specs.declared.elements.Fresh.{Fresh}
use Rattle.std.specs.Prelude.{List}
use Rattle.deployment_model.specs.Data.{storage_data}
use Rattle.deploy.specs.Recovered.{AreElements}
use Rattle.deploy.proofs.Rescued.{contents_are_elements, none_started, rescued_are_elements, view_rescued}
use Rattle.deploy.proofs.recovering.recovered.Goals as goal

pub returns-in-Some-clause-contents : goal.returns-in-Some-clause-contents
returns-in-Some-clause-contents c = IfOk-weaker c.rescued_all.result _ _
    (λ made is. is ∙ view_rescued (storage_data c.args.config.now) c.args.now c.args.view.now c.in-Some.view
    c.as_slice.result.now c.in-Some.is c.as_slice.ensures)
    c.rescued_all.ensures

pub returns-in-Some-clause-limits : goal.returns-in-Some-clause-limits
returns-in-Some-clause-limits c = IfOk-weaker c.rescued_all.result _ _
    (λ made is shape kind read. subst (λ (fs : List Fresh). AreElements c.args.config.now.kind fs) (sym is)
    (rescued_are_elements c.found_is_kept.ensures.element (storage_data c.args.config.now) c.args.now c.args.view.now
    c.in-Some.view c.as_slice.result.now
    c.in-Some.is c.as_slice.ensures c.requires shape kind read))
    c.rescued_all.ensures

pub returns-in-None-clause-contents : goal.returns-in-None-clause-contents
returns-in-None-clause-contents c = IfOk-weaker c.initial_of.result _ _
    (λ made is. is ∙ none_started (storage_data c.args.config.now) c.args.now c.args.view.now c.in-None.is)
    c.initial_of.ensures.contents

pub returns-in-None-clause-limits : goal.returns-in-None-clause-limits
returns-in-None-clause-limits c = IfOk-weaker c.initial_of.result _ _
    (λ made are shape kind read. contents_are_elements c.args.config.now.kind c.args.config.now.maximum made.items are)
    c.initial_of.ensures.limits
