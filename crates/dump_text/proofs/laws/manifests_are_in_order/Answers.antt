use Rattle.std.proofs.Common.{sym, ap, ◌∙◌, subst}
use Rattle.std.specs.List.Sorted.{IsStrictlySortedBy}
use Rattle.per_base.specs.Names.{name_cmp}
use Rattle.deployment_model.specs.Conditions.{storage_names}
use Rattle.dump_text.proofs.Members.{some_same}
use Rattle.dump_text.proofs.laws.manifests_are_in_order.Goals as goal

pub returns : goal.returns
returns c = λ d said is named. record {
  ascend = subst (IsStrictlySortedBy name_cmp) (sym named) (c.said_is_kept.ensures.keeps d.manifest said is).ascends;
  said = λ other also. named ∙ ap storage_names (some_same said other (sym is ∙ also));
}
