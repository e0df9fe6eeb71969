use Rattle.std.proofs.Common.{ap, ◌∙◌}
use Rattle.std.specs.List.{list_all}
use Rattle.serde_json.specs.View.{view}
use Rattle.manifest.specs.Values.{is_object}
use Rattle.manifest.proofs.ListLaws.{objects_listed}
use Rattle.manifest.proofs.values.is_list_of_objects.Goals as goal

pub returns-in-Some : goal.returns-in-Some
returns-in-Some c = objects_listed _ c.in-Some.list.now.items _ c.in-Some.ensures
    (c.are_objects.ensures ∙ ap (list_all (λ v. is_object (view v))) c.as_slice.ensures.value)
