use Rattle.std.proofs.Common.{◌≡◌, sym, ◌∙◌, subst}
use Rattle.std.specs.Prelude.{map}
use Rattle.per_base.specs.Maps.{Map}
use Rattle.element_state.specs.Views.{element_of}
use Rattle.element_maps.specs.Sessions.{same_map}
use Rattle.file_storage.proofs.Walked.{none_left}
use Rattle.file_storage.proofs.differences.are_same.Goals as goal

pub returns : goal.returns
returns c = none_left c.loop-name.rest.now c.is_empty.result c.is_empty.ensures
    ∙ sym (subst (λ (left : Map). same_map (map element_of c.args.entries.now) c.args.files.now.entries
    ≡ same_map (map element_of c.loop-name.rest.now) left) c.in-None.ensures.steps.0 c.loop-name.invariant)
