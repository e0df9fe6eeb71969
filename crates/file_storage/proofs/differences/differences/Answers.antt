use Rattle.std.proofs.Common.{◌≡◌, ◌++◌, sym, ◌∙◌, ap, subst}
use Rattle.std.specs.Prelude.{map}
use Rattle.per_base.specs.Maps.{Map}
use Rattle.element_state.specs.Views.{element_of}
use Rattle.file_storage.specs.Walks.{bare, walked}
use Rattle.file_storage.proofs.Walked.{taken_away}
use Rattle.file_storage.proofs.differences.differences.Goals as goal

pub returns : goal.returns
returns c = c.in_ok-remove_all.ensures ∙ ap (λ list. c.loop-name.list.items ++ list)
    (sym (taken_away c.loop-name.rest.now))
    ∙ subst (λ (left : Map). c.loop-name.list.items ++ map bare (walked left (map element_of c.loop-name.rest.now))
    ≡ map bare (walked c.args.files.now.entries (map element_of c.args.entries.now))) c.in-None.ensures.steps.0
    c.loop-name.invariant
