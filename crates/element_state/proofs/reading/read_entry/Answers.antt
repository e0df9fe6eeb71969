use Rattle.std.proofs.Common.{sym, ◌∙◌}
use Rattle.element_state.proofs.Contents.{content_states}
use Rattle.element_state.proofs.reading.read_entry.Goals as goal

pub returns-clause-states : goal.returns-clause-states
returns-clause-states g c = λ bytes is. content_states c.in_ok-blob.blob.value c.in_ok-blob.blob.salvage
    c.in_ok-blob.blob.states.items c.in_ok-blob.ensures.states bytes (sym c.content_of-content.ensures ∙ is)
