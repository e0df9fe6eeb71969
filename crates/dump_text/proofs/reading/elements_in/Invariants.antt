use Rattle.std.proofs.Common.{◌≡◌}
use Rattle.serde_json.specs.View.{members_view}
use Rattle.dump_text.specs.Elements.{dumped_element_in, read_members}
use Rattle.dump_text.proofs.Containers.{after}
use Rattle.dump_text.proofs.reading.elements_in.Given as goal

-- the elements so far, and after them those that are left
abbrev pub invariant-loop-name : goal.invariant-loop-name
invariant-loop-name l = after l.contents.items (read_members (dumped_element_in l.kind) (members_view l.name-iterator))
    ≡ read_members (dumped_element_in l.kind) (members_view l.elements.entries)
