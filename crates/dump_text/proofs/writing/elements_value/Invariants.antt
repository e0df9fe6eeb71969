use Rattle.std.proofs.Common.{◌≡◌, ◌≤◌, take, Some}
use Rattle.serde_json.specs.Data.{members_depth}
use Rattle.serde_json.specs.View.{members_view}
use Rattle.dump_text.specs.Elements.{dumped_element_in, read_members}
use Rattle.dump_text.proofs.writing.elements_value.Given as goal

-- those so far
abbrev pub invariant-loop-element : goal.invariant-loop-element
invariant-loop-element l = (members_depth (members_view l.elements.entries) ≤ 1)
    × (read_members (dumped_element_in l.kind) (members_view l.elements.entries)
    ≡ Some (take l.element-index l.contents))
