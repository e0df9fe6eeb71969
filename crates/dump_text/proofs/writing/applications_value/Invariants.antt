use Rattle.std.proofs.Common.{◌≡◌, ◌≤◌, map, take, Some}
use Rattle.serde_json.specs.Data.{members_depth}
use Rattle.serde_json.specs.View.{members_view}
use Rattle.dump_text.specs.Dumps.{AreInOrder, application_data, dumped_application_in}
use Rattle.dump_text.specs.Elements.{read_members}
use Rattle.dump_text.proofs.writing.applications_value.Given as goal

-- those so far
abbrev pub invariant-loop-dumped : goal.invariant-loop-dumped
invariant-loop-dumped l = (members_depth (members_view l.members.entries) ≤ 5)
    × (AreInOrder l.applications → read_members dumped_application_in (members_view l.members.entries)
    ≡ Some (map application_data (take l.dumped-index l.applications)))
