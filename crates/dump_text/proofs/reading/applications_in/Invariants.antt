use Rattle.std.proofs.Common.{◌≡◌, map}
use Rattle.std.specs.List.{AllByRecursion}
use Rattle.serde_json.specs.View.{members_view}
use Rattle.dump_text.specs.Dumps.{IsDumped, application_data, dumped_application_in}
use Rattle.dump_text.specs.Elements.{read_members}
use Rattle.dump_text.proofs.Containers.{after}
use Rattle.dump_text.proofs.reading.applications_in.Given as goal

-- the applications so far, and after them those that are left
abbrev pub invariant-loop-number : goal.invariant-loop-number
invariant-loop-number l = AllByRecursion IsDumped l.found.items
    × (after (map application_data l.found.items)
    (read_members dumped_application_in (members_view l.number-iterator))
    ≡ read_members dumped_application_in (members_view l.applications.entries))
