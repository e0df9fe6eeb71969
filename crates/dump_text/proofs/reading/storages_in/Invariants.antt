use Rattle.std.proofs.Common.{◌≡◌}
use Rattle.std.specs.List.{AllByRecursion}
use Rattle.serde_json.specs.View.{members_view}
use Rattle.dump_text.specs.Dumps.{HasExport, dumped_storage_in}
use Rattle.dump_text.specs.Elements.{read_members}
use Rattle.dump_text.proofs.Containers.{after}
use Rattle.dump_text.proofs.reading.storages_in.Given as goal

-- the storages so far, and after them those that are left
abbrev pub invariant-loop-name : goal.invariant-loop-name
invariant-loop-name l = AllByRecursion HasExport l.found.items
    × (after l.found.items (read_members dumped_storage_in (members_view l.name-iterator))
    ≡ read_members dumped_storage_in (members_view l.storages.entries))
