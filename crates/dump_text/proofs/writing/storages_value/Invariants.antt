use Rattle.std.proofs.Common.{◌≡◌, ◌≤◌, take, Some}
use Rattle.per_base.specs.Names.{NamesAscend}
use Rattle.serde_json.specs.Data.{members_depth}
use Rattle.serde_json.specs.View.{members_view}
use Rattle.dump_text.specs.declared.dumps.DumpedStorage.{DumpedStorage}
use Rattle.dump_text.specs.Dumps.{dumped_storage_in}
use Rattle.dump_text.specs.Elements.{read_members}
use Rattle.dump_text.proofs.writing.storages_value.Given as goal

-- those so far
abbrev pub invariant-loop-storage : goal.invariant-loop-storage
invariant-loop-storage l = (members_depth (members_view l.members.entries) ≤ 3)
    × (NamesAscend (λ (s : DumpedStorage). s.name) l.storages
    → read_members dumped_storage_in (members_view l.members.entries) ≡ Some (take l.storage-index l.storages))
