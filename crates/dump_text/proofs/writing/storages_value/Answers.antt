use Rattle.std.proofs.Common.{List, Some, ◌∙◌, ap, arith}
use Rattle.std.proofs.lemmas.List.{take_all}
use Rattle.serde_json.specs.View.{members_view, view}
use Rattle.serde_json.proofs.Views.{view-Object}
use Rattle.dump_text.specs.declared.dumps.DumpedStorage.{DumpedStorage}
use Rattle.dump_text.specs.Dumps.{dumped_storage_in}
use Rattle.dump_text.proofs.Members.{none_deep, none_read, put_nests, put_taken}
use Rattle.dump_text.proofs.Parts.{storage_named}
use Rattle.dump_text.proofs.writing.storages_value.Goals as goal

pub loop-storage-init : goal.loop-storage-init
loop-storage-init c =
    let empty = c.new-members.ensures.empty in (
      none_deep c.new-members.result.entries 3 empty,
      λ ascend. none_read dumped_storage_in c.new-members.result.entries empty,
    )

pub loop-storage-preserved : goal.loop-storage-preserved
loop-storage-preserved c =
    let old = members_view c.loop-storage.members.entries in
    let new = members_view c.put.new.map.entries in
    let name = c.as_str-name.result.now in
    let d = view c.in_ok-value.value in
    let put_is = c.in_ok-put.ensures.ok in (
      put_nests new old name d 3 put_is c.in_ok-value.ensures.nests c.loop-storage.invariant.0,
      λ ascend. put_taken (λ (s : DumpedStorage). s.name) dumped_storage_in storage_named c.args.storages.now
          c.loop-storage.storage-index c.storage-item.result old new name d put_is c.as_str-name.ensures.text (omega arith)
          c.storage-item.is ascend (c.loop-storage.invariant.1 ascend) c.in_ok-value.ensures.read,
    )

pub returns-clause-read : goal.returns-clause-read
returns-clause-read c = λ ascend. (
  members_view c.loop-storage.members.entries,
  view-Object c.loop-storage.members,
  c.loop-storage.invariant.1 ascend ∙ ap (λ (xs : List DumpedStorage). Some xs)
      (take_all c.loop-storage.storage-index c.args.storages.now (omega arith)),
)
