use Rattle.std.proofs.Common.{List, Some, map, decimal, ◌∙◌, ap, arith}
use Rattle.std.proofs.lemmas.List.{take_all}
use Rattle.serde_json.specs.View.{members_view, view}
use Rattle.serde_json.proofs.Views.{view-Object}
use Rattle.dump_text.specs.declared.dumps.DumpedApplication.{DumpedApplication}
use Rattle.dump_text.specs.Dumps.{ApplicationData, IsInOrder, application_data, dumped_application_in}
use Rattle.dump_text.proofs.Containers.{all_at}
use Rattle.dump_text.proofs.Members.{none_deep, none_read, put_more, put_nests}
use Rattle.dump_text.proofs.Parts.{application_named}
use Rattle.dump_text.proofs.writing.applications_value.Goals as goal

pub loop-dumped-init : goal.loop-dumped-init
loop-dumped-init c =
    let empty = c.new-members.ensures.empty in (
      none_deep c.new-members.result.entries 5 empty,
      λ ordered. none_read dumped_application_in c.new-members.result.entries empty,
    )

pub loop-dumped-preserved : goal.loop-dumped-preserved
loop-dumped-preserved c =
    let apps = c.args.applications.now in
    let i = c.loop-dumped.dumped-index in
    let x = c.dumped-item.result in
    let old = members_view c.loop-dumped.members.entries in
    let new = members_view c.put.new.map.entries in
    let name = c.as_str.result.now in
    let d = view c.in_ok-value.value in
    let put_is = c.in_ok-put.ensures.ok in (
      put_nests new old name d 5 put_is c.in_ok-value.ensures.nests c.loop-dumped.invariant.0,
      λ ordered. put_more (λ (a : ApplicationData). decimal a.number) dumped_application_in application_named
          application_data apps i x old new name d put_is
          (c.as_str.ensures.value ∙ c.in_ok-number.ensures.ok ∙ ap decimal c.number.ensures.value) (omega arith)
          c.dumped-item.is ordered.ascend (c.loop-dumped.invariant.1 ordered)
          (c.in_ok-value.ensures.read (all_at IsInOrder apps i x ordered.each (omega arith) c.dumped-item.is)),
    )

pub returns-clause-read : goal.returns-clause-read
returns-clause-read c = λ ordered. (
  members_view c.loop-dumped.members.entries,
  view-Object c.loop-dumped.members,
  c.loop-dumped.invariant.1 ordered ∙ ap (λ (xs : List DumpedApplication). Some (map application_data xs))
      (take_all c.loop-dumped.dumped-index c.args.applications.now (omega arith)),
)
