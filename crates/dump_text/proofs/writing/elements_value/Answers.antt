use Rattle.std.proofs.Common.{List, Some, ◌∙◌, ap, arith}
use Rattle.std.proofs.lemmas.List.{take_all}
use Rattle.per_base.specs.declared.elements.Fresh.{Fresh}
use Rattle.export_text.specs.Exports.{IsExportable}
use Rattle.serde_json.specs.View.{members_view, view}
use Rattle.serde_json.proofs.Views.{view-Object}
use Rattle.dump_text.specs.Elements.{dumped_element_in}
use Rattle.dump_text.proofs.Containers.{all_at}
use Rattle.dump_text.proofs.Members.{none_deep, none_read, put_nests, put_taken}
use Rattle.dump_text.proofs.Parts.{element_named}
use Rattle.dump_text.proofs.writing.elements_value.Goals as goal

pub element_value-requires-clause-exportable : goal.element_value-requires-clause-exportable
element_value-requires-clause-exportable c = all_at (IsExportable c.args.kind) c.args.contents.now
    c.loop-element.element-index c.element-item.result c.requires.each (omega arith) c.element-item.is

pub loop-element-init : goal.loop-element-init
loop-element-init c =
    let empty = c.new-elements.ensures.empty in (
      none_deep c.new-elements.result.entries 1 empty,
      none_read (dumped_element_in c.args.kind) c.new-elements.result.entries empty,
    )

pub loop-element-preserved : goal.loop-element-preserved
loop-element-preserved c =
    let kind = c.args.kind in
    let old = members_view c.loop-element.elements.entries in
    let new = members_view c.put.new.map.entries in
    let name = c.as_str-name.result.now in
    let d = view c.in_ok-value.value in
    let put_is = c.in_ok-put.ensures.ok in (
      put_nests new old name d 1 put_is c.in_ok-value.ensures.nests c.loop-element.invariant.0,
      put_taken (λ (f : Fresh). f.name) (dumped_element_in kind) (element_named kind) c.args.contents.now
          c.loop-element.element-index c.element-item.result old new name d put_is c.as_str-name.ensures.text (omega arith)
          c.element-item.is c.requires.ascend c.loop-element.invariant.1 c.in_ok-value.ensures.read,
    )

pub returns-clause-read : goal.returns-clause-read
returns-clause-read c = (
  members_view c.loop-element.elements.entries,
  view-Object c.loop-element.elements,
  c.loop-element.invariant.1 ∙ ap (λ (fs : List Fresh). Some fs)
      (take_all c.loop-element.element-index c.args.contents.now (omega arith)),
)
