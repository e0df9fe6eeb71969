use Rattle.std.proofs.Common.{◌++◌, List, ap, length, subst, ◌∙◌, arith}
use Rattle.std.specs.List.{AllByRecursion, flat_map}
use Rattle.per_base.specs.declared.elements.Fresh.{Fresh}
use Rattle.export_text.specs.Exports.{IsExportedElement, fresh_text, header_text}
use Rattle.export_text.proofs.Each.{short_at}
use Rattle.export_text.proofs.Whole.{all_written}
use Rattle.export_text.proofs.writing.body_of.Goals as goal

pub put_element-requires : goal.put_element-requires
put_element-requires c = short_at c.args.kind c.args.contents.now c.loop-element.element-index c.element-item.result
    c.requires.each (omega arith) c.element-item.is

pub returns-clause-body : goal.returns-clause-body
returns-clause-body c =
    let contents = c.args.contents.now in
    c.loop-element.invariant.text
    ∙ ap (λ (fs : List Fresh). header_text c.args.kind (length contents) ++ flat_map fresh_text fs)
    (all_written contents c.loop-element.element-index c.loop-element-test.false)

pub returns-clause-elements : goal.returns-clause-elements
returns-clause-elements c =
    let contents = c.args.contents.now in
    subst (λ (fs : List Fresh). AllByRecursion IsExportedElement fs)
    (all_written contents c.loop-element.element-index c.loop-element-test.false) c.loop-element.invariant.elements
