use Rattle.std.proofs.Common.{◌≡◌, ◌++◌, length, take}
use Rattle.std.specs.List.{AllByRecursion, flat_map}
use Rattle.export_text.specs.Exports.{IsExportedElement, fresh_text, header_text}
use Rattle.export_text.proofs.writing.body_of.Given as goal

abbrev pub invariant-loop-element : goal.invariant-loop-element
invariant-loop-element l = record {
  text : l.body.items ≡ header_text l.fn.kind (length l.contents)
      ++ flat_map fresh_text (take l.element-index l.contents);
  elements : AllByRecursion IsExportedElement (take l.element-index l.contents);
}
