use Rattle.std.proofs.Common.{◌≡◌, ◌++◌, drop, string_bytes}
use Rattle.std.specs.List.{flat_map}
use Rattle.per_audit.specs.AuditText.{element_line}
use Rattle.per_audit.proofs.printing.push_elements.Given as goal

-- the text so far, and the elements that are left
abbrev pub invariant-loop-element : goal.invariant-loop-element
invariant-loop-element l = string_bytes l.out ++ flat_map element_line (drop l.element-index l.elements)
    ≡ string_bytes l.fn.out ++ flat_map element_line l.elements
