use Rattle.std.proofs.Common.{◌≡◌, ◌++◌, drop, string_bytes}
use Rattle.std.specs.List.{flat_map}
use Rattle.per_audit.specs.AuditText.{finding_line}
use Rattle.per_audit.proofs.printing.push_findings.Given as goal

-- the text so far, and the findings that are left
abbrev pub invariant-loop-finding : goal.invariant-loop-finding
invariant-loop-finding l = string_bytes l.out ++ flat_map finding_line (drop l.finding-index l.findings)
    ≡ string_bytes l.fn.out ++ flat_map finding_line l.findings
