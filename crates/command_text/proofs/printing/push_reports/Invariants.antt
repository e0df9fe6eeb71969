use Rattle.std.proofs.Common.{◌≡◌, ◌++◌, drop, string_bytes}
use Rattle.std.specs.List.{flat_map}
use Rattle.command_text.specs.Replies.{report_line}
use Rattle.command_text.proofs.printing.push_reports.Given as goal

-- the text so far, and the reports that are left
abbrev pub invariant-loop-report : goal.invariant-loop-report
invariant-loop-report l = string_bytes l.out ++ flat_map report_line (drop l.report-index l.reports)
    ≡ string_bytes l.fn.out ++ flat_map report_line l.reports
