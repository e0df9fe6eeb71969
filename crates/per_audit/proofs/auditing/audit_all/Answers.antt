use Rattle.std.proofs.Common.{◌<◌, ◌≤◌, List, ◌++◌, ap, ◌∙◌, arith}
use Rattle.std.specs.List.{flat_map, range_with_len}
use Rattle.disk_model.specs.Laws.{idle_on}
use Rattle.per_audit.specs.declared.findings.Finding.{Finding}
use Rattle.per_audit.specs.declared.findings.Listed.{Listed}
use Rattle.per_audit.proofs.Remaining.{app_elements_at, app_findings_at, apps_all, apps_more_at, elements_whole}
use Rattle.per_audit.proofs.Remaining.{findings_whole, none_seen, seen_on}
use Rattle.per_audit.proofs.auditing.audit_all.Goals as goal

pub loop-app-init : goal.loop-app-init
loop-app-init g c = record {
  elements = λ tells. ap (λ (xs : List Listed). xs ++ flat_map (app_elements_at (g.D.Disk.medium c.args.disk.now).image)
      (range_with_len 0 8)) c.new-notes.ensures.elements;
  findings = λ tells. ap (λ (xs : List Finding). xs ++ flat_map
      (app_findings_at (g.D.Disk.medium c.args.disk.now).image) (range_with_len 0 8)) c.new-notes.ensures.findings;
  quiet = λ some. absurd (omega (arith, some));
  seen = none_seen (g.met.D.Disk.lawful c.args.disk.now);
}

pub loop-app-preserved : goal.loop-app-preserved
loop-app-preserved g c =
    let it = c.loop-app.invariant in
    let app = c.loop-app.app in
    let lt : app < 8 = omega arith in
    let ok = c.in_ok-audit_app.ensures in
    let old = g.D.Disk.medium c.args.disk.now in
    let mid = g.D.Disk.medium c.loop-app.disk in
    record {
      elements = λ tells. apps_more_at app_elements_at old.image mid.image app c.loop-app.notes.elements.items
          c.audit_app.new.notes.elements.items lt it.seen.image
          (it.elements tells) (ok.adds tells).elements_are;
      findings = λ tells. apps_more_at app_findings_at old.image mid.image app c.loop-app.notes.findings.items
          c.audit_app.new.notes.findings.items lt it.seen.image
          (it.findings tells) (ok.adds tells).findings_are;
      quiet = λ some. ok.quiet;
      seen = seen_on it.seen (record {
        image = ok.image;
        idle = ok.idle;
        written = ok.written;
        passes =
            ok.passes;
        time = ok.time;
      });
    }

pub returns-clause-elements : goal.returns-clause-elements
returns-clause-elements g c = λ tells.
    let past : 8 ≤ c.loop-app.app = omega arith in
    c.into_audit.ensures.elements
    ∙ apps_all (app_elements_at (g.D.Disk.medium c.args.disk.now).image) c.loop-app.app c.loop-app.notes.elements.items
    past (c.loop-app.invariant.elements tells)
    ∙ elements_whole (g.D.Disk.medium c.args.disk.now).image

pub returns-clause-findings : goal.returns-clause-findings
returns-clause-findings g c = λ tells.
    let past : 8 ≤ c.loop-app.app = omega arith in
    c.into_audit.ensures.findings
    ∙ apps_all (app_findings_at (g.D.Disk.medium c.args.disk.now).image) c.loop-app.app c.loop-app.notes.findings.items
    past (c.loop-app.invariant.findings tells)
    ∙ findings_whole (g.D.Disk.medium c.args.disk.now).image

pub returns-clause-quiet : goal.returns-clause-quiet
returns-clause-quiet g c = c.loop-app.invariant.quiet (omega arith)

pub returns-in_err-audit_app-clause-idle : goal.returns-in_err-audit_app-clause-idle
returns-in_err-audit_app-clause-idle g c = λ quiet.
    let seen = c.loop-app.invariant.seen in
    let was = seen.idle quiet in
    idle_on seen.time was c.in_err-audit_app.ensures.time (c.in_err-audit_app.ensures.idle was.quiet)
