use Rattle.std.proofs.Common.{◌≡◌, ◌+◌, ◌*◌, ◌∙◌, refl, ap, subst, arith}
use Rattle.disk_model.specs.Image.{Image}
use Rattle.disk_model.specs.Laws.{idle_on}
use Rattle.flash_disk.specs.declared.forgetting.FileRange.{FileRange}
use Rattle.deploy.specs.Views.{seen_at}
use Rattle.flash_reclaim.specs.Naming.{free_range, kept_below}
use Rattle.flash_reclaim.proofs.Looks.{none_seen, seen_on}
use Rattle.flash_reclaim.proofs.Ranges.{none_below, one_more, with_rest}
use Rattle.flash_reclaim.proofs.naming.kept_files.Goals as goal

pub loop-app-init : goal.loop-app-init
loop-app-init g c = record {
  kept = λ tells. none_below (g.D.Disk.medium c.args.disk.now).image c.new-kept.result.items c.new-kept.ensures.items;
  seen = none_seen (g.met.D.Disk.lawful c.args.disk.now);
}

pub loop-app-preserved : goal.loop-app-preserved
loop-app-preserved g c =
    let it = c.loop-app.invariant in
    let ok = c.in_ok-free.ensures in
    let app = c.loop-app.app in
    let old = (g.D.Disk.medium c.args.disk.now).image in
    let low : FileRange = record { first = 4096 * app; end = c.in_ok-free.free.first } in
    let high : FileRange = record { first = c.in_ok-free.free.end; end = 4096 * app + 4096 } in
    record {
      kept = λ tells. one_more old app c.loop-app.kept.items c.push.new.self.items c.push-in-loop-app.new.self.items low
          high (it.kept tells) c.in_ok-push.ensures.items c.in_ok-push-2.ensures.items refl
          (ok.first tells ∙ ap (λ (im : Image). (free_range app (seen_at im app)).first) it.seen.image)
          (ok.end tells ∙ ap (λ (im : Image). (free_range app (seen_at im app)).end) it.seen.image) refl;
      seen = seen_on it.seen (record { image = ok.image; idle = ok.idle; passes = ok.passes; time = ok.time });
    }

pub returns-clause-kept : goal.returns-clause-kept
returns-clause-kept g c tells =
    let image = (g.D.Disk.medium c.args.disk.now).image in
    let rest : FileRange = record { first = 32768; end = 4294967295 } in
    let all : c.loop-app.app ≡ 8 = omega arith in
    c.in_ok-push-3.ensures.items ∙ with_rest image c.loop-app.kept.items rest
    (subst (λ k. c.loop-app.kept.items ≡ kept_below image k) all (c.loop-app.invariant.kept tells)) refl refl

pub returns-in_err-free-clause-idle : goal.returns-in_err-free-clause-idle
returns-in_err-free-clause-idle g c quiet =
    let seen = c.loop-app.invariant.seen in
    let was = seen.idle quiet in
    idle_on seen.time was c.free_at.ensures.time (c.free_at.ensures.idle was.quiet)

pub returns-in_err-push-clause-idle : goal.returns-in_err-push-clause-idle
returns-in_err-push-clause-idle g c quiet =
    let seen = c.loop-app.invariant.seen in
    let was = seen.idle quiet in
    idle_on seen.time was c.free_at.ensures.time (c.free_at.ensures.idle was.quiet)

pub returns-in_err-push-2-clause-idle : goal.returns-in_err-push-2-clause-idle
returns-in_err-push-2-clause-idle g c quiet =
    let seen = c.loop-app.invariant.seen in
    let was = seen.idle quiet in
    idle_on seen.time was c.free_at.ensures.time (c.free_at.ensures.idle was.quiet)
