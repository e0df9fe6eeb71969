use Rattle.std.proofs.Common.{◌+◌, ◌∙◌, arith}
use Rattle.flash_disk.proofs.Leaving.{leaves_there}
use Rattle.flash_disk.proofs.Steps.{step_as, step_fails, step_then}
use Rattle.flash_disk.proofs.layer.Layer.leave_spare.Goals as goal

pub loop-page-preserved : goal.loop-page-preserved
loop-page-preserved g c =
    let i = c.loop-page.invariant in
    let e = c.in_ok-leave_page.ensures in
    let m = g.F.Flash.medium c.args.self.now.flash in
    let seen = g.F.Flash.medium c.loop-page.self.flash in
    let blocks = i.step.only.blocks in record {
      step = step_as (step_then i.step e.step) tt;
      sequence = e.sequence ∙ i.sequence;
      spare = e.spare ∙ i.spare;
      len = e.len ∙ i.len;
      left = λ told within spare start. leaves_there m.state.pages seen.state.pages (i.step.only.pages told) m.blocks
          seen.blocks blocks c.args.self.now.state.spare c.loop-page.page (c.loop-page.page + 1)
          c.loop-page.self.state.table c.leave_page.new.self.state.table
          (e.left told (omega (arith, within, blocks)) c.loop-page-test.true) spare
          (i.left told within spare start);
    }

pub returns-in_err-leave_page-clause-step : goal.returns-in_err-leave_page-clause-step
returns-in_err-leave_page-clause-step g c = step_fails c.from_residual.result _ c.from_residual.ensures.1
    (step_then c.loop-page.invariant.step c.in_err-leave_page.ensures.step)
