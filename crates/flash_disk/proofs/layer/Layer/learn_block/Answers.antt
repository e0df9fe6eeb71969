use Rattle.std.proofs.Common.{◌+◌, ◌*◌, arith, ◌≡◌, sym, subst}
use Rattle.flash_disk.specs.Known.{limit_of}
use Rattle.flash_disk.proofs.Usable.{next_full, learnt_there}
use Rattle.flash_disk.proofs.Steps.{step_as, step_fails, step_then}
use Rattle.flash_disk.specs.Learnt.{HasLearnt, LearnsNext, IsTop}
use Rattle.flash_disk.proofs.layer.Layer.learn_block.Goals as goal

pub returns-then-not-branch-clause-learns : goal.returns-then-not-branch-clause-learns
returns-then-not-branch-clause-learns g c told learnt = let i = c.loop-page.invariant in let within =
    c.loop-page-test.true in
    next_full (g.F.Flash.medium c.args.self.now.flash).state.pages (g.F.Flash.medium c.loop-page.self.flash).state.pages
    (i.step.only.pages told)
    (64 * c.args.block + c.loop-page.page + 1) (64 * c.args.block + 64) (limit_of c.args.self.now.state.table)
    c.loop-page.self.state.table c.learn_page.new.self.state.table
    c.in_ok-learn_page.field-0 c.if-not-branch.true i.step.bounds.limit
    (c.in_ok-learn_page.ensures.learns told (learnt_there (g.F.Flash.medium c.args.self.now.flash).state.pages
    (g.F.Flash.medium c.loop-page.self.flash).state.pages (i.step.only.pages told)
    (64 * c.args.block + c.loop-page.page) c.loop-page.self.state.table (i.learns told learnt)))
    (omega (arith, within))

pub returns-in_err-learn_page-clause-step : goal.returns-in_err-learn_page-clause-step
returns-in_err-learn_page-clause-step g c = step_fails c.from_residual.result _ c.from_residual.ensures.1
    (step_then c.loop-page.invariant.step c.in_err-learn_page.ensures.step)

pub returns-then-not-branch-clause-step : goal.returns-then-not-branch-clause-step
returns-then-not-branch-clause-step g c =
    step_as (step_then c.loop-page.invariant.step c.in_ok-learn_page.ensures.step) tt

pub loop-page-preserved : goal.loop-page-preserved
loop-page-preserved g c =
    let i = c.loop-page.invariant in
    let e = c.in_ok-learn_page.ensures in
    let pages = (g.F.Flash.medium c.args.self.now.flash).state.pages in
    let seen = (g.F.Flash.medium c.loop-page.self.flash).state.pages in
    let n = 64 * c.args.block + c.loop-page.page in
    let was = c.loop-page.self.state.table in
    let table = c.learn_page.new.self.state.table in
    let top = c.learn_page.new.self.state.sequence in
    let next : n + 1 ≡ 64 * c.args.block + (c.loop-page.page + 1) = omega arith in record {
      step = step_as (step_then i.step e.step) tt;
      learns = λ told start. subst (λ k. HasLearnt pages k table) next
          (subst (λ q. HasLearnt q (n + 1) table) (i.step.only.pages told)
          (subst (LearnsNext seen (n + 1) was table) c.if-not-branch.false
          (e.learns told (learnt_there pages seen (i.step.only.pages told) n was (i.learns told start)))));
      tops = λ told start. subst (λ k. IsTop pages k top) next
          (subst (λ q. IsTop q (n + 1) top) (i.step.only.pages told)
          (e.tops told (subst (λ q. IsTop q n c.loop-page.self.state.sequence) (sym (i.step.only.pages told))
          (i.tops told start))));
    }
