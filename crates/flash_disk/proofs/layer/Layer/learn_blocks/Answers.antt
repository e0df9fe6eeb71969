use Rattle.std.proofs.Common.{◌≡◌, ◌+◌, ◌*◌, sym, subst, arith}
use Rattle.flash_disk.specs.Newest.{places}
use Rattle.flash_disk.specs.Known.{limit_of}
use Rattle.flash_disk.specs.Learnt.{HasLearnt, LearnsAll, IsTop}
use Rattle.flash_disk.proofs.Steps.{step_as, step_fails, step_then}
use Rattle.flash_disk.proofs.Usable.{all_full, learnt_there}
use Rattle.flash_disk.proofs.layer.Layer.learn_blocks.Goals as goal

pub returns-then-not-branch-clause-learns : goal.returns-then-not-branch-clause-learns
returns-then-not-branch-clause-learns g c told = let i = c.loop-block.invariant in let within =
    c.loop-block-test.true in
    all_full (g.F.Flash.medium c.args.self.now.flash).state.pages (g.F.Flash.medium c.loop-block.self.flash).state.pages
    (i.step.only.pages told)
    (64 * c.loop-block.block + 64) (places c.args.blocks) (limit_of c.loop-block.self.state.table)
    (limit_of c.args.self.now.state.table) c.learn_block.new.self.state.table
    c.in_ok-learn_block.field-0 c.if-not-branch.true i.step.bounds.limit
    (c.in_ok-learn_block.ensures.learns told (learnt_there (g.F.Flash.medium c.args.self.now.flash).state.pages
    (g.F.Flash.medium c.loop-block.self.flash).state.pages (i.step.only.pages told)
    (64 * c.loop-block.block) c.loop-block.self.state.table (i.learns told)))
    (omega (arith, within))

pub loop-block-preserved : goal.loop-block-preserved
loop-block-preserved g c =
    let i = c.loop-block.invariant in
    let e = c.in_ok-learn_block.ensures in
    let pages = (g.F.Flash.medium c.args.self.now.flash).state.pages in
    let seen = (g.F.Flash.medium c.loop-block.self.flash).state.pages in
    let block = c.loop-block.block in
    let was = c.loop-block.self.state.table in
    let table = c.learn_block.new.self.state.table in
    let top = c.learn_block.new.self.state.sequence in
    let next : 64 * block + 64 ≡ 64 * (block + 1) = omega arith in record {
      step = step_as (step_then i.step e.step) tt;
      learns = λ told. subst (λ k. HasLearnt pages k table) next
          (subst (λ q. HasLearnt q (64 * block + 64) table) (i.step.only.pages told)
          (subst (LearnsAll seen (64 * block + 64) (limit_of was) table) c.if-not-branch.false
          (e.learns told (learnt_there pages seen (i.step.only.pages told) (64 * block) was (i.learns told)))));
      tops = λ told start. subst (λ k. IsTop pages k top) next
          (subst (λ q. IsTop q (64 * block + 64) top) (i.step.only.pages told)
          (e.tops told (subst (λ q. IsTop q (64 * block) c.loop-block.self.state.sequence)
          (sym (i.step.only.pages told)) (i.tops told start)) c.if-not-branch.false));
    }

pub returns-in_err-learn_block-clause-step : goal.returns-in_err-learn_block-clause-step
returns-in_err-learn_block-clause-step g c = step_fails c.from_residual.result _ c.from_residual.ensures.1
    (step_then c.loop-block.invariant.step c.in_err-learn_block.ensures.step)

pub returns-then-not-branch-clause-step : goal.returns-then-not-branch-clause-step
returns-then-not-branch-clause-step g c =
    step_as (step_then c.loop-block.invariant.step c.in_ok-learn_block.ensures.step) tt
