use Rattle.std.proofs.Common.{◌∙◌, refl, arith}
use Rattle.flash_disk.specs.Kept.{in_ranges}
use Rattle.flash_disk.specs.Forgetting.{MovesKept}
use Rattle.flash_disk.proofs.Stretches.{does_nothing}
use Rattle.flash_disk.proofs.Emptying.{moves_refl, moves_on}
use Rattle.flash_disk.proofs.Accounting.{accounts_fails, accounts_ok, accounts_on, counted_none, counted_on}
use Rattle.flash_disk.proofs.layer.Layer.move_kept.Goals as goal

pub loop-page-init : goal.loop-page-init
loop-page-init g c =
    let m = g.F.Flash.medium c.args.self.now.flash in
    let kept = in_ranges c.args.kept.now in
    let lawful = g.met.F.Flash.lawful c.args.self.now.flash in record {
      counts = counted_none 0 c.args.self.now lawful;
      few = omega arith;
      spare = refl;
      moving = c.requires.moving;
      does = λ told. does_nothing m m (MovesKept kept m.blocks c.args.from c.args.to m.state.pages) refl
          (λ x past. lawful.only_now x past) (moves_refl kept m.blocks c.args.from c.args.to m.state.pages);
    }

pub loop-page-preserved : goal.loop-page-preserved
loop-page-preserved g c =
    let m = g.F.Flash.medium c.args.self.now.flash in
    let mid = g.F.Flash.medium c.loop-page.self.flash in
    let now = g.F.Flash.medium c.move_one.new.self.flash in
    let i = c.loop-page.invariant in
    let e = c.in_ok-count.ensures in record {
      counts = counted_on 0 0 0 (omega arith) i.counts e.accounts;
      few = (let was = i.few in let one = e.count in omega (arith, was, one));
      spare = e.spare ∙ i.spare;
      moving = λ told. e.moving told;
      does = λ told. (let start = c.requires.moving told in
          moves_on (in_ranges c.args.kept.now) m mid now (i.counts.time told) (e.accounts.time told)
          start.forgetting.agreed c.args.from c.args.to start.apart (i.does told) (e.does told));
    }

pub returns-in_err-count-clause-does : goal.returns-in_err-count-clause-does
returns-in_err-count-clause-does g c told =
    let m = g.F.Flash.medium c.args.self.now.flash in
    let mid = g.F.Flash.medium c.loop-page.self.flash in
    let now = g.F.Flash.medium c.move_one.new.self.flash in
    let i = c.loop-page.invariant in
    let e = c.move_one.ensures in
    let start = c.requires.moving told in
    moves_on (in_ranges c.args.kept.now) m mid now (i.counts.time told) (e.accounts.time told)
    start.forgetting.agreed c.args.from c.args.to start.apart (i.does told) (e.does told)

pub returns-in_err-count-clause-accounts : goal.returns-in_err-count-clause-accounts
returns-in_err-count-clause-accounts g c = accounts_fails c.from_residual.result _ c.from_residual.ensures.1
    (accounts_on 0 0 0 (omega arith) c.loop-page.invariant.counts c.in_err-count.ensures.accounts)

pub returns-in_err-count-clause-own : goal.returns-in_err-count-clause-own
returns-in_err-count-clause-own g c told = c.move_one.ensures.own told ∙ c.loop-page.invariant.counts.kept

pub returns-in_err-count-clause-spare : goal.returns-in_err-count-clause-spare
returns-in_err-count-clause-spare g c = c.move_one.ensures.spare ∙ c.loop-page.invariant.spare

pub returns-clause-forgetting : goal.returns-clause-forgetting
returns-clause-forgetting g c told = (c.loop-page.invariant.moving told).forgetting

pub returns-clause-left : goal.returns-clause-left
returns-clause-left g c told key e own is at_block =
    let past = c.loop-page-test.false in
    let le = (c.loop-page.invariant.moving told).out key e own is at_block in omega (arith, past, le)

pub returns-clause-holds : goal.returns-clause-holds
returns-clause-holds g c told = (c.loop-page.invariant.moving told).holds

pub returns-clause-does : goal.returns-clause-does
returns-clause-does g c told = c.loop-page.invariant.does told

pub returns-clause-accounts : goal.returns-clause-accounts
returns-clause-accounts g c = accounts_ok c.loop-page.invariant.counts

pub returns-clause-own : goal.returns-clause-own
returns-clause-own g c told = c.loop-page.invariant.counts.kept
