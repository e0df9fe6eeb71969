use Rattle.std.proofs.Common.{◌+◌, refl, ap, subst, ◌∙◌, arith}
use Rattle.flash_disk.specs.declared.layer.LayerState.{LayerState}
use Rattle.flash_disk.specs.Newest.{places}
use Rattle.flash_disk.specs.Does.{Does}
use Rattle.flash_disk.specs.Moving.{StandsMoved}
use Rattle.flash_disk.proofs.Standing.{keeps_refl}
use Rattle.flash_disk.proofs.Stretches.{does_nothing}
use Rattle.flash_disk.proofs.Spreading.{copied_in, fewer_copied}
use Rattle.flash_disk.proofs.Moving.{moved_now, moved_then, keeps_on}
use Rattle.flash_disk.proofs.Accounting.{accounts_fails, accounts_on, counted_none, counted_on}
use Rattle.flash_disk.proofs.layer.Layer.copy_needed.Goals as goal

pub loop-page-init : goal.loop-page-init
loop-page-init g c =
    let m = g.F.Flash.medium c.args.self.now.flash in
    let lawful = g.met.F.Flash.lawful c.args.self.now.flash in record {
      counts = counted_none 0 c.args.self.now lawful;
      few = (let none = c.requires.none in omega (arith, none));
      count = (let none = c.requires.none in omega (arith, none));
      state = refl;
      moving = c.requires.moving;
      keeps = λ told. keeps_refl m.state.pages (places m.blocks);
      does = λ told. does_nothing m m (StandsMoved c.args.self.now.state.table c.args.from c.args.to m) refl
          (λ x past. lawful.only_now x past)
          (moved_now c.args.self.now.state.table c.args.from c.args.to m c.args.self.now.state
          (c.requires.moving told).sound);
    }

pub returns-in_err-copy_one-clause-keeps : goal.returns-in_err-copy_one-clause-keeps
returns-in_err-copy_one-clause-keeps g c told =
    let m = g.F.Flash.medium c.args.self.now.flash in
    let mid = g.F.Flash.medium c.loop-page.self.flash in
    let now = g.F.Flash.medium c.copy_one.new.self.flash in
    let i = c.loop-page.invariant in
    let start = c.requires.moving told in
    keeps_on m mid c.args.self.now.state start.sound start.agreed (i.counts.time told).blocks (i.keeps told)
    now.state.pages
    (c.copy_one.ensures.keeps told)

pub returns-in_err-copy_one-clause-does : goal.returns-in_err-copy_one-clause-does
returns-in_err-copy_one-clause-does g c told =
    let m = g.F.Flash.medium c.args.self.now.flash in
    let mid = g.F.Flash.medium c.loop-page.self.flash in
    let now = g.F.Flash.medium c.copy_one.new.self.flash in
    let i = c.loop-page.invariant in
    moved_then c.args.self.now.state.table c.args.from c.args.to m mid now (i.counts.time told)
    (c.copy_one.ensures.accounts.time told) (i.does told)
    (subst (λ (q : LayerState). Does (StandsMoved q.table c.args.from c.args.to mid) mid now) i.state
    (c.copy_one.ensures.does told))

pub loop-page-preserved : goal.loop-page-preserved
loop-page-preserved g c =
    let m = g.F.Flash.medium c.args.self.now.flash in
    let mid = g.F.Flash.medium c.loop-page.self.flash in
    let now = g.F.Flash.medium c.copy_one.new.self.flash in
    let i = c.loop-page.invariant in
    let e = c.copy_one.ensures in record {
      counts = counted_on 0 0 0 (omega arith) i.counts c.in_ok-copy_one.ensures.accounts;
      few = fewer_copied c.args.self.now.state c.loop-page.self.state c.copy_one.new.self.state c.args.from
          c.loop-page.page (ap (λ (q : LayerState). q.table) i.state) i.few e.few;
      count = (let was = i.count in let one = e.count in omega (arith, was, one));
      state = e.state ∙ ap (λ (q : LayerState). let z : LayerState =
          record q { moved = c.copy_one.new.self.state.moved } in z) i.state;
      moving = λ told. c.in_ok-copy_one.ensures.moving told;
      keeps = λ told. let start = c.requires.moving told in
          keeps_on m mid c.args.self.now.state start.sound start.agreed (i.counts.time told).blocks (i.keeps told)
          now.state.pages (e.keeps told);
      does = λ told. moved_then c.args.self.now.state.table c.args.from c.args.to m mid now (i.counts.time told)
          (e.accounts.time told) (i.does told)
          (subst (λ (q : LayerState). Does (StandsMoved q.table c.args.from c.args.to mid) mid now) i.state
          (e.does told));
    }

pub returns-clause-few : goal.returns-clause-few
returns-clause-few g c =
    let few = c.loop-page.invariant.few in let all = copied_in c.args.self.now.state.table c.args.from c.loop-page.page
    in omega (arith, few, all)

pub returns-in_err-copy_one-clause-few : goal.returns-in_err-copy_one-clause-few
returns-in_err-copy_one-clause-few g c =
    let i = c.loop-page.invariant in
    let few = fewer_copied c.args.self.now.state c.loop-page.self.state c.copy_one.new.self.state c.args.from
    c.loop-page.page (ap (λ (q : LayerState). q.table) i.state) i.few c.copy_one.ensures.few in
    let all = copied_in c.args.self.now.state.table c.args.from (c.loop-page.page + 1) in omega (arith, few, all)

pub returns-in_err-copy_one-clause-own : goal.returns-in_err-copy_one-clause-own
returns-in_err-copy_one-clause-own g c told =
    let i = c.loop-page.invariant in
    c.copy_one.ensures.own told ∙ i.counts.kept

pub returns-clause-own : goal.returns-clause-own
returns-clause-own g c told = c.loop-page.invariant.counts.kept

pub returns-in_err-copy_one-clause-accounts : goal.returns-in_err-copy_one-clause-accounts
returns-in_err-copy_one-clause-accounts g c = accounts_fails c.from_residual.result _ c.from_residual.ensures.1
    (accounts_on 0 0 0 (omega arith) c.loop-page.invariant.counts c.in_err-copy_one.ensures.accounts)
