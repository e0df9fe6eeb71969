use Rattle.std.proofs.Common.{◌≡◌, refl, sym, ap, subst, ◌∙◌, arith}
use Rattle.flash_disk.specs.declared.layer.LayerState.{LayerState}
use Rattle.flash_disk.specs.Newest.{places}
use Rattle.flash_disk.specs.Does.{Does}
use Rattle.flash_disk.specs.Moving.{StandsMoved}
use Rattle.flash_disk.proofs.Entries.{same_entries, same_entries_then}
use Rattle.flash_disk.proofs.Standing.{keeps_refl}
use Rattle.flash_disk.proofs.Stretches.{does_nothing}
use Rattle.flash_disk.proofs.Moving.{moved_now, moved_then, keeps_on}
use Rattle.flash_disk.proofs.Joins.{fewer_refl, fewer_then, fewer_does, joined_out}
use Rattle.flash_disk.proofs.Accounting.{accounts_fails, accounts_on, counted_none, counted_on}
use Rattle.flash_disk.proofs.layer.Layer.add_needed.Goals as goal

pub loop-page-init : goal.loop-page-init
loop-page-init g c =
    let m = g.F.Flash.medium c.args.self.now.flash in
    let s = c.args.self.now.state in
    let lawful = g.met.F.Flash.lawful c.args.self.now.flash in record {
      counts = counted_none 0 c.args.self.now lawful;
      state = refl;
      joining = c.requires.joining;
      fewer = λ told. fewer_refl s.table c.args.from;
      entries = λ told. same_entries s.table;
      keeps = λ told. keeps_refl m.state.pages (places m.blocks);
      does = λ told. does_nothing m m (StandsMoved s.table c.args.from s.current m) refl
          (λ x past. lawful.only_now x past)
          (moved_now s.table c.args.from s.current m s (c.requires.joining told).sound);
    }

pub loop-page-preserved : goal.loop-page-preserved
loop-page-preserved g c =
    let m = g.F.Flash.medium c.args.self.now.flash in
    let mid = g.F.Flash.medium c.loop-page.self.flash in
    let now = g.F.Flash.medium c.add_one.new.self.flash in
    let s = c.args.self.now.state in
    let u = c.loop-page.self.state in
    let t = c.add_one.new.self.state in
    let i = c.loop-page.invariant in
    let e = c.add_one.ensures in record {
      counts = counted_on 0 0 0 (omega arith) i.counts c.in_ok-add_one.ensures.accounts;
      state = e.state ∙ ap (λ (q : LayerState). let z : LayerState = record q { table = t.table; fill = t.fill } in z)
          i.state;
      joining = λ told. c.in_ok-add_one.ensures.joining told;
      fewer = λ told. fewer_then s.table u.table t.table c.args.from (i.fewer told) (e.fewer told);
      entries = λ told. same_entries_then s.table u.table t.table (i.entries told) (e.entries told);
      keeps = λ told. let start = c.requires.joining told in
          keeps_on m mid s start.sound start.agreed (i.counts.time told).blocks (i.keeps told) now.state.pages
          (e.keeps told);
      does = λ told. moved_then s.table c.args.from s.current m mid now (i.counts.time told) (e.accounts.time told)
          (i.does told) (fewer_does s.table u.table c.args.from s.current mid now (i.fewer told)
          (subst (λ b. Does (StandsMoved u.table c.args.from b mid) mid now)
          (ap (λ (q : LayerState). q.current) i.state) (e.does told)));
    }

pub returns-in_err-add_one-clause-keeps : goal.returns-in_err-add_one-clause-keeps
returns-in_err-add_one-clause-keeps g c told =
    let m = g.F.Flash.medium c.args.self.now.flash in
    let mid = g.F.Flash.medium c.loop-page.self.flash in
    let now = g.F.Flash.medium c.add_one.new.self.flash in
    let i = c.loop-page.invariant in
    let start = c.requires.joining told in
    keeps_on m mid c.args.self.now.state start.sound start.agreed (i.counts.time told).blocks (i.keeps told)
    now.state.pages (c.add_one.ensures.keeps told)

pub returns-in_err-add_one-clause-does : goal.returns-in_err-add_one-clause-does
returns-in_err-add_one-clause-does g c told =
    let m = g.F.Flash.medium c.args.self.now.flash in
    let mid = g.F.Flash.medium c.loop-page.self.flash in
    let now = g.F.Flash.medium c.add_one.new.self.flash in
    let s = c.args.self.now.state in
    let u = c.loop-page.self.state in
    let i = c.loop-page.invariant in
    let e = c.add_one.ensures in
    moved_then s.table c.args.from s.current m mid now (i.counts.time told) (e.accounts.time told) (i.does told)
    (fewer_does s.table u.table c.args.from s.current mid now (i.fewer told)
    (subst (λ b. Does (StandsMoved u.table c.args.from b mid) mid now) (ap (λ (q : LayerState). q.current) i.state)
    (e.does told)))

pub returns-in_err-add_one-clause-entries : goal.returns-in_err-add_one-clause-entries
returns-in_err-add_one-clause-entries g c told =
    same_entries_then c.args.self.now.state.table c.loop-page.self.state.table c.add_one.new.self.state.table
    (c.loop-page.invariant.entries told) (c.add_one.ensures.entries told)

pub returns-in_err-add_one-clause-state : goal.returns-in_err-add_one-clause-state
returns-in_err-add_one-clause-state g c =
    let t = c.add_one.new.self.state in
    c.add_one.ensures.state ∙ ap (λ (q : LayerState). let z : LayerState = record q { table = t.table; fill = t.fill } in
    z) c.loop-page.invariant.state

pub returns-in_err-add_one-clause-own : goal.returns-in_err-add_one-clause-own
returns-in_err-add_one-clause-own g c told = c.add_one.ensures.own told ∙ c.loop-page.invariant.counts.kept

pub returns-clause-own : goal.returns-clause-own
returns-clause-own g c told = c.loop-page.invariant.counts.kept

pub returns-in_err-add_one-clause-accounts : goal.returns-in_err-add_one-clause-accounts
returns-in_err-add_one-clause-accounts g c = accounts_fails c.from_residual.result _ c.from_residual.ensures.1
    (accounts_on 0 0 0 (omega arith) c.loop-page.invariant.counts c.in_err-add_one.ensures.accounts)

pub returns-clause-sound : goal.returns-clause-sound
returns-clause-sound g c told = (c.loop-page.invariant.joining told).sound

pub returns-clause-out : goal.returns-clause-out
returns-clause-out g c told =
    let now = g.F.Flash.medium c.loop-page.self.flash in
    joined_out now.state.pages now.blocks c.loop-page.self.state c.args.from c.loop-page.page
    (c.loop-page.invariant.joining told) (omega (arith, c.loop-page-test.false))
