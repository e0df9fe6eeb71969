use Rattle.std.proofs.Common.{◌≢◌, ◌∙◌, sym, ap, subst, arith}
use Rattle.flash_disk.specs.declared.layer.LayerState.{LayerState}
use Rattle.flash_disk.specs.Newest.{places}
use Rattle.flash_disk.specs.Sound.{IsSoundLayer}
use Rattle.flash_disk.specs.Kept.{in_ranges}
use Rattle.flash_disk.specs.Forgetting.{IsForgetting, LeavesKept}
use Rattle.flash_disk.proofs.Stretches.{elapses_then}
use Rattle.flash_disk.proofs.Writing.{on_ok_both}
use Rattle.flash_disk.proofs.Hiding.{hidden_agreed}
use Rattle.flash_disk.proofs.Emptying.{cleared_starts, clearing_forgets, forgets_on, emptying_forgets, emptying_goes_on}
use Rattle.flash_disk.proofs.Emptying.{emptied_holds}
use Rattle.flash_disk.proofs.layer.Layer.free_from.Goals as goal

pub empty_block-requires : goal.empty_block-requires
empty_block-requires g c told =
    let within = (c.requires.free told).within in
    let blocks = (c.in_ok-clear_spare.ensures.accounts.time told).blocks in
    omega (arith, within, blocks)

pub free_others-requires : goal.free_others-requires
free_others-requires g c =
    let m = g.F.Flash.medium c.args.self.now.flash in
    let look = g.F.Flash.medium c.clear_spare.new.self.flash in
    let bare = g.F.Flash.medium c.empty_block.new.self.flash in
    let s = c.args.self.now.state in
    let t = c.clear_spare.new.self.state in
    let u = c.empty_block.new.self.state in
    let kept = in_ranges c.args.kept.now in
    let free = c.args.free in
    let e = c.in_ok-clear_spare.ensures in
    let b = c.in_ok-empty_block.ensures in record {
      forgetting = λ told.
          let starts = cleared_starts kept m s (c.requires.ready.sound told) c.requires.agreed look
          (e.accounts.time told).blocks (e.does told) t e.state (e.blank told) e.cleared in
          let may = c.requires.free told in
          let apart : free ≢ t.spare = (λ here. may.apart (here ∙ ap (λ (q : LayerState). q.spare) e.state)) in
          let out : LeavesKept kept t.table free 64 =
          subst (λ (q : LayerState). LeavesKept kept q.table free 64) (sym e.state) may.out in
          subst (IsForgetting kept bare.state.pages bare.blocks) (sym b.state)
          (emptying_goes_on kept look bare t starts free apart out (b.does told).now (b.accounts.time told).blocks);
      free = λ told.
          let may = c.requires.free told in
          let within = may.within in
          let first = (e.accounts.time told).blocks in
          let second = (b.accounts.time told).blocks in record {
            within = omega (arith, within, first, second);
            apart = λ here. may.apart (here ∙ ap (λ (q : LayerState). q.spare) (b.state ∙ e.state));
            empty = b.blank told;
          };
      before = λ told block below. emptied_holds kept m.blocks look.state.pages bare.state.pages free (b.does told).now
          block
          (emptied_holds kept m.blocks m.state.pages look.state.pages s.spare (e.does told).now block
          (c.requires.before told block below));
    }

pub returns-in_err-clear_spare-clause-does : goal.returns-in_err-clear_spare-clause-does
returns-in_err-clear_spare-clause-does g c told =
    clearing_forgets (in_ranges c.args.kept.now) (g.F.Flash.medium c.args.self.now.flash) c.args.self.now.state
    (c.requires.ready.sound told) c.requires.agreed (g.F.Flash.medium c.clear_spare.new.self.flash)
    (c.clear_spare.ensures.does told)

pub returns-in_err-empty_block-clause-does : goal.returns-in_err-empty_block-clause-does
returns-in_err-empty_block-clause-does g c told =
    let m = g.F.Flash.medium c.args.self.now.flash in
    let look = g.F.Flash.medium c.clear_spare.new.self.flash in
    let bare = g.F.Flash.medium c.empty_block.new.self.flash in
    let s = c.args.self.now.state in
    let t = c.clear_spare.new.self.state in
    let kept = in_ranges c.args.kept.now in
    let free = c.args.free in
    let e = c.in_ok-clear_spare.ensures in
    let b = c.empty_block.ensures in
    let sound : IsSoundLayer m s = c.requires.ready.sound told in
    let starts = cleared_starts kept m s sound c.requires.agreed look (e.accounts.time told).blocks (e.does told) t
    e.state (e.blank told) e.cleared in
    let may = c.requires.free told in
    let apart : free ≢ t.spare = (λ here. may.apart (here ∙ ap (λ (q : LayerState). q.spare) e.state)) in
    let out : LeavesKept kept t.table free 64 =
    subst (λ (q : LayerState). LeavesKept kept q.table free 64) (sym e.state) may.out in
    forgets_on kept m look bare (e.accounts.time told) (b.accounts.time told)
    (hidden_agreed kept m.state.pages (places m.blocks) (sound.agreed c.requires.agreed))
    (clearing_forgets kept m s sound c.requires.agreed look (e.does told))
    (emptying_forgets kept look bare t starts free apart out (b.does told))

pub returns-clause-does : goal.returns-clause-does
returns-clause-does g c told =
    let m = g.F.Flash.medium c.args.self.now.flash in
    let look = g.F.Flash.medium c.clear_spare.new.self.flash in
    let bare = g.F.Flash.medium c.empty_block.new.self.flash in
    let now = g.F.Flash.medium c.free_others.new.self.flash in
    let s = c.args.self.now.state in
    let t = c.clear_spare.new.self.state in
    let kept = in_ranges c.args.kept.now in
    let free = c.args.free in
    let e = c.in_ok-clear_spare.ensures in
    let b = c.in_ok-empty_block.ensures in
    let o = c.free_others.ensures in
    let sound : IsSoundLayer m s = c.requires.ready.sound told in
    let starts = cleared_starts kept m s sound c.requires.agreed look (e.accounts.time told).blocks (e.does told) t
    e.state (e.blank told) e.cleared in
    let may = c.requires.free told in
    let apart : free ≢ t.spare = (λ here. may.apart (here ∙ ap (λ (q : LayerState). q.spare) e.state)) in
    let out : LeavesKept kept t.table free 64 =
    subst (λ (q : LayerState). LeavesKept kept q.table free 64) (sym e.state) may.out in
    let agreed = hidden_agreed kept m.state.pages (places m.blocks) (sound.agreed c.requires.agreed) in
    forgets_on kept m bare now (elapses_then m look bare (e.accounts.time told) (b.accounts.time told))
    (o.accounts.time told) agreed
    (forgets_on kept m look bare (e.accounts.time told) (b.accounts.time told) agreed
    (clearing_forgets kept m s sound c.requires.agreed look (e.does told))
    (emptying_forgets kept look bare t starts free apart out (b.does told)))
    (o.does told)

pub returns-clause-empty : goal.returns-clause-empty
returns-clause-empty g c told =
    let now = g.F.Flash.medium c.free_others.new.self.flash in
    let state = c.free_others.new.self.state in
    let forgetting = c.free_others.ensures.forgetting told in
    on_ok_both c.free_others.result
    (λ (one two : IsForgetting (in_ranges c.args.kept.now) now.state.pages now.blocks state).
    (state.spare, one.within, one.empty)) forgetting forgetting
