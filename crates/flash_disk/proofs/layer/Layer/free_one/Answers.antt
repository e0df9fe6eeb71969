use Rattle.std.proofs.Common.{◌≢◌, ◌∙◌, sym, ap, subst, arith}
use Rattle.flash_disk.specs.declared.layer.LayerState.{LayerState}
use Rattle.flash_disk.specs.Does.{Does}
use Rattle.flash_disk.specs.Emptied.{Empties}
use Rattle.flash_disk.specs.Kept.{in_ranges, HoldsKept}
use Rattle.flash_disk.specs.Forgetting.{IsForgetting, MovesKept}
use Rattle.flash_disk.proofs.Stretches.{elapses_then}
use Rattle.flash_disk.proofs.Clearing.{erase_empties, erased_empty}
use Rattle.flash_disk.proofs.Emptying.{look_forgets, forgets_on, moving_forgets, emptying_forgets}
use Rattle.flash_disk.proofs.Emptying.{emptying_goes_on, emptied_holds, empty_holds_kept, moves_hold, starts_moving}
use Rattle.flash_disk.proofs.Emptying.{other_apart, look_free, look_still}
use Rattle.flash_disk.proofs.Accounting.{accounts_fails, accounts_ok, accounts_on}
use Rattle.flash_disk.proofs.layer.Layer.free_one.Goals as goal

pub returns-in_err-holds_other-clause-does : goal.returns-in_err-holds_other-clause-does
returns-in_err-holds_other-clause-does g c told =
    let e = c.holds_other.ensures.reads.only.looks in
    look_forgets (in_ranges c.args.kept.now) (g.F.Flash.medium c.args.self.now.flash)
    (g.F.Flash.medium c.holds_other.new.self.flash) c.args.self.now.state (c.requires.forgetting told) (e.state told)
    (e.during told)

pub returns-then-not-branch-clause-does : goal.returns-then-not-branch-clause-does
returns-then-not-branch-clause-does g c told =
    let e = c.holds_other.ensures.reads.only.looks in
    look_forgets (in_ranges c.args.kept.now) (g.F.Flash.medium c.args.self.now.flash)
    (g.F.Flash.medium c.holds_other.new.self.flash) c.args.self.now.state (c.requires.forgetting told) (e.state told)
    (e.during told)

pub returns-then-not-branch-clause-forgetting : goal.returns-then-not-branch-clause-forgetting
returns-then-not-branch-clause-forgetting g c told =
    let e = c.holds_other.ensures.reads in
    look_still (in_ranges c.args.kept.now) (g.F.Flash.medium c.args.self.now.flash)
    (g.F.Flash.medium c.holds_other.new.self.flash) c.args.self.now.state c.holds_other.new.self.state
    (e.only.looks.state told) e.only.blocks e.state (c.requires.forgetting told)

pub returns-then-not-branch-clause-free : goal.returns-then-not-branch-clause-free
returns-then-not-branch-clause-free g c told =
    let e = c.holds_other.ensures.reads in
    look_free (in_ranges c.args.kept.now) (g.F.Flash.medium c.args.self.now.flash)
    (g.F.Flash.medium c.holds_other.new.self.flash) c.args.self.now.state c.holds_other.new.self.state c.args.free
    (e.only.looks.state told) e.only.blocks e.state (c.requires.free told)

pub returns-then-not-branch-clause-here : goal.returns-then-not-branch-clause-here
returns-then-not-branch-clause-here g c told =
    let e = c.in_ok-holds_other.ensures in
    subst (λ p. HoldsKept (in_ranges c.args.kept.now) p c.args.block) (sym (e.reads.only.pages told))
    (e.none told (c.requires.within told) c.if-not-branch.true)

pub returns-then-not-branch-clause-holds : goal.returns-then-not-branch-clause-holds
returns-then-not-branch-clause-holds g c told b holds =
    subst (λ p. HoldsKept (in_ranges c.args.kept.now) p b) (sym (c.holds_other.ensures.reads.only.pages told)) holds

pub move_kept-requires : goal.move_kept-requires
move_kept-requires g c = record {
  moving = λ told.
      let m = g.F.Flash.medium c.args.self.now.flash in
      let look = g.F.Flash.medium c.holds_other.new.self.flash in
      let e = c.in_ok-holds_other.ensures in
      let s = c.args.self.now.state in
      let t = c.holds_other.new.self.state in
      let kept = in_ranges c.args.kept.now in
      let same = e.reads.only.looks.state told in
      let blocks = e.reads.only.blocks in
      starts_moving kept look.state.pages look.blocks t
      (look_still kept m look s t same blocks e.reads.state (c.requires.forgetting told)) c.args.block c.args.free
      (look_free kept m look s t c.args.free same blocks e.reads.state (c.requires.free told))
      (let within = c.requires.within told in omega (arith, within, blocks))
      (subst (λ p. HoldsKept kept p c.args.block → ⊥) (sym (e.reads.only.pages told))
      (e.some told (c.requires.within told) c.if-not-branch.false));
}

pub returns-in_err-move_kept-clause-does : goal.returns-in_err-move_kept-clause-does
returns-in_err-move_kept-clause-does g c told =
    let m = g.F.Flash.medium c.args.self.now.flash in
    let look = g.F.Flash.medium c.holds_other.new.self.flash in
    let mid = g.F.Flash.medium c.move_kept.new.self.flash in
    let r = c.holds_other.ensures.reads in
    let s = c.args.self.now.state in
    let t = c.holds_other.new.self.state in
    let kept = in_ranges c.args.kept.now in
    let start = c.requires.forgetting told in
    let same = r.only.looks.state told in
    let free = look_free kept m look s t c.args.free same r.only.blocks r.state (c.requires.free told) in
    forgets_on kept m look mid (r.accounts.time told) (c.move_kept.ensures.accounts.time told) start.agreed
    (look_forgets kept m look s start same (r.only.looks.during told))
    (moving_forgets kept look mid t (look_still kept m look s t same r.only.blocks r.state start) c.args.block
    c.args.free free.apart free.empty (c.move_kept.ensures.does told))

pub erase_block-requires : goal.erase_block-requires
erase_block-requires g c told =
    let within = c.requires.within told in
    let looked = c.holds_other.ensures.reads.only.blocks in
    let moved = (c.move_kept.ensures.accounts.time told).blocks in omega (arith, within, looked, moved)

pub returns-in_err-erase_block-clause-does : goal.returns-in_err-erase_block-clause-does
returns-in_err-erase_block-clause-does g c told =
    let m = g.F.Flash.medium c.args.self.now.flash in
    let look = g.F.Flash.medium c.holds_other.new.self.flash in
    let mid = g.F.Flash.medium c.move_kept.new.self.flash in
    let now = g.F.Flash.medium c.erase_block.new.self.flash in
    let r = c.in_ok-holds_other.ensures.reads in
    let v = c.in_ok-move_kept.ensures in
    let e = c.erase_block.ensures in
    let s = c.args.self.now.state in
    let t = c.holds_other.new.self.state in
    let u = c.move_kept.new.self.state in
    let kept = in_ranges c.args.kept.now in
    let start = c.requires.forgetting told in
    let same = r.only.looks.state told in
    let then = look_still kept m look s t same r.only.blocks r.state start in
    let free = look_free kept m look s t c.args.free same r.only.blocks r.state (c.requires.free told) in
    let other = other_apart kept look.state.pages look.blocks t then c.args.block
    (subst (λ p. HoldsKept kept p c.args.block → ⊥) (sym (r.only.pages told))
    (c.in_ok-holds_other.ensures.some told (c.requires.within told) c.if-not-branch.false)) in
    let apart : c.args.block ≢ u.spare = (λ here. other (here ∙ v.spare)) in
    let moved = forgets_on kept m look mid (r.accounts.time told) (v.accounts.time told) start.agreed
    (look_forgets kept m look s start same (r.only.looks.during told))
    (moving_forgets kept look mid t then c.args.block c.args.free free.apart free.empty (v.does told)) in
    forgets_on kept m mid now (elapses_then m look mid (r.accounts.time told) (v.accounts.time told))
    (e.accounts.time told) start.agreed moved
    (emptying_forgets kept mid now u (v.forgetting told) c.args.block apart (v.left told)
    (erase_empties mid now c.args.block c.erase_block.result (e.done told) (e.failed told) (e.during told)))

pub returns-clause-does : goal.returns-clause-does
returns-clause-does g c told =
    let m = g.F.Flash.medium c.args.self.now.flash in
    let look = g.F.Flash.medium c.holds_other.new.self.flash in
    let mid = g.F.Flash.medium c.move_kept.new.self.flash in
    let now = g.F.Flash.medium c.erase_block.new.self.flash in
    let r = c.in_ok-holds_other.ensures.reads in
    let v = c.in_ok-move_kept.ensures in
    let e = c.erase_block.ensures in
    let s = c.args.self.now.state in
    let t = c.holds_other.new.self.state in
    let u = c.move_kept.new.self.state in
    let kept = in_ranges c.args.kept.now in
    let start = c.requires.forgetting told in
    let same = r.only.looks.state told in
    let then = look_still kept m look s t same r.only.blocks r.state start in
    let free = look_free kept m look s t c.args.free same r.only.blocks r.state (c.requires.free told) in
    let other = other_apart kept look.state.pages look.blocks t then c.args.block
    (subst (λ p. HoldsKept kept p c.args.block → ⊥) (sym (r.only.pages told))
    (c.in_ok-holds_other.ensures.some told (c.requires.within told) c.if-not-branch.false)) in
    let apart : c.args.block ≢ u.spare = (λ here. other (here ∙ v.spare)) in
    let moved = forgets_on kept m look mid (r.accounts.time told) (v.accounts.time told) start.agreed
    (look_forgets kept m look s start same (r.only.looks.during told))
    (moving_forgets kept look mid t then c.args.block c.args.free free.apart free.empty (v.does told)) in
    forgets_on kept m mid now (elapses_then m look mid (r.accounts.time told) (v.accounts.time told))
    (e.accounts.time told) start.agreed moved
    (emptying_forgets kept mid now u (v.forgetting told) c.args.block apart (v.left told)
    (erase_empties mid now c.args.block c.erase_block.result (e.done told) (e.failed told) (e.during told)))

pub returns-clause-forgetting : goal.returns-clause-forgetting
returns-clause-forgetting g c told =
    let m = g.F.Flash.medium c.args.self.now.flash in
    let look = g.F.Flash.medium c.holds_other.new.self.flash in
    let mid = g.F.Flash.medium c.move_kept.new.self.flash in
    let now = g.F.Flash.medium c.erase_block.new.self.flash in
    let r = c.in_ok-holds_other.ensures.reads in
    let v = c.in_ok-move_kept.ensures in
    let e = c.erase_block.ensures in
    let s = c.args.self.now.state in
    let t = c.holds_other.new.self.state in
    let u = c.move_kept.new.self.state in
    let kept = in_ranges c.args.kept.now in
    let then = look_still kept m look s t (r.only.looks.state told) r.only.blocks r.state (c.requires.forgetting told) in
    let other = other_apart kept look.state.pages look.blocks t then c.args.block
    (subst (λ p. HoldsKept kept p c.args.block → ⊥) (sym (r.only.pages told))
    (c.in_ok-holds_other.ensures.some told (c.requires.within told) c.if-not-branch.false)) in
    let apart : c.args.block ≢ u.spare = (λ here. other (here ∙ v.spare)) in
    let empties : Does (Empties c.args.block mid.state.pages) mid now =
    erase_empties mid now c.args.block c.erase_block.result (e.done told) (e.failed told) (e.during told) in
    subst (IsForgetting kept now.state.pages now.blocks) (sym e.state)
    (emptying_goes_on kept mid now u (v.forgetting told) c.args.block apart (v.left told) empties.now
    (e.accounts.time told).blocks)

pub returns-clause-free : goal.returns-clause-free
returns-clause-free g c told =
    let m = g.F.Flash.medium c.args.self.now.flash in
    let look = g.F.Flash.medium c.holds_other.new.self.flash in
    let mid = g.F.Flash.medium c.move_kept.new.self.flash in
    let now = g.F.Flash.medium c.erase_block.new.self.flash in
    let r = c.in_ok-holds_other.ensures.reads in
    let v = c.in_ok-move_kept.ensures in
    let e = c.in_ok-erase_block.ensures in
    let s = c.args.self.now.state in
    let t = c.holds_other.new.self.state in
    let kept = in_ranges c.args.kept.now in
    let then = look_still kept m look s t (r.only.looks.state told) r.only.blocks r.state (c.requires.forgetting told) in
    let other = other_apart kept look.state.pages look.blocks t then c.args.block
    (subst (λ p. HoldsKept kept p c.args.block → ⊥) (sym (r.only.pages told))
    (c.in_ok-holds_other.ensures.some told (c.requires.within told) c.if-not-branch.false)) in
    let within = c.requires.within told in
    let looked = r.only.blocks in
    let moved = (v.accounts.time told).blocks in
    let erased = (e.accounts.time told).blocks in record {
      within = omega (arith, within, looked, moved, erased);
      apart = λ here. other (here ∙ (ap (λ (q : LayerState). q.spare) e.state ∙ v.spare));
      empty = erased_empty mid now c.args.block (e.done told);
    }

pub returns-clause-here : goal.returns-clause-here
returns-clause-here g c told =
    let mid = g.F.Flash.medium c.move_kept.new.self.flash in
    let now = g.F.Flash.medium c.erase_block.new.self.flash in
    empty_holds_kept (in_ranges c.args.kept.now) now.blocks now.state.pages c.args.block
    (erased_empty mid now c.args.block (c.in_ok-erase_block.ensures.done told))

pub returns-clause-holds : goal.returns-clause-holds
returns-clause-holds g c told b holds =
    let look = g.F.Flash.medium c.holds_other.new.self.flash in
    let mid = g.F.Flash.medium c.move_kept.new.self.flash in
    let now = g.F.Flash.medium c.erase_block.new.self.flash in
    let v = c.in_ok-move_kept.ensures in
    let e = c.erase_block.ensures in
    let kept = in_ranges c.args.kept.now in
    let empties : Does (Empties c.args.block mid.state.pages) mid now =
    erase_empties mid now c.args.block c.erase_block.result (e.done told) (e.failed told) (e.during told) in
    let moves : Does (MovesKept kept look.blocks c.args.block c.args.free look.state.pages) look mid = v.does told in
    emptied_holds kept now.blocks mid.state.pages now.state.pages c.args.block empties.now b
    (moves_hold kept look.state.pages mid.state.pages look.blocks c.args.block c.args.free moves.now (v.holds told) b
    (subst (λ p. HoldsKept kept p b) (sym (c.in_ok-holds_other.ensures.reads.only.pages told)) holds))

pub returns-in_err-holds_other-clause-accounts : goal.returns-in_err-holds_other-clause-accounts
returns-in_err-holds_other-clause-accounts g c = accounts_fails c.from_residual.result _ c.from_residual.ensures.1
    c.in_err-holds_other.ensures.reads.accounts

pub returns-then-not-branch-clause-accounts : goal.returns-then-not-branch-clause-accounts
returns-then-not-branch-clause-accounts g c = accounts_ok c.in_ok-holds_other.ensures.reads.accounts

pub returns-in_err-move_kept-clause-accounts : goal.returns-in_err-move_kept-clause-accounts
returns-in_err-move_kept-clause-accounts g c =
    accounts_fails c.from_residual-in_err-move_kept.result _ c.from_residual-in_err-move_kept.ensures.1
    (accounts_on 0 0 0 (omega arith) c.in_ok-holds_other.ensures.reads.accounts c.in_err-move_kept.ensures.accounts)

pub returns-in_err-erase_block-clause-accounts : goal.returns-in_err-erase_block-clause-accounts
returns-in_err-erase_block-clause-accounts g c =
    accounts_fails c.from_residual-in_err-erase_block.result _ c.from_residual-in_err-erase_block.ensures.1
    (accounts_on 0 0 0 (omega arith) (accounts_on 0 0 0 (omega arith) c.in_ok-holds_other.ensures.reads.accounts
    c.in_ok-move_kept.ensures.accounts) c.in_err-erase_block.ensures.accounts)

pub returns-clause-accounts : goal.returns-clause-accounts
returns-clause-accounts g c = accounts_ok (accounts_on 0 0 0 (omega arith) (accounts_on 0 0 0 (omega arith)
    c.in_ok-holds_other.ensures.reads.accounts c.in_ok-move_kept.ensures.accounts) c.in_ok-erase_block.ensures.accounts)
