use Rattle.std.proofs.Common.{◌<◌, inl, inr, ⊎_elim, sym, ap, subst, ◌∙◌, arith}
use Rattle.flash_disk.specs.declared.layer.LayerState.{LayerState}
use Rattle.flash_disk.specs.Newest.{places}
use Rattle.flash_disk.specs.Entries.{SameEntries}
use Rattle.flash_disk.specs.Apart.{copy_of, HoldsOneCopy}
use Rattle.flash_disk.proofs.Topmost.{on_ok}
use Rattle.flash_disk.proofs.Moving.{stands_then}
use Rattle.flash_disk.proofs.Clearing.{cleared_sound, cleared_fits, cleared_stands, cleared_shows, cleared_apart}
use Rattle.flash_disk.proofs.Clearing.{cleared_holds}
use Rattle.flash_disk.proofs.Holding.{apart_then, mix_early}
use Rattle.flash_disk.proofs.Accounting.{accounts_fails, accounts_on}
use Rattle.flash_disk.proofs.layer.Layer.make_room.Goals as goal

pub returns-in_err-find_room-clause-accounts : goal.returns-in_err-find_room-clause-accounts
returns-in_err-find_room-clause-accounts g c = accounts_fails c.from_residual.result _ c.from_residual.ensures.1
    c.in_err-find_room.ensures.accounts

pub returns-clause-ready : goal.returns-clause-ready
returns-clause-ready g c = record {
  sure = ap (λ (q : LayerState). q.unsure) c.clear_spare.ensures.state ∙ c.find_room.ensures.ready.sure;
  sound = λ told.
      let e = c.clear_spare.ensures in
      let sound = c.find_room.ensures.ready.sound told in
      cleared_sound (g.F.Flash.medium c.find_room.new.self.flash) c.find_room.new.self.state sound
      (sound.fresh c.in_ok-find_room.ensures.room).agreed (g.F.Flash.medium c.clear_spare.new.self.flash)
      (e.accounts.time told).blocks (e.does told) c.clear_spare.new.self.state e.state (e.blank told);
}

pub returns-clause-room : goal.returns-clause-room
returns-clause-room g c = on_ok c.clear_spare.result
    (subst (λ (q : LayerState). q.fill < 64) (sym c.clear_spare.ensures.state) c.in_ok-find_room.ensures.room)

pub returns-clause-fits : goal.returns-clause-fits
returns-clause-fits g c told file page len bytes fits =
    let e = c.clear_spare.ensures in
    let sound = c.find_room.ensures.ready.sound told in
    cleared_fits (g.F.Flash.medium c.find_room.new.self.flash) c.find_room.new.self.state sound
    (sound.fresh c.in_ok-find_room.ensures.room).agreed (g.F.Flash.medium c.clear_spare.new.self.flash)
    (e.accounts.time told).blocks (e.does told) c.clear_spare.new.self.state e.state file page len bytes
    (c.find_room.ensures.fits told file page len bytes fits)

pub returns-clause-does : goal.returns-clause-does
returns-clause-does g c told =
    let f = c.find_room.ensures in
    let e = c.clear_spare.ensures in
    let mid = g.F.Flash.medium c.find_room.new.self.flash in
    let now = g.F.Flash.medium c.clear_spare.new.self.flash in
    let sound = f.ready.sound told in
    stands_then (g.F.Flash.medium c.args.self.now.flash) mid now (f.accounts.time told) (e.accounts.time told)
    (f.does told)
    (cleared_stands mid c.find_room.new.self.state sound (sound.fresh c.in_ok-find_room.ensures.room).agreed now
    (e.accounts.time told).blocks (e.does told))

pub returns-clause-shown : goal.returns-clause-shown
returns-clause-shown g c told =
    let e = c.clear_spare.ensures in
    let sound = c.find_room.ensures.ready.sound told in
    on_ok c.clear_spare.result
    (λ f i. cleared_shows (g.F.Flash.medium c.find_room.new.self.flash) c.find_room.new.self.state sound
    (sound.fresh c.in_ok-find_room.ensures.room).agreed (g.F.Flash.medium c.clear_spare.new.self.flash)
    (e.accounts.time told).blocks (e.does told) f i ∙ c.in_ok-find_room.ensures.shown told f i)

pub returns-clause-apart : goal.returns-clause-apart
returns-clause-apart g c told =
    let f = c.find_room.ensures in
    let e = c.clear_spare.ensures in
    let mid = g.F.Flash.medium c.find_room.new.self.flash in
    let now = g.F.Flash.medium c.clear_spare.new.self.flash in
    let sound = f.ready.sound told in
    let copy = copy_of c.args.file in
    apart_then copy (g.F.Flash.medium c.args.self.now.flash) mid now (f.accounts.time told) (e.accounts.time told)
    (f.apart told)
    (cleared_apart mid c.find_room.new.self.state sound (sound.fresh c.in_ok-find_room.ensures.room).agreed now
    (e.accounts.time told).blocks (e.does told) copy)

pub returns-clause-home : goal.returns-clause-home
returns-clause-home g c told =
    let f = c.find_room.ensures in
    let e = c.clear_spare.ensures in
    let m = g.F.Flash.medium c.args.self.now.flash in
    let mid = g.F.Flash.medium c.find_room.new.self.flash in
    let now = g.F.Flash.medium c.clear_spare.new.self.flash in
    let s = c.find_room.new.self.state in
    let sound = f.ready.sound told in
    let copy = copy_of c.args.file in
    on_ok c.clear_spare.result
    (λ many stand. ⊎_elim
    (λ holds. inl (subst (λ (q : LayerState). HoldsOneCopy now.state.pages (places now.blocks) q.current copy)
    (sym e.state)
    (cleared_holds mid s sound (sound.fresh c.in_ok-find_room.ensures.room).agreed now (e.accounts.time told).blocks
    (e.does told) s.current copy holds)))
    (λ mix. inr (mix_early copy m mid now (f.accounts.time told) (e.accounts.time told) mix))
    (c.in_ok-find_room.ensures.home told many stand))

pub returns-clause-sequence : goal.returns-clause-sequence
returns-clause-sequence g c =
    ap (λ (q : LayerState). q.sequence) c.clear_spare.ensures.state ∙ c.find_room.ensures.sequence

pub returns-clause-accounts : goal.returns-clause-accounts
returns-clause-accounts g c = accounts_on 0 0 0 (omega arith) c.in_ok-find_room.ensures.accounts
    c.clear_spare.ensures.accounts

pub returns-clause-own : goal.returns-clause-own
returns-clause-own g c told no_rivals = c.clear_spare.ensures.own told ∙ c.find_room.ensures.own told no_rivals

pub returns-clause-entries : goal.returns-clause-entries
returns-clause-entries g c told = on_ok c.clear_spare.result
    (subst (λ (q : LayerState). SameEntries c.args.self.now.state.table q.table) (sym c.clear_spare.ensures.state)
    (c.in_ok-find_room.ensures.entries told))
