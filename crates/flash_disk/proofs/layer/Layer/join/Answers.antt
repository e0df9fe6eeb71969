use Rattle.std.proofs.Common.{◌≡◌, ◌<◌, refl, sym, ap, subst, ◌∙◌, arith}
use Rattle.std.specs.Prelude.{IsFalse}
use Rattle.flash_disk.specs.declared.layer.LayerState.{LayerState}
use Rattle.flash_disk.specs.Newest.{places}
use Rattle.flash_disk.specs.Sound.{IsSoundLayer}
use Rattle.flash_disk.specs.Moving.{MayJoin}
use Rattle.flash_disk.specs.Apart.{HoldsOneCopy}
use Rattle.flash_disk.proofs.Entries.{same_entries_then}
use Rattle.flash_disk.proofs.Moving.{stands_then, fits_kept, shows_same, moved_stands, moved_held}
use Rattle.flash_disk.proofs.Holding.{held_apart, apart_then}
use Rattle.flash_disk.proofs.Joins.{as_full, fewer_only, pair_room, place_stays}
use Rattle.flash_disk.proofs.Accounting.{accounts_fails, accounts_here, accounts_on}
use Rattle.flash_disk.proofs.layer.Layer.join.Goals as goal

pub add_needed-requires : goal.add_needed-requires
add_needed-requires g c = record {
  joining = λ told.
      let m = g.F.Flash.medium c.args.self.now.flash in
      let mid = g.F.Flash.medium c.move_block.new.self.flash in
      let s = c.args.self.now.state in
      let e = c.move_block.ensures in
      let pair = c.requires.pair in
      let room = pair_room m.blocks s.table s.spare c.args.first c.args.second (c.requires.ready.sound told).counted pair in
      let blocks = (e.accounts.time told).blocks in
      let below = room.0 in
      (c.in_ok-move_block.ensures.joins told c.args.second (omega (arith, below, blocks)) pair.second_other room.1).0;
}

pub returns-in_err-add_needed-clause-ready : goal.returns-in_err-add_needed-clause-ready
returns-in_err-add_needed-clause-ready g c = record {
  sure = ap (λ (q : LayerState). q.unsure) c.add_needed.ensures.state ∙ c.move_block.ensures.ready.sure;
  sound = λ told. c.add_needed.ensures.sound told;
}

pub returns-clause-ready : goal.returns-clause-ready
returns-clause-ready g c = record {
  sure = ap (λ (q : LayerState). q.unsure) c.add_needed.ensures.state ∙ c.move_block.ensures.ready.sure;
  sound = λ told. let now = g.F.Flash.medium c.add_needed.new.self.flash in
      as_full now.state.pages now.blocks c.add_needed.new.self.state (c.add_needed.ensures.sound told);
}

pub returns-in_err-add_needed-clause-fits : goal.returns-in_err-add_needed-clause-fits
returns-in_err-add_needed-clause-fits g c told file page len bytes fits =
    let mid = g.F.Flash.medium c.move_block.new.self.flash in
    let now = g.F.Flash.medium c.add_needed.new.self.flash in
    let u = c.move_block.new.self.state in
    let e = c.add_needed.ensures in
    let agreed : IsFalse u.has_rivals = c.move_block.ensures.accounts.has_rivals ∙ c.requires.agreed in
    fits_kept mid now u c.add_needed.new.self.state (c.move_block.ensures.ready.sound told) agreed (e.keeps told)
    (e.accounts.time told).blocks (place_stays u.table c.add_needed.new.self.state.table (e.entries told)) file page len
    bytes (c.move_block.ensures.fits told file page len bytes fits)

pub returns-clause-fits : goal.returns-clause-fits
returns-clause-fits g c told file page len bytes fits =
    let mid = g.F.Flash.medium c.move_block.new.self.flash in
    let now = g.F.Flash.medium c.add_needed.new.self.flash in
    let u = c.move_block.new.self.state in
    let e = c.add_needed.ensures in
    let agreed : IsFalse u.has_rivals = c.move_block.ensures.accounts.has_rivals ∙ c.requires.agreed in
    fits_kept mid now u (record c.add_needed.new.self.state { fill = 64 }) (c.move_block.ensures.ready.sound told) agreed
    (e.keeps told) (e.accounts.time told).blocks
    (place_stays u.table c.add_needed.new.self.state.table (e.entries told)) file page len bytes
    (c.move_block.ensures.fits told file page len bytes fits)

pub returns-in_err-add_needed-clause-does : goal.returns-in_err-add_needed-clause-does
returns-in_err-add_needed-clause-does g c told =
    let mid = g.F.Flash.medium c.move_block.new.self.flash in
    let now = g.F.Flash.medium c.add_needed.new.self.flash in
    let u = c.move_block.new.self.state in
    let e = c.add_needed.ensures in
    stands_then (g.F.Flash.medium c.args.self.now.flash) mid now (c.move_block.ensures.accounts.time told)
    (e.accounts.time told) (c.move_block.ensures.does told)
    (moved_stands u.table c.args.second u.current mid now (e.does told))

pub returns-clause-does : goal.returns-clause-does
returns-clause-does g c told =
    let mid = g.F.Flash.medium c.move_block.new.self.flash in
    let now = g.F.Flash.medium c.add_needed.new.self.flash in
    let u = c.move_block.new.self.state in
    let e = c.add_needed.ensures in
    stands_then (g.F.Flash.medium c.args.self.now.flash) mid now (c.move_block.ensures.accounts.time told)
    (e.accounts.time told) (c.move_block.ensures.does told)
    (moved_stands u.table c.args.second u.current mid now (e.does told))

pub returns-clause-shown : goal.returns-clause-shown
returns-clause-shown g c told f i =
    let mid = g.F.Flash.medium c.move_block.new.self.flash in
    let now = g.F.Flash.medium c.add_needed.new.self.flash in
    let u = c.move_block.new.self.state in
    let e = c.add_needed.ensures in
    let agreed : IsFalse u.has_rivals = c.move_block.ensures.accounts.has_rivals ∙ c.requires.agreed in
    shows_same mid now u (c.move_block.ensures.ready.sound told) agreed (e.keeps told) (e.accounts.time told).blocks f i
    ∙ c.in_ok-move_block.ensures.shown told f i

pub returns-in_err-move_block-clause-apart : goal.returns-in_err-move_block-clause-apart
returns-in_err-move_block-clause-apart g c told copy =
    c.move_block.ensures.apart told copy c.requires.pair.copy c.requires.pair.own

pub returns-in_err-add_needed-clause-apart : goal.returns-in_err-add_needed-clause-apart
returns-in_err-add_needed-clause-apart g c told copy =
    let m = g.F.Flash.medium c.args.self.now.flash in
    let mid = g.F.Flash.medium c.move_block.new.self.flash in
    let now = g.F.Flash.medium c.add_needed.new.self.flash in
    let s = c.args.self.now.state in
    let u = c.move_block.new.self.state in
    let e = c.add_needed.ensures in
    let pair = c.requires.pair in
    let own = pair.copy in
    let blocks = (c.move_block.ensures.accounts.time told).blocks in
    let room = pair_room m.blocks s.table s.spare c.args.first c.args.second (c.requires.ready.sound told).counted pair in
    let below = room.0 in
    let joins = c.in_ok-move_block.ensures.joins told c.args.second (omega (arith, below, blocks)) pair.second_other
    room.1 in
    apart_then copy m mid now (c.move_block.ensures.accounts.time told) (e.accounts.time told)
    (c.move_block.ensures.apart told copy own pair.own)
    (held_apart copy mid now own u.current
    (moved_held u.table c.args.second u.current own mid now
    (fewer_only s.table u.table c.args.second own joins.1 pair.second_own) (e.does told))
    (subst (λ b. HoldsOneCopy mid.state.pages (places mid.blocks) b own)
    (sym c.in_ok-move_block.ensures.current) (c.in_ok-move_block.ensures.home told own pair.own)))

pub returns-clause-apart : goal.returns-clause-apart
returns-clause-apart g c told copy =
    let m = g.F.Flash.medium c.args.self.now.flash in
    let mid = g.F.Flash.medium c.move_block.new.self.flash in
    let now = g.F.Flash.medium c.add_needed.new.self.flash in
    let s = c.args.self.now.state in
    let u = c.move_block.new.self.state in
    let e = c.add_needed.ensures in
    let pair = c.requires.pair in
    let own = pair.copy in
    let blocks = (c.move_block.ensures.accounts.time told).blocks in
    let room = pair_room m.blocks s.table s.spare c.args.first c.args.second (c.requires.ready.sound told).counted pair in
    let below = room.0 in
    let joins = c.in_ok-move_block.ensures.joins told c.args.second (omega (arith, below, blocks)) pair.second_other
    room.1 in
    apart_then copy m mid now (c.move_block.ensures.accounts.time told) (e.accounts.time told)
    (c.move_block.ensures.apart told copy own pair.own)
    (held_apart copy mid now own u.current
    (moved_held u.table c.args.second u.current own mid now
    (fewer_only s.table u.table c.args.second own joins.1 pair.second_own) (e.does told))
    (subst (λ b. HoldsOneCopy mid.state.pages (places mid.blocks) b own)
    (sym c.in_ok-move_block.ensures.current) (c.in_ok-move_block.ensures.home told own pair.own)))

pub returns-clause-sequence : goal.returns-clause-sequence
returns-clause-sequence g c = ap (λ (q : LayerState). q.sequence) c.add_needed.ensures.state
    ∙ c.move_block.ensures.sequence

pub returns-in_err-add_needed-clause-sequence : goal.returns-in_err-add_needed-clause-sequence
returns-in_err-add_needed-clause-sequence g c = ap (λ (q : LayerState). q.sequence) c.add_needed.ensures.state
    ∙ c.move_block.ensures.sequence

pub returns-in_err-move_block-clause-accounts : goal.returns-in_err-move_block-clause-accounts
returns-in_err-move_block-clause-accounts g c = accounts_fails c.from_residual.result _
    c.from_residual.ensures.1 c.in_err-move_block.ensures.accounts

pub returns-in_err-add_needed-clause-accounts : goal.returns-in_err-add_needed-clause-accounts
returns-in_err-add_needed-clause-accounts g c =
    accounts_fails c.from_residual-in_err-add_needed.result _ c.from_residual-in_err-add_needed.ensures.1
    (accounts_on 0 0 0 (omega arith) c.in_ok-move_block.ensures.accounts c.in_err-add_needed.ensures.accounts)

pub returns-clause-accounts : goal.returns-clause-accounts
returns-clause-accounts g c = accounts_here refl refl refl refl
    (accounts_on 0 0 0 (omega arith) c.in_ok-move_block.ensures.accounts c.in_ok-add_needed.ensures.accounts)

pub returns-in_err-add_needed-clause-own : goal.returns-in_err-add_needed-clause-own
returns-in_err-add_needed-clause-own g c told = c.add_needed.ensures.own told ∙ c.move_block.ensures.own told

pub returns-clause-own : goal.returns-clause-own
returns-clause-own g c told = c.add_needed.ensures.own told ∙ c.move_block.ensures.own told

pub returns-clause-entries : goal.returns-clause-entries
returns-clause-entries g c told = same_entries_then c.args.self.now.state.table c.move_block.new.self.state.table
    c.add_needed.new.self.state.table (c.in_ok-move_block.ensures.entries told) (c.add_needed.ensures.entries told)

pub returns-clause-spare : goal.returns-clause-spare
returns-clause-spare g c = ap (λ (q : LayerState). q.spare) c.add_needed.ensures.state
    ∙ c.in_ok-move_block.ensures.spare

pub returns-clause-out : goal.returns-clause-out
returns-clause-out g c told = c.in_ok-add_needed.ensures.out told
