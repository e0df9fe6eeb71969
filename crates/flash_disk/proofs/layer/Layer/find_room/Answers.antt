use Rattle.std.proofs.Common.{ap}
use Rattle.std.proofs.lemmas.Result.{on_ok_weaker}
use Rattle.flash_disk.specs.declared.layer.LayerState.{LayerState}
use Rattle.flash_disk.proofs.Moving.{look_stands, stands_then}
use Rattle.flash_disk.specs.Apart.{copy_of}
use Rattle.flash_disk.proofs.Turning.{turned_fits}
use Rattle.flash_disk.proofs.Holding.{look_apart, apart_then, home_then, goes_on}
use Rattle.flash_disk.proofs.layer.Layer.find_room.Goals as goal

pub returns-in_err-fresh-clause-does : goal.returns-in_err-fresh-clause-does
returns-in_err-fresh-clause-does g c told =
    let e = c.is_fresh.ensures.reads in
    look_stands (g.F.Flash.medium c.args.self.now.flash) (g.F.Flash.medium c.is_fresh.new.self.flash)
    (e.only.looks.state told) e.only.blocks (e.only.looks.during told) c.args.self.now.state
    (c.requires.ready.sound told)

pub returns-then-fresh-clause-room : goal.returns-then-fresh-clause-room
returns-then-fresh-clause-room g c = c.in_ok-fresh.ensures.page c.if-fresh.true

pub returns-then-fresh-clause-does : goal.returns-then-fresh-clause-does
returns-then-fresh-clause-does g c told =
    let e = c.is_fresh.ensures.reads in
    look_stands (g.F.Flash.medium c.args.self.now.flash) (g.F.Flash.medium c.is_fresh.new.self.flash)
    (e.only.looks.state told) e.only.blocks (e.only.looks.during told) c.args.self.now.state
    (c.requires.ready.sound told)

pub returns-clause-does : goal.returns-clause-does
returns-clause-does g c told =
    let e = c.is_fresh.ensures.reads in
    let m = g.F.Flash.medium c.args.self.now.flash in
    let look = g.F.Flash.medium c.is_fresh.new.self.flash in
    stands_then m look (g.F.Flash.medium c.free_block.new.self.flash) (e.accounts.time told)
    (c.free_block.ensures.accounts.time told)
    (look_stands m look (e.only.looks.state told) e.only.blocks (e.only.looks.during told) c.args.self.now.state
    (c.requires.ready.sound told)) (c.free_block.ensures.does told)

pub returns-clause-fits : goal.returns-clause-fits
returns-clause-fits g c told file page len bytes fits =
    let e = c.is_fresh.ensures.reads in
    c.free_block.ensures.fits told file page len bytes (turned_fits (g.F.Flash.medium c.args.self.now.flash)
    (g.F.Flash.medium c.is_fresh.new.self.flash) (e.only.pages told) e.only.blocks c.args.self.now.state
    c.is_fresh.new.self.state (ap (λ (q : LayerState). q.table) e.state) file page len bytes fits)

pub returns-in_err-fresh-clause-apart : goal.returns-in_err-fresh-clause-apart
returns-in_err-fresh-clause-apart g c told =
    let e = c.is_fresh.ensures.reads.only in
    look_apart (copy_of c.args.file) (g.F.Flash.medium c.args.self.now.flash)
    (g.F.Flash.medium c.is_fresh.new.self.flash) (e.looks.state told) (e.looks.during told)

pub returns-then-fresh-clause-apart : goal.returns-then-fresh-clause-apart
returns-then-fresh-clause-apart g c told =
    let e = c.is_fresh.ensures.reads.only in
    look_apart (copy_of c.args.file) (g.F.Flash.medium c.args.self.now.flash)
    (g.F.Flash.medium c.is_fresh.new.self.flash) (e.looks.state told) (e.looks.during told)

pub returns-then-fresh-clause-home : goal.returns-then-fresh-clause-home
returns-then-fresh-clause-home g c told =
    let e = c.is_fresh.ensures.reads.only in
    let sound = c.requires.ready.sound told in
    let m = g.F.Flash.medium c.args.self.now.flash in
    let look = g.F.Flash.medium c.is_fresh.new.self.flash in
    goes_on (copy_of c.args.file) m look (e.looks.state told) e.blocks c.args.self.now.state.table sound.knows.led
    sound.counted.blocks_are c.next_of-next.result.block
    (λ many. c.next_of-next.ensures many (c.in_ok-fresh.ensures.page c.if-fresh.true))

pub returns-clause-apart : goal.returns-clause-apart
returns-clause-apart g c told =
    let e = c.is_fresh.ensures.reads in
    let m = g.F.Flash.medium c.args.self.now.flash in
    let look = g.F.Flash.medium c.is_fresh.new.self.flash in
    let copy = copy_of c.args.file in
    apart_then copy m look (g.F.Flash.medium c.free_block.new.self.flash) (e.accounts.time told)
    (c.free_block.ensures.accounts.time told)
    (look_apart copy m look (e.only.looks.state told) (e.only.looks.during told)) (c.free_block.ensures.apart told)

pub returns-clause-home : goal.returns-clause-home
returns-clause-home g c told =
    let e = c.is_fresh.ensures.reads in
    let m = g.F.Flash.medium c.args.self.now.flash in
    let look = g.F.Flash.medium c.is_fresh.new.self.flash in
    let now = g.F.Flash.medium c.free_block.new.self.flash in
    let copy = copy_of c.args.file in
    on_ok_weaker c.free_block.result
    (home_then copy m look now (e.accounts.time told) (c.free_block.ensures.accounts.time told)
    c.free_block.new.self.state.current
    (look_apart copy m look (e.only.looks.state told) (e.only.looks.during told)))
    (c.free_block.ensures.home told)
