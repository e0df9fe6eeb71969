use Rattle.std.proofs.Common.{refl, sym, subst, arith}
use Rattle.flash_disk.specs.Newest.{places}
use Rattle.flash_disk.specs.Does.{Does}
use Rattle.flash_disk.specs.Sound.{FitsIn}
use Rattle.flash_disk.specs.Standing.{DenotesFiles}
use Rattle.flash_disk.specs.KeepsApart.{KeepsApart}
use Rattle.flash_disk.specs.Apart.{copy_of, HoldsOneCopy}
use Rattle.flash_disk.proofs.Spreading.{light_enough}
use Rattle.flash_disk.proofs.Stretches.{does_nothing}
use Rattle.flash_disk.proofs.Moving.{stands_then, stands_now}
use Rattle.flash_disk.proofs.Holding.{none_apart, apart_then, home_then}
use Rattle.flash_disk.proofs.Gathering.{gathered_apart, gathered_home}
use Rattle.flash_disk.proofs.layer.Layer.collect.Goals as goal

pub returns-then-self-clause-does : goal.returns-then-self-clause-does
returns-then-self-clause-does g c told =
    let m = g.F.Flash.medium c.args.self.now.flash in
    let lawful = g.met.F.Flash.lawful c.args.self.now.flash in
    subst (λ f. Does (DenotesFiles m) m (g.F.Flash.medium f)) (sym c.fault.ensures.flash)
    (does_nothing m m (DenotesFiles m) refl (λ x past. lawful.only_now x past)
    (stands_now m c.args.self.now.state (c.requires.ready.sound told)))

pub returns-then-self-clause-apart : goal.returns-then-self-clause-apart
returns-then-self-clause-apart g c told =
    let m = g.F.Flash.medium c.args.self.now.flash in
    let copy = copy_of c.args.file in
    subst (λ f. KeepsApart copy m (g.F.Flash.medium f)) (sym c.fault.ensures.flash)
    (none_apart copy g.F.Flash.told m (g.met.F.Flash.lawful c.args.self.now.flash))

pub returns-then-victim-target-clause-fits : goal.returns-then-victim-target-clause-fits
returns-then-victim-target-clause-fits g c told file page len bytes fits =
    let u = c.find_own.new.self in
    let f = c.fault-then-victim-target in
    subst (λ k. FitsIn (g.F.Flash.medium k) f.new.self.state file page len bytes) (sym f.ensures.flash)
    (subst (λ s. FitsIn (g.F.Flash.medium u.flash) s file page len bytes) (sym f.ensures.state)
    (c.find_own.ensures.fits told file page len bytes fits))

pub returns-in_err-move_block-clause-fits : goal.returns-in_err-move_block-clause-fits
returns-in_err-move_block-clause-fits g c told file page len bytes fits =
    c.move_block.ensures.fits told file page len bytes (c.find_own.ensures.fits told file page len bytes fits)

pub returns-clause-fits : goal.returns-clause-fits
returns-clause-fits g c told file page len bytes fits =
    c.move_block.ensures.fits told file page len bytes (c.find_own.ensures.fits told file page len bytes fits)

pub returns-in_err-move_block-clause-does : goal.returns-in_err-move_block-clause-does
returns-in_err-move_block-clause-does g c told =
    stands_then (g.F.Flash.medium c.args.self.now.flash) (g.F.Flash.medium c.find_own.new.self.flash)
    (g.F.Flash.medium c.move_block.new.self.flash) (c.find_own.ensures.accounts.time told)
    (c.move_block.ensures.accounts.time told) (c.find_own.ensures.does told) (c.move_block.ensures.does told)

pub returns-clause-does : goal.returns-clause-does
returns-clause-does g c told =
    stands_then (g.F.Flash.medium c.args.self.now.flash) (g.F.Flash.medium c.find_own.new.self.flash)
    (g.F.Flash.medium c.move_block.new.self.flash) (c.find_own.ensures.accounts.time told)
    (c.move_block.ensures.accounts.time told) (c.find_own.ensures.does told) (c.move_block.ensures.does told)

pub returns-in_err-move_block-clause-apart : goal.returns-in_err-move_block-clause-apart
returns-in_err-move_block-clause-apart g c told =
    let m = g.F.Flash.medium c.args.self.now.flash in
    let mid = g.F.Flash.medium c.find_own.new.self.flash in
    let now = g.F.Flash.medium c.move_block.new.self.flash in
    let u = c.find_own.new.self.state in
    let copy = copy_of c.args.file in
    let own = c.in_ok-own.ensures in
    let first = c.find_own.ensures.accounts.time told in
    let second = c.move_block.ensures.accounts.time told in
    apart_then copy m mid now first second (c.find_own.ensures.apart told)
    (gathered_apart copy g.F.Flash.told mid now (g.met.F.Flash.lawful c.find_own.new.self.flash) told second u.table
    u.spare c.in_ok-own.own c.given_up-victim.result own.own_block (own.none told) c.given_up-victim.ensures.own
    (λ only. c.move_block.ensures.apart told copy copy only))

pub returns-clause-apart : goal.returns-clause-apart
returns-clause-apart g c told =
    let m = g.F.Flash.medium c.args.self.now.flash in
    let mid = g.F.Flash.medium c.find_own.new.self.flash in
    let now = g.F.Flash.medium c.move_block.new.self.flash in
    let u = c.find_own.new.self.state in
    let copy = copy_of c.args.file in
    let own = c.in_ok-own.ensures in
    let first = c.find_own.ensures.accounts.time told in
    let second = c.move_block.ensures.accounts.time told in
    apart_then copy m mid now first second (c.find_own.ensures.apart told)
    (gathered_apart copy g.F.Flash.told mid now (g.met.F.Flash.lawful c.find_own.new.self.flash) told second u.table
    u.spare c.in_ok-own.own c.given_up-victim.result own.own_block (own.none told) c.given_up-victim.ensures.own
    (λ only. c.move_block.ensures.apart told copy copy only))

pub returns-clause-home : goal.returns-clause-home
returns-clause-home g c told =
    let m = g.F.Flash.medium c.args.self.now.flash in
    let mid = g.F.Flash.medium c.find_own.new.self.flash in
    let now = g.F.Flash.medium c.move_block.new.self.flash in
    let u = c.find_own.new.self.state in
    let copy = copy_of c.args.file in
    let own = c.in_ok-own.ensures in
    let first = c.find_own.ensures.accounts.time told in
    let second = c.move_block.ensures.accounts.time told in
    let block = c.move_block.new.self.state.current in
    home_then copy m mid now first second block (c.find_own.ensures.apart told)
    (gathered_home copy g.F.Flash.told mid now (g.met.F.Flash.lawful c.find_own.new.self.flash) told second u.table
    u.spare c.in_ok-own.own c.given_up-victim.result own.own_block (own.none told) c.given_up-victim.ensures.own block
    (λ only. subst (λ b. HoldsOneCopy now.state.pages (places now.blocks) b copy)
    (sym c.in_ok-move_block.ensures.current) (c.in_ok-move_block.ensures.home told copy only)))

pub returns-clause-light : goal.returns-clause-light
returns-clause-light g c told =
    let mid = g.F.Flash.medium c.find_own.new.self.flash in
    let u = c.find_own.new.self.state in
    let victim = c.given_up-victim.result in
    let light = light_enough mid.blocks u.table u.spare victim (c.find_own.ensures.ready.sound told).counted
    c.given_up-victim.ensures.within c.given_up-victim.ensures.light in
    let fewest = light.2 in
    let few = c.in_ok-move_block.ensures.few told in
    omega (arith, fewest, few)
