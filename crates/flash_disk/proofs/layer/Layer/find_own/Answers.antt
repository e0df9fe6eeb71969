use Rattle.std.proofs.Common.{◌≤◌, ◌<◌, ◌≡◌, refl, sym, ◌∙◌, arith}
use Rattle.flash_disk.specs.Standing.{DenotesFiles}
use Rattle.flash_disk.specs.Apart.{copy_of}
use Rattle.flash_disk.proofs.Filled.{none_lead}
use Rattle.flash_disk.proofs.Gathering.{no_room}
use Rattle.flash_disk.proofs.Holding.{none_apart}
use Rattle.flash_disk.proofs.Joins.{pair_room}
use Rattle.flash_disk.proofs.Moving.{stands_now}
use Rattle.flash_disk.proofs.Stretches.{does_nothing}
use Rattle.flash_disk.proofs.layer.Layer.find_own.Goals as goal

pub returns-then-own-self-clause-does : goal.returns-then-own-self-clause-does
returns-then-own-self-clause-does g c told =
    let m = g.F.Flash.medium c.args.self.now.flash in
    let lawful = g.met.F.Flash.lawful c.args.self.now.flash in
    does_nothing m m (DenotesFiles m) refl (λ x past. lawful.only_now x past)
    (stands_now m c.args.self.now.state (c.requires.ready.sound told))

pub returns-then-own-self-clause-apart : goal.returns-then-own-self-clause-apart
returns-then-own-self-clause-apart g c told = none_apart (copy_of c.args.file) g.F.Flash.told
    (g.F.Flash.medium c.args.self.now.flash) (g.met.F.Flash.lawful c.args.self.now.flash)

pub returns-in_default-clause-none : goal.returns-in_default-clause-none
returns-in_default-clause-none g c told same many =
    let m = g.F.Flash.medium c.args.self.now.flash in
    let s = c.args.self.now.state in
    let sound = c.requires.ready.sound told in
    let l = c.lightest-own.ensures in
    let blocks_are = sound.counted.blocks_are in
    let few = sound.counted.few in
    let big : 16 ≤ s.table.blocks = omega (arith, many, blocks_are) in
    let small : s.table.blocks ≤ 4096 = omega (arith, few, blocks_are) in
    no_room m s sound (copy_of c.args.file) (l.unique big) (l.none big small same)
    (c.find_pair.ensures.none big small c.in_default.is)

pub returns-in_default-clause-apart : goal.returns-in_default-clause-apart
returns-in_default-clause-apart g c told = none_apart (copy_of c.args.file) g.F.Flash.told
    (g.F.Flash.medium c.args.self.now.flash) (g.met.F.Flash.lawful c.args.self.now.flash)

pub returns-in_err-join-clause-apart : goal.returns-in_err-join-clause-apart
returns-in_err-join-clause-apart g c told = c.join.ensures.apart told (copy_of c.args.file)

pub returns-clause-none : goal.returns-clause-none
returns-clause-none g c told same many =
    let m = g.F.Flash.medium c.args.self.now.flash in
    let now = g.F.Flash.medium c.join.new.self.flash in
    let s = c.args.self.now.state in
    let t = c.join.new.self.state in
    let first = c.in-Some.first in
    let second = c.in-Some.second in
    let sound = c.join.ensures.ready.sound told in
    let pair = c.in-Some.ensures.pair in
    let room = pair_room m.blocks s.table s.spare first second (c.requires.ready.sound told).counted pair in
    let l = c.lightest-joined.ensures in
    let blocks_are = sound.counted.blocks_are in
    let few = sound.counted.few in
    let big : 16 ≤ t.table.blocks = omega (arith, many, blocks_are) in
    let small : t.table.blocks ≤ 4096 = omega (arith, few, blocks_are) in
    let out = c.in_ok-join.ensures.out told in
    let before = room.0 in
    let same_blocks = (c.join.ensures.accounts.time told).blocks in
    let below : second < now.blocks = omega (arith, before, same_blocks) in
    let inside : second < t.table.blocks = omega (arith, below, blocks_are) in
    let heavy = l.none big small same second inside
    (λ is. pair.apart (sym (is ∙ c.in_ok-join.ensures.spare)))
    (λ key e found at. absurd (out key e found at)) in
    let load = sound.counted.counts second below in
    let zero = none_lead t.table second (l.unique big) out in
    absurd (omega (arith, heavy, load, zero))

pub returns-clause-apart : goal.returns-clause-apart
returns-clause-apart g c told = c.join.ensures.apart told (copy_of c.args.file)
