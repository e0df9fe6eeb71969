use Rattle.std.proofs.Common.{length, refl, sym, ◌∙◌, subst, ⊎_elim, arith}
use Rattle.std.proofs.lemmas.Result.{on_ok_weaker}
use Rattle.flash_model.specs.State.{IsStill}
use Rattle.flash_disk.proofs.Writing.{on_ok_both, no_error, is_error, none_written, wipes_torn, wipes_then, len_wiped}
use Rattle.flash_disk.proofs.Writing.{grows_wiped, sound_announced, writes_into}
use Rattle.flash_disk.proofs.Stretches.{elapses_then}
use Rattle.flash_disk.proofs.Failing.{allowed, takes_pages}
use Rattle.flash_disk.specs.Apart.{copy_of}
use Rattle.flash_disk.proofs.Holding.{failed_apart, apart_then}
use Rattle.flash_disk.proofs.layer.Layer.write_within.Goals as goal

pub returns-then-is_err-clause-writes : goal.returns-then-is_err-clause-writes
returns-then-is_err-clause-writes g c told =
    let a = g.F.Flash.medium c.args.self.now.flash in
    let b = g.F.Flash.medium c.announce.new.self in
    let same = is_error c.announce.result (sym c.is_err.ensures.value ∙ c.if-is_err.true)
    (c.announce.ensures.failed told) in
    none_written a b c.args.file c.args.at c.args.bytes.now same
    (λ x past. ⊎_elim (λ is. is) (λ is. subst (λ z. IsStill z x) same is) (c.announce.ensures.during x past))

pub returns-in_err-wipe_strays-clause-writes : goal.returns-in_err-wipe_strays-clause-writes
returns-in_err-wipe_strays-clause-writes g c told =
    let a = g.F.Flash.medium c.args.self.now.flash in
    let b = g.F.Flash.medium c.announce.new.self in
    let w = g.F.Flash.medium c.wipe_strays.new.self.flash in
    let s = c.args.self.now.state in
    let e = c.wipe_strays.ensures in
    let announced = no_error c.announce.result (sym c.is_err.ensures.value ∙ c.if-is_err.false)
    (c.announce.ensures.state told) in
    writes_into c.args.file c.args.at c.args.bytes.now a b announced c.announce.ensures.time g.F.Flash.told told
    (g.met.F.Flash.lawful c.announce.new.self) s
    (c.requires.ready.sound told)
    c.announce.ensures.during w (e.adds.accounts.time told)
    (wipes_torn c.args.file c.args.at c.args.bytes.now b w (e.adds.accounts.time told) (e.does told))

pub write_pages-requires-clause-grows : goal.write_pages-requires-clause-grows
write_pages-requires-clause-grows g c told =
    let a = g.F.Flash.medium c.args.self.now.flash in
    let b = g.F.Flash.medium c.announce.new.self in
    let w = g.F.Flash.medium c.wipe_strays.new.self.flash in
    let s = c.args.self.now.state in
    let e = c.in_ok-wipe_strays.ensures in
    let announced = no_error c.announce.result (sym c.is_err.ensures.value ∙ c.if-is_err.false)
    (c.announce.ensures.state told) in
    let sound = sound_announced c.args.file c.args.at c.args.bytes.now a b announced c.announce.ensures.time s
    (c.requires.ready.sound told) in
    let len = c.len_of.ensures in
    let greater = c.max-len.ensures in
    grows_wiped c.args.file c.args.at c.args.bytes.now b w (e.adds.accounts.time told) (e.does told) s sound c.args.end
    c.max-len.result (omega (arith, len, greater)) (e.wiped told)

pub write_pages-requires-clause-len : goal.write_pages-requires-clause-len
write_pages-requires-clause-len g c told =
    let a = g.F.Flash.medium c.args.self.now.flash in
    let b = g.F.Flash.medium c.announce.new.self in
    let w = g.F.Flash.medium c.wipe_strays.new.self.flash in
    let s = c.args.self.now.state in
    let e = c.in_ok-wipe_strays.ensures in
    let announced = no_error c.announce.result (sym c.is_err.ensures.value ∙ c.if-is_err.false)
    (c.announce.ensures.state told) in
    let sound = sound_announced c.args.file c.args.at c.args.bytes.now a b announced c.announce.ensures.time s
    (c.requires.ready.sound told) in
    let known_is = len_wiped c.args.file c.args.at c.args.bytes.now b w (e.adds.accounts.time told) (e.does told) s
    sound in
    let len = c.len_of.ensures in
    let greater = c.max-len.ensures in
    let end = c.requires.end in
    omega (arith, len, greater, known_is, end)

pub returns-clause-writes : goal.returns-clause-writes
returns-clause-writes g c told =
    let a = g.F.Flash.medium c.args.self.now.flash in
    let b = g.F.Flash.medium c.announce.new.self in
    let w = g.F.Flash.medium c.wipe_strays.new.self.flash in
    let d = g.F.Flash.medium c.write_pages.new.self.flash in
    let s = c.args.self.now.state in
    let e = c.in_ok-wipe_strays.ensures in
    let f = c.write_pages.ensures in
    let announced = no_error c.announce.result (sym c.is_err.ensures.value ∙ c.if-is_err.false)
    (c.announce.ensures.state told) in
    writes_into c.args.file c.args.at c.args.bytes.now a b announced c.announce.ensures.time g.F.Flash.told told
    (g.met.F.Flash.lawful c.announce.new.self) s
    (c.requires.ready.sound told)
    c.announce.ensures.during d
    (elapses_then b w d (e.adds.accounts.time told) (f.adds.accounts.time told))
    (wipes_then c.args.file c.args.at c.args.bytes.now b w (e.adds.accounts.time told) (e.does told) d
    (f.adds.accounts.time told)
    (f.does told))

pub returns-clause-allowed : goal.returns-clause-allowed
returns-clause-allowed g c told =
    let a = g.F.Flash.medium c.args.self.now.flash in
    let s = c.args.self.now.state in
    on_ok_weaker c.write_pages.result
    (λ no_rivals. allowed a s c.args.file c.args.at (length c.args.bytes.now) c.args.end (c.requires.ready.sound told)
    c.requires.end c.requires.least
    c.requires.room (sym c.in_ok-wipe_strays.ensures.adds.accounts.has_rivals ∙ no_rivals c.requires.some))
    (c.write_pages.ensures.no_rivals told)

pub returns-clause-takes : goal.returns-clause-takes
returns-clause-takes g c told =
    let a = g.F.Flash.medium c.args.self.now.flash in
    let d = g.F.Flash.medium c.write_pages.new.self.flash in
    let f = c.write_pages.ensures in
    on_ok_both c.write_pages.result
    (λ sound takes. takes_pages a d c.args.self.now.state c.wipe_strays.new.self.state c.write_pages.new.self.state
    c.args.file c.args.at (length c.args.bytes.now)
    (c.requires.ready.sound told) sound (c.in_ok-wipe_strays.ensures.entries told) takes)
    (f.adds.stays.sound told) (f.takes told)

pub returns-then-is_err-clause-apart : goal.returns-then-is_err-clause-apart
returns-then-is_err-clause-apart g c told =
    failed_apart (copy_of c.args.file) (g.F.Flash.medium c.args.self.now.flash) (g.F.Flash.medium c.announce.new.self)
    c.announce.result _ (c.announce.ensures.state told) (c.announce.ensures.failed told) c.announce.ensures.during
    refl

pub returns-in_err-wipe_strays-clause-apart : goal.returns-in_err-wipe_strays-clause-apart
returns-in_err-wipe_strays-clause-apart g c told =
    let a = g.F.Flash.medium c.args.self.now.flash in
    let b = g.F.Flash.medium c.announce.new.self in
    let w = g.F.Flash.medium c.wipe_strays.new.self.flash in
    let e = c.wipe_strays.ensures in
    let copy = copy_of c.args.file in
    apart_then copy a b w c.announce.ensures.time (e.adds.accounts.time told)
    (failed_apart copy a b c.announce.result _ (c.announce.ensures.state told) (c.announce.ensures.failed told)
    c.announce.ensures.during refl) (e.apart told)

pub returns-clause-apart : goal.returns-clause-apart
returns-clause-apart g c told =
    let a = g.F.Flash.medium c.args.self.now.flash in
    let b = g.F.Flash.medium c.announce.new.self in
    let w = g.F.Flash.medium c.wipe_strays.new.self.flash in
    let d = g.F.Flash.medium c.write_pages.new.self.flash in
    let e = c.wipe_strays.ensures in
    let f = c.write_pages.ensures in
    let copy = copy_of c.args.file in
    apart_then copy a b d c.announce.ensures.time (elapses_then b w d (e.adds.accounts.time told)
    (f.adds.accounts.time told))
    (failed_apart copy a b c.announce.result _ (c.announce.ensures.state told) (c.announce.ensures.failed told)
    c.announce.ensures.during refl)
    (apart_then copy b w d (e.adds.accounts.time told) (f.adds.accounts.time told) (e.apart told) (f.apart told))

pub returns-clause-cleared : goal.returns-clause-cleared
returns-clause-cleared g c =
    on_ok_weaker c.write_pages.result (λ cleared. cleared c.requires.some) c.write_pages.ensures.cleared
