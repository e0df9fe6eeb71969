use Rattle.std.proofs.Common.{◌≡◌, ◌*◌, length, sym, ◌∙◌, subst, arith}
use Rattle.flash_disk.specs.PutPart.{PutPart}
use Rattle.flash_disk.specs.Standing.{DenotesFiles}
use Rattle.flash_disk.specs.Sound.{files_on}
use Rattle.flash_disk.proofs.Writing.{on_ok_both, stands, does_none, files_seen, fits_seen, shown_seen, does_after_look}
use Rattle.flash_disk.proofs.Writing.{wiped_none, wiped_within, stray_fits, stands_still, wiped_by}
use Rattle.flash_disk.proofs.Stretches.{does_nothing}
use Rattle.flash_disk.proofs.Steps.{adds_then}
use Rattle.flash_disk.specs.Apart.{copy_of}
use Rattle.flash_disk.proofs.Holding.{none_apart, look_apart, apart_then}
use Rattle.flash_disk.proofs.layer.Layer.wipe_stray.Goals as goal

pub returns-in_default-clause-wiped : goal.returns-in_default-clause-wiped
returns-in_default-clause-wiped g c told =
    let a = g.F.Flash.medium c.args.self.now.flash in
    wiped_none a c.args.self.now.state (c.requires.ready.sound told) c.args.file c.args.page c.args.len
    (c.requires.len told)
    (sym c.find.ensures ∙ c.in_default.is)

pub returns-in_default-clause-does : goal.returns-in_default-clause-does
returns-in_default-clause-does g c told =
    let a = g.F.Flash.medium c.args.self.now.flash in
    does_none g.F.Flash.told a (g.met.F.Flash.lawful c.args.self.now.flash) (DenotesFiles a)
    (stands a c.args.self.now.state (c.requires.ready.sound told))

pub returns-then-end_of_bytes-len-clause-wiped : goal.returns-then-end_of_bytes-len-clause-wiped
returns-then-end_of_bytes-len-clause-wiped g c told =
    let a = g.F.Flash.medium c.args.self.now.flash in
    let within = c.if-end_of_bytes-len.true in
    wiped_within a c.args.self.now.state (c.requires.ready.sound told) c.args.file c.args.page c.args.len
    (c.requires.len told) c.in-Some.newest
    (sym c.find.ensures ∙ c.in-Some.is)
    (λ some. let ends = c.end_of_bytes.ensures (omega arith) some in omega (arith, ends, within))

pub returns-then-end_of_bytes-len-clause-does : goal.returns-then-end_of_bytes-len-clause-does
returns-then-end_of_bytes-len-clause-does g c told =
    let a = g.F.Flash.medium c.args.self.now.flash in
    does_none g.F.Flash.told a (g.met.F.Flash.lawful c.args.self.now.flash) (DenotesFiles a)
    (stands a c.args.self.now.state (c.requires.ready.sound told))

pub returns-in_err-content-clause-does : goal.returns-in_err-content-clause-does
returns-in_err-content-clause-does g c told =
    let a = g.F.Flash.medium c.args.self.now.flash in
    let b = g.F.Flash.medium c.content.new.self.flash in
    let e = c.in_err-content.ensures.reads.only in
    does_nothing a b (DenotesFiles a) (e.looks.state told) (e.looks.during told)
    (stands a c.args.self.now.state (c.requires.ready.sound told))

pub append-requires-clause-fits : goal.append-requires-clause-fits
append-requires-clause-fits g c told =
    let a = g.F.Flash.medium c.args.self.now.flash in
    let b = g.F.Flash.medium c.content.new.self.flash in
    let s = c.args.self.now.state in
    let e = c.in_ok-content.ensures.reads.only in
    let sound = c.requires.ready.sound told in
    fits_seen a b (e.looks.state told) e.blocks s c.content.new.self.state c.in_ok-content.ensures.reads.state
    c.args.file c.args.page c.args.len
    c.in_ok-content.content
    (stray_fits a s sound c.args.file c.args.page c.args.len (c.requires.len told) c.in_ok-content.content
    (c.in_ok-content.ensures.bytes told sound.knows)
    c.in-Some.newest (sym c.find.ensures ∙ c.in-Some.is))

pub returns-clause-wiped : goal.returns-clause-wiped
returns-clause-wiped g c told =
    let a = g.F.Flash.medium c.args.self.now.flash in
    let b = g.F.Flash.medium c.content.new.self.flash in
    let d = g.F.Flash.medium c.append.new.self.flash in
    let s = c.args.self.now.state in
    let e = c.in_ok-content.ensures.reads.only in
    let sound = c.requires.ready.sound told in
    let was = c.in_ok-content.content in
    let full : length was ≡ 256 = omega arith in
    on_ok_both c.append.result
    (λ part shown. wiped_by a s sound c.args.file c.args.page c.args.len (c.requires.len told) was
    (c.in_ok-content.ensures.bytes told sound.knows) d full
    (subst (λ f. PutPart c.args.file (256 * c.args.page) was c.args.len f (files_on d))
    (files_seen a b (e.looks.state told) e.blocks) part)
    (shown_seen a b (e.looks.state told) e.blocks d c.args.file c.args.page was shown))
    (c.append.ensures.put told) (c.append.ensures.shown told)

pub returns-clause-does : goal.returns-clause-does
returns-clause-does g c told =
    let a = g.F.Flash.medium c.args.self.now.flash in
    let b = g.F.Flash.medium c.content.new.self.flash in
    let d = g.F.Flash.medium c.append.new.self.flash in
    let s = c.args.self.now.state in
    let e = c.in_ok-content.ensures.reads.only in
    let sound = c.requires.ready.sound told in
    let was = c.in_ok-content.content in
    let full : length was ≡ 256 = omega arith in
    does_after_look a b (e.looks.state told) e.blocks DenotesFiles c.args.file (256 * c.args.page) was c.args.len d
    (stands_still a s sound c.args.file c.args.page c.args.len (c.requires.len told) was
    (c.in_ok-content.ensures.bytes told sound.knows)
    full)
    (stands a s sound) (e.looks.time told) (c.append.ensures.adds.accounts.time told) (e.looks.during told)
    (c.append.ensures.does told)

pub returns-clause-adds : goal.returns-clause-adds
returns-clause-adds g c = adds_then 0 1 1 (omega arith) c.in_ok-content.ensures.reads.accounts c.append.ensures.adds

pub returns-in_default-clause-apart : goal.returns-in_default-clause-apart
returns-in_default-clause-apart g c told =
    none_apart (copy_of c.args.file) g.F.Flash.told (g.F.Flash.medium c.args.self.now.flash)
    (g.met.F.Flash.lawful c.args.self.now.flash)

pub returns-then-end_of_bytes-len-clause-apart : goal.returns-then-end_of_bytes-len-clause-apart
returns-then-end_of_bytes-len-clause-apart g c told =
    none_apart (copy_of c.args.file) g.F.Flash.told (g.F.Flash.medium c.args.self.now.flash)
    (g.met.F.Flash.lawful c.args.self.now.flash)

pub returns-in_err-content-clause-apart : goal.returns-in_err-content-clause-apart
returns-in_err-content-clause-apart g c told =
    let e = c.in_err-content.ensures.reads.only in
    look_apart (copy_of c.args.file) (g.F.Flash.medium c.args.self.now.flash)
    (g.F.Flash.medium c.content.new.self.flash) (e.looks.state told) (e.looks.during told)

pub returns-clause-apart : goal.returns-clause-apart
returns-clause-apart g c told =
    let a = g.F.Flash.medium c.args.self.now.flash in
    let b = g.F.Flash.medium c.content.new.self.flash in
    let d = g.F.Flash.medium c.append.new.self.flash in
    let e = c.in_ok-content.ensures.reads.only in
    let copy = copy_of c.args.file in
    apart_then copy a b d (e.looks.time told) (c.append.ensures.adds.accounts.time told)
    (look_apart copy a b (e.looks.state told) (e.looks.during told)) (c.append.ensures.apart told)
