use Rattle.std.proofs.Common.{◌≡◌, ◌*◌, ◌+◌, length, subst, arith}
use Rattle.std.proofs.lemmas.Result.{on_ok_weaker}
use Rattle.flash_disk.specs.PutPart.{PutPart}
use Rattle.flash_disk.specs.Sound.{files_on, LeavesPut}
use Rattle.flash_disk.proofs.Writing.{leaves_nothing, files_seen, fits_seen, does_after_look, page_fits, page_narrower}
use Rattle.flash_disk.proofs.Writing.{leaves_narrower}
use Rattle.flash_disk.proofs.Stretches.{does_nothing}
use Rattle.flash_disk.proofs.Steps.{adds_then}
use Rattle.flash_disk.specs.Apart.{copy_of}
use Rattle.flash_disk.proofs.Holding.{look_apart, apart_then}
use Rattle.flash_disk.proofs.layer.Layer.write_page.Goals as goal

pub returns-in_err-content-clause-does : goal.returns-in_err-content-clause-does
returns-in_err-content-clause-does g c told =
    let a = g.F.Flash.medium c.args.self.now.flash in
    let b = g.F.Flash.medium c.content.new.self.flash in
    let at = 256 * c.args.page + c.args.from in
    let e = c.in_err-content.ensures.reads.only in
    let nothing = leaves_nothing a c.args.self.now.state (c.requires.ready.sound told) c.args.file at c.args.bytes.now
    c.args.len in
    does_nothing a b (LeavesPut c.args.file at c.args.bytes.now c.args.len a) (e.looks.state told) (e.looks.during told)
    nothing

pub append-requires-clause-fits : goal.append-requires-clause-fits
append-requires-clause-fits g c told =
    let a = g.F.Flash.medium c.args.self.now.flash in
    let b = g.F.Flash.medium c.content.new.self.flash in
    let s = c.args.self.now.state in
    let r = c.requires in
    let e = c.in_ok-content.ensures.reads.only in
    let sound = r.ready.sound told in
    let copied = c.copy_part.ensures in
    let fits = page_fits a c.args.file c.args.page c.in_ok-content.content
    (c.in_ok-content.ensures.bytes told sound.knows)
    c.args.from c.args.len c.args.bytes.now c.copy_part.new.out copied.inside copied.before copied.after s
    (r.place told) r.end (r.no_shorter told) (r.grows told) in
    fits_seen a b (e.looks.state told) e.blocks s c.content.new.self.state c.in_ok-content.ensures.reads.state
    c.args.file c.args.page c.args.len
    c.copy_part.new.out fits

pub returns-clause-put : goal.returns-clause-put
returns-clause-put g c told =
    let a = g.F.Flash.medium c.args.self.now.flash in
    let b = g.F.Flash.medium c.content.new.self.flash in
    let d = g.F.Flash.medium c.append.new.self.flash in
    let e = c.in_ok-content.ensures.reads.only in
    let sound = c.requires.ready.sound told in
    let copied = c.copy_part.ensures in
    let full : length c.copy_part.new.out ≡ 256 = omega arith in
    on_ok_weaker c.append.result
    (λ put. page_narrower a c.args.file c.args.page c.in_ok-content.content
    (c.in_ok-content.ensures.bytes told sound.knows)
    c.args.from c.args.len c.args.bytes.now c.copy_part.new.out copied.inside copied.before copied.after (files_on d)
    full c.requires.within
    (subst (λ f. PutPart c.args.file (256 * c.args.page) c.copy_part.new.out c.args.len f (files_on d))
    (files_seen a b (e.looks.state told) e.blocks) put))
    (c.append.ensures.put told)

pub returns-clause-does : goal.returns-clause-does
returns-clause-does g c told =
    let a = g.F.Flash.medium c.args.self.now.flash in
    let b = g.F.Flash.medium c.content.new.self.flash in
    let d = g.F.Flash.medium c.append.new.self.flash in
    let e = c.in_ok-content.ensures.reads.only in
    let at = 256 * c.args.page + c.args.from in
    let sound = c.requires.ready.sound told in
    let copied = c.copy_part.ensures in
    let full : length c.copy_part.new.out ≡ 256 = omega arith in
    does_after_look a b (e.looks.state told) e.blocks (LeavesPut c.args.file at c.args.bytes.now c.args.len) c.args.file
    (256 * c.args.page) c.copy_part.new.out c.args.len d
    (leaves_narrower a c.args.file c.args.page c.in_ok-content.content (c.in_ok-content.ensures.bytes told sound.knows)
    c.args.from c.args.len c.args.bytes.now c.copy_part.new.out copied.inside copied.before copied.after full
    c.requires.within)
    (leaves_nothing a c.args.self.now.state sound c.args.file at c.args.bytes.now c.args.len)
    (e.looks.time told) (c.append.ensures.adds.accounts.time told) (e.looks.during told) (c.append.ensures.does told)

pub returns-clause-adds : goal.returns-clause-adds
returns-clause-adds g c = adds_then 0 1 1 (omega arith) c.in_ok-content.ensures.reads.accounts c.append.ensures.adds

pub returns-in_err-content-clause-apart : goal.returns-in_err-content-clause-apart
returns-in_err-content-clause-apart g c told =
    let e = c.in_err-content.ensures.reads.only in
    look_apart (copy_of c.args.file) (g.F.Flash.medium c.args.self.now.flash)
    (g.F.Flash.medium c.content.new.self.flash) (e.looks.state told) (e.looks.during told)

pub returns-clause-apart : goal.returns-clause-apart
returns-clause-apart g c told =
    let a = g.F.Flash.medium c.args.self.now.flash in
    let b = g.F.Flash.medium c.content.new.self.flash in
    let d = g.F.Flash.medium c.append.new.self.flash in
    let e = c.in_ok-content.ensures.reads.only in
    let copy = copy_of c.args.file in
    apart_then copy a b d (e.looks.time told) (c.append.ensures.adds.accounts.time told)
    (look_apart copy a b (e.looks.state told) (e.looks.during told)) (c.append.ensures.apart told)
