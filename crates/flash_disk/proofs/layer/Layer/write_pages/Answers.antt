use Rattle.std.proofs.Common.{◌+◌, ◌-◌, ◌/◌, ◌∙◌, length, take, drop, refl, sym, arith}
use Rattle.std.specs.Int.{div_ceil}
use Rattle.flash_disk.specs.Does.{Does}
use Rattle.flash_disk.specs.PutPart.{PutPart}
use Rattle.flash_disk.specs.Sound.{files_on, LeavesPut}
use Rattle.flash_disk.specs.Writes.{LeavesTorn}
use Rattle.flash_disk.proofs.Writing.{does_none, torn_nothing, wrote_nothing, wrote_more, torn_then, moved_there}
use Rattle.flash_disk.proofs.Writing.{wrote_all}
use Rattle.flash_disk.proofs.Affording.{affords_place, affords_more, as_many}
use Rattle.flash_disk.proofs.Accounting.{counted_none, counted_on}
use Rattle.flash_disk.proofs.Steps.{adds_fail, adds_then}
use Rattle.flash_disk.specs.Apart.{copy_of}
use Rattle.flash_disk.proofs.Holding.{none_apart, apart_then}
use Rattle.flash_disk.proofs.layer.Layer.write_pages.Goals as goal

pub loop-done-init : goal.loop-done-init
loop-done-init g c =
    let a = g.F.Flash.medium c.args.self.now.flash in
    let s = c.args.self.now.state in
    let r = c.requires in
    let lawful = g.met.F.Flash.lawful c.args.self.now.flash in record {
      within = omega arith;
      ready = r.ready;
      wrote = λ told. wrote_nothing a c.args.file c.args.at c.args.bytes.now c.args.len
          (let len = r.len told in omega (arith, len)) (r.grows told);
      does = λ told. does_none g.F.Flash.told a lawful (LeavesTorn c.args.file c.args.at (length c.args.bytes.now) a)
          (torn_nothing a s (r.ready.sound told) c.args.file c.args.at (length c.args.bytes.now));
      apart = λ told. none_apart (copy_of c.args.file) g.F.Flash.told a lawful;
      numbered = omega arith;
      counts = counted_none 0 c.args.self.now lawful;
      no_rivals = λ told some. absurd (omega (arith, some));
      cleared = λ some. absurd (omega (arith, some));
      affords = r.affords;
      as_many = λ told. refl;
    }

pub returns-in_err-write_page-clause-does : goal.returns-in_err-write_page-clause-does
returns-in_err-write_page-clause-does g c told =
    let a = g.F.Flash.medium c.args.self.now.flash in
    let b = g.F.Flash.medium c.loop-done.self.flash in
    let d = g.F.Flash.medium c.write_page.new.self.flash in
    let i = c.loop-done.invariant in
    let e = c.write_page.ensures in
    let done = c.loop-done.done in
    let count = c.min-count.result in
    let start = c.args.at + done in
    torn_then a b c.args.file c.args.at c.args.bytes.now c.args.len done (i.wrote told) count d (omega arith)
    (omega arith) (c.requires.len told)
    (i.counts.time told) (e.adds.accounts.time told) (i.does told)
    (moved_there (λ p k. Does (LeavesPut c.args.file p (take k (drop done c.args.bytes.now)) c.args.len b) b d) start
    done count (e.does told))

pub loop-done-preserved : goal.loop-done-preserved
loop-done-preserved g c =
    let a = g.F.Flash.medium c.args.self.now.flash in
    let b = g.F.Flash.medium c.loop-done.self.flash in
    let d = g.F.Flash.medium c.write_page.new.self.flash in
    let i = c.loop-done.invariant in
    let e = c.in_ok-write_page.ensures in
    let done = c.loop-done.done in
    let count = c.min-count.result in
    let start = c.args.at + done in record {
      within = omega arith;
      ready = record { sure = e.adds.stays.sure; sound = e.adds.stays.sound };
      wrote = λ told. wrote_more a b c.args.file c.args.at c.args.bytes.now c.args.len done (i.wrote told) count d
          (omega arith)
          (moved_there (λ p k. PutPart c.args.file p (take k (drop done c.args.bytes.now)) c.args.len (files_on b)
          (files_on d)) start done count (e.put told));
      does = λ told. torn_then a b c.args.file c.args.at c.args.bytes.now c.args.len done (i.wrote told) count d
          (omega arith) (omega arith) (c.requires.len told)
          (i.counts.time told) (e.adds.accounts.time told) (i.does told)
          (moved_there (λ p k. Does (LeavesPut c.args.file p (take k (drop done c.args.bytes.now)) c.args.len b) b d)
          start done count (e.does told));
      apart = λ told. apart_then (copy_of c.args.file) a b d (i.counts.time told) (e.adds.accounts.time told)
          (i.apart told) (e.apart told);
      numbered = (let before = i.numbered in let on = e.rises in let few =
          c.min-count.ensures in omega (arith, before, on, few));
      counts = counted_on done 1 (done + count) (let few = c.min-count.ensures in omega (arith, few))
          i.counts e.adds.accounts;
      affords = λ told. affords_more c.args.file (c.args.at / 256) c.loop-done.self.state.table
          c.write_page.new.self.state.table
          (div_ceil (c.args.at + length c.args.bytes.now) 256 - c.args.at / 256) (start / 256 - c.args.at / 256)
          (start / 256) (omega arith) (omega arith)
          (e.entries told) (i.affords told);
      no_rivals = λ told some. sym i.counts.has_rivals ∙ e.no_rivals told;
      cleared = λ some. e.cleared;
      as_many = λ told. as_many c.args.file (c.args.at / 256) c.loop-done.self.state.table
          c.write_page.new.self.state.table
          (div_ceil (c.args.at + length c.args.bytes.now) 256 - c.args.at / 256) (start / 256 - c.args.at / 256)
          (start / 256) (omega arith) (omega arith)
          (e.entries told) ∙ i.as_many told;
    }

pub returns-clause-put : goal.returns-clause-put
returns-clause-put g c told some =
    let a = g.F.Flash.medium c.args.self.now.flash in
    let b = g.F.Flash.medium c.loop-done.self.flash in
    let i = c.loop-done.invariant in
    let within = i.within in
    let past = c.loop-done-test.false in
    wrote_all a b c.args.file c.args.at c.args.bytes.now c.args.len c.loop-done.done (i.wrote told)
    (omega (arith, within, past)) some (c.requires.len told)

pub write_page-requires-clause-place : goal.write_page-requires-clause-place
write_page-requires-clause-place g c told =
    let start = c.args.at + c.loop-done.done in
    affords_place c.args.file (c.args.at / 256) c.loop-done.self.state.table
    (div_ceil (c.args.at + length c.args.bytes.now) 256 - c.args.at / 256)
    (start / 256 - c.args.at / 256) (start / 256) (c.loop-done.invariant.affords told) (omega arith) (omega arith)

pub returns-in_err-write_page-clause-adds : goal.returns-in_err-write_page-clause-adds
returns-in_err-write_page-clause-adds g c = adds_fail c.from_residual.result _ c.from_residual.ensures.1
    (adds_then c.loop-done.done 1 (length c.args.bytes.now) (omega arith) c.loop-done.invariant.counts
    c.in_err-write_page.ensures.adds)

pub returns-in_err-write_page-clause-apart : goal.returns-in_err-write_page-clause-apart
returns-in_err-write_page-clause-apart g c told =
    let a = g.F.Flash.medium c.args.self.now.flash in
    let b = g.F.Flash.medium c.loop-done.self.flash in
    let d = g.F.Flash.medium c.write_page.new.self.flash in
    let i = c.loop-done.invariant in
    let e = c.write_page.ensures in
    apart_then (copy_of c.args.file) a b d (i.counts.time told) (e.adds.accounts.time told) (i.apart told)
    (e.apart told)

pub returns-clause-cleared : goal.returns-clause-cleared
returns-clause-cleared g c some =
    let past = c.loop-done-test.false in c.loop-done.invariant.cleared (omega (arith, past, some))
