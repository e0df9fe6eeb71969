use Rattle.std.proofs.Common.{◌+◌, ◌/◌, ◌∙◌, arith}
use Rattle.flash_disk.specs.Standing.{DenotesFiles}
use Rattle.flash_disk.proofs.Writing.{stands, does_none, stands_then, wiped_start, wiped_more, wiped_nowhere, len_still}
use Rattle.flash_disk.proofs.Entries.{same_entries, same_entries_then}
use Rattle.flash_disk.proofs.Accounting.{counted_none, counted_on}
use Rattle.flash_disk.proofs.Steps.{adds_fail, adds_then}
use Rattle.std.specs.Int.{div_ceil}
use Rattle.flash_disk.specs.Apart.{copy_of}
use Rattle.flash_disk.proofs.Holding.{none_apart, apart_then}
use Rattle.flash_disk.proofs.layer.Layer.wipe_strays.Goals as goal

pub returns-then-end-len-clause-wiped : goal.returns-then-end-len-clause-wiped
returns-then-end-len-clause-wiped g c told =
    let s = c.args.self.now.state in
    let end = c.min-end.ensures in
    let len = c.len_of-len.ensures in
    let within = c.if-end-len.true in
    wiped_nowhere (g.F.Flash.medium c.args.self.now.flash) s (c.requires.ready.sound told) c.args.file c.args.until
    (omega (arith, end, len, within))

pub returns-then-end-len-clause-does : goal.returns-then-end-len-clause-does
returns-then-end-len-clause-does g c told =
    let a = g.F.Flash.medium c.args.self.now.flash in
    does_none g.F.Flash.told a (g.met.F.Flash.lawful c.args.self.now.flash) (DenotesFiles a)
    (stands a c.args.self.now.state (c.requires.ready.sound told))

pub loop-page-init : goal.loop-page-init
loop-page-init g c =
    let a = g.F.Flash.medium c.args.self.now.flash in
    let s = c.args.self.now.state in
    let lawful = g.met.F.Flash.lawful c.args.self.now.flash in record {
      ready = c.requires.ready;
      wiped = λ told. wiped_start a s (c.requires.ready.sound told) c.args.file (c.len_of-len.result / 256)
          (let len = c.len_of-len.ensures in omega (arith, len));
      does = λ told. does_none g.F.Flash.told a lawful (DenotesFiles a) (stands a s (c.requires.ready.sound told));
      apart = λ told. none_apart (copy_of c.args.file) g.F.Flash.told a lawful;
      counts = counted_none (c.len_of-len.result / 256) c.args.self.now lawful;
      entries = λ told. same_entries s.table;
    }

pub wipe_stray-requires-clause-len : goal.wipe_stray-requires-clause-len
wipe_stray-requires-clause-len g c told =
    let a = g.F.Flash.medium c.args.self.now.flash in
    let b = g.F.Flash.medium c.loop-page.self.flash in
    let i = c.loop-page.invariant in
    let wiped = i.wiped told in
    c.len_of-len.ensures ∙ len_still a b c.args.self.now.state c.loop-page.self.state (c.requires.ready.sound told)
    (i.ready.sound told) c.args.file (wiped.len c.args.file)

pub returns-in_err-wipe_stray-clause-does : goal.returns-in_err-wipe_stray-clause-does
returns-in_err-wipe_stray-clause-does g c told =
    let a = g.F.Flash.medium c.args.self.now.flash in
    let b = g.F.Flash.medium c.loop-page.self.flash in
    let d = g.F.Flash.medium c.wipe_stray.new.self.flash in
    let i = c.loop-page.invariant in
    let e = c.wipe_stray.ensures in
    stands_then a b (i.counts.time told) d (e.adds.accounts.time told) (i.does told) (e.does told)

pub loop-page-preserved : goal.loop-page-preserved
loop-page-preserved g c =
    let a = g.F.Flash.medium c.args.self.now.flash in
    let b = g.F.Flash.medium c.loop-page.self.flash in
    let d = g.F.Flash.medium c.wipe_stray.new.self.flash in
    let i = c.loop-page.invariant in
    let e = c.in_ok-wipe_stray.ensures in record {
      ready = record { sure = e.adds.stays.sure; sound = e.adds.stays.sound };
      wiped = λ told. wiped_more a b c.args.file c.loop-page.page c.args.self.now.state.stray_end (i.wiped told) d
          (e.wiped told);
      does = λ told. stands_then a b (i.counts.time told) d (e.adds.accounts.time told) (i.does told) (e.does told);
      apart = λ told. apart_then (copy_of c.args.file) a b d (i.counts.time told) (e.adds.accounts.time told)
          (i.apart told) (e.apart told);
      counts = counted_on c.loop-page.page 1 (c.loop-page.page + 1) (omega arith) i.counts e.adds.accounts;
      entries = λ told. same_entries_then c.args.self.now.state.table c.loop-page.self.state.table
          c.wipe_stray.new.self.state.table (i.entries told) (e.entries told);
    }

pub returns-in_err-wipe_stray-clause-adds : goal.returns-in_err-wipe_stray-clause-adds
returns-in_err-wipe_stray-clause-adds g c = adds_fail c.from_residual.result _ c.from_residual.ensures.1
    (adds_then c.loop-page.page 1 (div_ceil c.args.until 256) (omega arith) c.loop-page.invariant.counts
    c.in_err-wipe_stray.ensures.adds)

pub returns-then-end-len-clause-apart : goal.returns-then-end-len-clause-apart
returns-then-end-len-clause-apart g c told =
    none_apart (copy_of c.args.file) g.F.Flash.told (g.F.Flash.medium c.args.self.now.flash)
    (g.met.F.Flash.lawful c.args.self.now.flash)

pub returns-in_err-wipe_stray-clause-apart : goal.returns-in_err-wipe_stray-clause-apart
returns-in_err-wipe_stray-clause-apart g c told =
    let a = g.F.Flash.medium c.args.self.now.flash in
    let b = g.F.Flash.medium c.loop-page.self.flash in
    let d = g.F.Flash.medium c.wipe_stray.new.self.flash in
    let i = c.loop-page.invariant in
    let e = c.wipe_stray.ensures in
    apart_then (copy_of c.args.file) a b d (i.counts.time told) (e.adds.accounts.time told) (i.apart told)
    (e.apart told)
