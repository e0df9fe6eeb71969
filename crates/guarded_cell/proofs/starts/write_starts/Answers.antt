use Rattle.std.proofs.Common.{◌≡◌, ◌∙◌, ℕ, true, false, get_or, ap, subst, rules, arith}
use Rattle.disk_model.specs.Image.{put_image}
use Rattle.disk_model.specs.Case.{WriteOrNot, Follows}
use Rattle.disk_model.specs.Laws.{elapses_on}
use Rattle.guarded_cell.proofs.Writing.{writing_writes, cut_during, cut_none}
use Rattle.guarded_cell.proofs.starts.write_starts.Goals as goal

pub returns-in_err-write_at-clause-during : goal.returns-in_err-write_at-clause-during
returns-in_err-write_at-clause-during g c =
    let mid = g.D.Disk.medium c.loop-copy.disk in
    let new = g.D.Disk.medium c.write_at.new.self in
    let flag : get_or c.args.chosen.now c.loop-copy.copy false ≡ true = search rules in
    let write = subst (λ (f : ℕ). Follows (WriteOrNot f 0 c.args.bytes.now) mid.now (new.since mid.moment))
    c.slot.ensures c.write_at.ensures.during in
    cut_during c.args.place c.args.parity c.args.chosen.now c.args.bytes.now c.loop-copy.copy
    (omega arith) flag
    (g.met.D.Disk.lawful c.loop-copy.disk) c.loop-copy.invariant write c.write_at.ensures.time

pub returns-in_err-write_at-clause-none : goal.returns-in_err-write_at-clause-none
returns-in_err-write_at-clause-none g c =
    let flag : get_or c.args.chosen.now c.loop-copy.copy false ≡ true = search rules in
    cut_none c.args.place c.args.parity c.args.chosen.now c.args.bytes.now
    (g.D.Disk.medium c.args.disk.now) (g.D.Disk.medium c.write_at.new.self) c.loop-copy.copy (omega arith) flag

pub loop-copy-preserved : goal.loop-copy-preserved
loop-copy-preserved g c =
    let mid = g.D.Disk.medium c.loop-copy.disk in
    let new = g.D.Disk.medium c.write_at.new.self in
    let flag : get_or c.args.chosen.now c.loop-copy.copy false ≡ true = search rules in
    let write = subst (λ (f : ℕ). Follows (WriteOrNot f 0 c.args.bytes.now) mid.now (new.since mid.moment))
    c.slot.ensures c.write_at.ensures.during in
    writing_writes c.args.place c.args.parity c.args.chosen.now c.args.bytes.now
    c.loop-copy.copy (omega arith) flag
    (g.met.D.Disk.lawful c.loop-copy.disk) c.loop-copy.invariant
    (λ tells. c.in_ok-write_at.ensures.image tells ∙ ap (λ (f : ℕ). put_image mid.image f 0 c.args.bytes.now)
    c.slot.ensures)
    write c.write_at.ensures.at_most c.write_at.ensures.time c.in_ok-write_at.ensures.passes

pub returns-in_err-write_at-clause-time : goal.returns-in_err-write_at-clause-time
returns-in_err-write_at-clause-time g c = elapses_on c.loop-copy.invariant.time c.write_at.ensures.time

pub returns-clause-time : goal.returns-clause-time
returns-clause-time g c = c.loop-copy.invariant.time

pub returns-in_err-write_at-clause-faults : goal.returns-in_err-write_at-clause-faults
returns-in_err-write_at-clause-faults g c = record { cause = search rules; passes = search rules }

pub returns-clause-faults : goal.returns-clause-faults
returns-clause-faults g c = record { cause = search rules; passes = search rules }
