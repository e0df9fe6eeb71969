use Rattle.std.proofs.Common.{◌≡◌, ◌∙◌, ◌+◌, ◌≤◌, ℕ, true, false, get_or, ap, subst, rules, arith, IsTrue}
use Rattle.disk_model.specs.Image.{put_image}
use Rattle.disk_model.specs.Case.{Follows}
use Rattle.changed_runs.specs.Parts.{HasNoFailedWrite}
use Rattle.disk_model.specs.Laws.{elapses_on}
use Rattle.guarded_cell.specs.Differing.{FrontCase, front_cost}
use Rattle.guarded_cell.proofs.Putfronts.{putting_skips, putting_puts, cut_during, cut_costs, all_during}
use Rattle.guarded_cell.proofs.starts.put_starts.Goals as goal

pub loop-copy-preserved-then-not-chosen-copy : goal.loop-copy-preserved-then-not-chosen-copy
loop-copy-preserved-then-not-chosen-copy g c =
    let flag : get_or c.args.chosen.now c.loop-copy.copy false ≡ false = search rules in
    putting_skips c.args.place c.args.parity c.args.chosen.now c.args.bytes.now c.loop-copy.copy flag
    c.loop-copy.invariant

pub returns-in_err-write_front-clause-during : goal.returns-in_err-write_front-clause-during
returns-in_err-write_front-clause-during g c =
    let mid = g.D.Disk.medium c.loop-copy.disk in
    let new = g.D.Disk.medium c.write_front.new.disk in
    let flag : get_or c.args.chosen.now c.loop-copy.copy false ≡ true = search rules in
    let write = subst (λ (f : ℕ). IsTrue g.D.Disk.told → HasNoFailedWrite f mid
    → Follows (FrontCase f c.args.bytes.now) mid.now (new.since mid.moment)) c.slot.ensures
    c.write_front.ensures.during in
    let cost = subst (λ (f : ℕ). IsTrue g.D.Disk.told → new.written
    ≤ mid.written + front_cost (mid.image f) c.args.bytes.now) c.slot.ensures c.write_front.ensures.differing in
    cut_during c.args.place c.args.parity c.args.chosen.now c.args.bytes.now c.loop-copy.copy (omega arith) flag
    (g.met.D.Disk.lawful c.loop-copy.disk) c.loop-copy.invariant write cost c.write_front.ensures.at_most
    c.write_front.ensures.time

pub returns-in_err-write_front-clause-differing : goal.returns-in_err-write_front-clause-differing
returns-in_err-write_front-clause-differing g c =
    let mid = g.D.Disk.medium c.loop-copy.disk in
    let new = g.D.Disk.medium c.write_front.new.disk in
    let flag : get_or c.args.chosen.now c.loop-copy.copy false ≡ true = search rules in
    let write = subst (λ (f : ℕ). IsTrue g.D.Disk.told → HasNoFailedWrite f mid
    → Follows (FrontCase f c.args.bytes.now) mid.now (new.since mid.moment)) c.slot.ensures
    c.write_front.ensures.during in
    let cost = subst (λ (f : ℕ). IsTrue g.D.Disk.told → new.written
    ≤ mid.written + front_cost (mid.image f) c.args.bytes.now) c.slot.ensures c.write_front.ensures.differing in
    cut_costs c.args.place c.args.parity c.args.chosen.now c.args.bytes.now c.loop-copy.copy (omega arith) flag
    (g.met.D.Disk.lawful c.loop-copy.disk) c.loop-copy.invariant write cost c.write_front.ensures.at_most
    c.write_front.ensures.time

pub loop-copy-preserved : goal.loop-copy-preserved
loop-copy-preserved g c =
    let mid = g.D.Disk.medium c.loop-copy.disk in
    let new = g.D.Disk.medium c.write_front.new.disk in
    let flag : get_or c.args.chosen.now c.loop-copy.copy false ≡ true = search rules in
    let write = subst (λ (f : ℕ). IsTrue g.D.Disk.told → HasNoFailedWrite f mid
    → Follows (FrontCase f c.args.bytes.now) mid.now (new.since mid.moment)) c.slot.ensures
    c.write_front.ensures.during in
    let cost = subst (λ (f : ℕ). IsTrue g.D.Disk.told → new.written
    ≤ mid.written + front_cost (mid.image f) c.args.bytes.now) c.slot.ensures c.write_front.ensures.differing in
    putting_puts c.args.place c.args.parity c.args.chosen.now c.args.bytes.now c.loop-copy.copy (omega arith) flag
    (g.met.D.Disk.lawful c.loop-copy.disk) c.loop-copy.invariant write cost c.write_front.ensures.at_most
    c.write_front.ensures.time
    (λ tells. c.in_ok-write_front.ensures.image tells ∙ ap (λ (f : ℕ). put_image mid.image f 0 c.args.bytes.now)
    c.slot.ensures) c.in_ok-write_front.ensures.passes

pub returns-clause-during : goal.returns-clause-during
returns-clause-during g c = all_during c.args.place c.args.parity c.args.chosen.now c.args.bytes.now c.loop-copy.copy
    (omega arith) c.loop-copy.invariant

pub returns-in_err-write_front-clause-time : goal.returns-in_err-write_front-clause-time
returns-in_err-write_front-clause-time g c = elapses_on c.loop-copy.invariant.time c.write_front.ensures.time

pub returns-clause-time : goal.returns-clause-time
returns-clause-time g c = c.loop-copy.invariant.time

pub returns-in_err-write_front-clause-faults : goal.returns-in_err-write_front-clause-faults
returns-in_err-write_front-clause-faults g c = record { cause = search rules; passes = search rules }

pub returns-clause-faults : goal.returns-clause-faults
returns-clause-faults g c = record { cause = search rules; passes = search rules }
