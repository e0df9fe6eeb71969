use Rattle.std.proofs.Common.{◌≡◌, ℕ, sym, subst, length, arith}
use Rattle.block_files.specs.Areas.{HoldsShared}
use Rattle.block_files.specs.lemmas.Outcomes.{on_err}
use Rattle.block_files.proofs.Spread.{spread_none, spread_more, spread_failed, spread_all, spread_full}
use Rattle.block_files.proofs.writing.write_copies.Goals as goal

pub loop-number-init : goal.loop-number-init
loop-number-init g c =
    spread_none g.D.Disk.told c.args.place c.args.copies.now c.args.blocks.now c.args.bytes.now c.args.was.now
    (g.D.Disk.medium c.args.disk.now) (g.met.D.Disk.lawful c.args.disk.now) c.requires.shared

pub write_changed-requires-clause-shared : goal.write_changed-requires-clause-shared
write_changed-requires-clause-shared g c = λ tells. (
    let P : ℕ → Type 0 = λ f. HoldsShared ((g.D.Disk.medium c.loop-number.disk).image f) c.args.blocks.now
    c.args.bytes.now c.args.was.now in
    subst P (sym c.area.ensures) (c.loop-number.invariant.shared tells c.loop-number.number-index (omega arith)))

pub loop-number-preserved : goal.loop-number-preserved
loop-number-preserved g c =
    spread_more g.D.Disk.told c.args.place c.args.copies.now c.args.blocks.now c.args.bytes.now c.args.was.now
    c.loop-number.number-index c.area.result (g.D.Disk.medium c.args.disk.now) (g.D.Disk.medium c.loop-number.disk)
    (g.D.Disk.medium c.write_changed.new.disk)
    (omega arith) c.area.ensures c.in_ok-write_changed.ensures.done c.in_ok-write_changed.ensures.holds
    c.loop-number.invariant

pub returns : goal.returns
returns g c =
    let all : c.loop-number.number-index ≡ length c.args.copies.now = omega arith in
    record {
      whole = spread_full g.D.Disk.told c.args.place c.args.copies.now c.args.blocks.now c.args.bytes.now
          c.args.was.now
          c.loop-number.number-index (g.D.Disk.medium c.args.disk.now) (g.D.Disk.medium c.loop-number.disk) all
          c.requires.room c.loop-number.invariant;
      done = spread_all g.D.Disk.told c.args.place c.args.copies.now c.args.blocks.now c.args.bytes.now
          c.args.was.now
          c.loop-number.number-index (g.D.Disk.medium c.args.disk.now) (g.D.Disk.medium c.loop-number.disk) all
          c.loop-number.invariant;
      failed = tt;
    }

pub returns-in_err-write_changed-clause-failed : goal.returns-in_err-write_changed-clause-failed
returns-in_err-write_changed-clause-failed g c =
    on_err c.from_residual.result
    (spread_failed g.D.Disk.told c.args.place c.args.copies.now c.args.blocks.now c.args.bytes.now c.args.was.now
    c.loop-number.number-index c.area.result (g.D.Disk.medium c.args.disk.now) (g.D.Disk.medium c.loop-number.disk)
    (g.D.Disk.medium c.write_changed.new.disk)
    (omega arith) c.area.ensures c.in_err-write_changed.ensures.failed c.loop-number.invariant)
