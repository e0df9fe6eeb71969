use Rattle.std.proofs.Common.{◌≡◌, ◌∙◌, length, sym, false, arith}
use Rattle.per_base.specs.Contents.{blocks_for}
use Rattle.block_files.specs.Parts.{is_changed}
use Rattle.block_files.specs.lemmas.Outcomes.{on_err}
use Rattle.block_files.specs.lemmas.Partly.{partly_none, partly_skip, partly_write, partly_tear, partly_all}
use Rattle.block_files.specs.lemmas.Partly.{partly_holds}
use Rattle.block_files.proofs.writing.write_changed.Goals as goal

pub loop-next-init : goal.loop-next-init
loop-next-init g c = record {
  below = omega arith;
  partly = partly_none g.D.Disk.told c.args.file c.args.blocks.now c.args.bytes.now c.args.was.now
      (g.D.Disk.medium c.args.disk.now)
      (g.met.D.Disk.lawful c.args.disk.now) c.requires.shared;
}

pub loop-next-preserved-then-differs : goal.loop-next-preserved-then-differs
loop-next-preserved-then-differs g c =
    let h = c.in_ok-write_at.ensures in
    let run = c.run_end-end.ensures.run in
    record {
      below = omega (arith, run.within);
      partly = partly_write g.D.Disk.told c.args.file c.args.blocks.now c.args.bytes.now c.args.was.now
          c.loop-next.next c.run_end-end.result c.min-stop.result c.from.result c.requires.room run c.min-stop.ensures
          c.from.ensures (g.D.Disk.medium c.args.disk.now) (g.D.Disk.medium c.loop-next.disk)
          (g.D.Disk.medium c.write_at.new.self) c.loop-next.invariant.partly c.requires.distinct
          h.image h.now h.during h.at_most h.time h.passes;
    }

pub loop-next-preserved : goal.loop-next-preserved
loop-next-preserved g c =
    let same : is_changed c.args.bytes.now c.args.was.now c.loop-next.next ≡ false =
    sym c.differs.ensures ∙ c.if-differs.false in
    record {
      below = omega arith;
      partly = partly_skip g.D.Disk.told c.args.file c.args.blocks.now c.args.bytes.now c.args.was.now c.loop-next.next
          (g.D.Disk.medium c.args.disk.now) (g.D.Disk.medium c.loop-next.disk) same c.loop-next.invariant.partly;
    }

pub returns : goal.returns
returns g c =
    let all : c.loop-next.next ≡ blocks_for (length c.args.bytes.now) = omega (arith, c.loop-next.invariant.below) in
    record {
      holds = partly_holds g.D.Disk.told c.args.file c.args.blocks.now c.args.bytes.now c.args.was.now c.loop-next.next
          (g.D.Disk.medium c.args.disk.now) (g.D.Disk.medium c.loop-next.disk) all c.loop-next.invariant.partly;
      done = partly_all g.D.Disk.told c.args.file c.args.blocks.now c.args.bytes.now c.args.was.now c.loop-next.next
          (g.D.Disk.medium c.args.disk.now) (g.D.Disk.medium c.loop-next.disk) all c.loop-next.invariant.partly;
      failed = tt;
    }

pub returns-in_err-write_at-clause-failed : goal.returns-in_err-write_at-clause-failed
returns-in_err-write_at-clause-failed g c =
    let h = c.in_err-write_at.ensures in
    on_err c.from_residual.result
    (partly_tear g.D.Disk.told c.args.file c.args.blocks.now c.args.bytes.now c.args.was.now c.loop-next.next
    c.run_end-end.result c.min-stop.result c.from.result c.requires.room c.run_end-end.ensures.run c.min-stop.ensures
    c.from.ensures (g.D.Disk.medium c.args.disk.now) (g.D.Disk.medium c.loop-next.disk)
    (g.D.Disk.medium c.write_at.new.self) c.loop-next.invariant.partly
    h.torn h.during h.at_most h.time h.cause)
