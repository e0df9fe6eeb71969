-- A file has a byte; or none has.
use Rattle.std.proofs.Common.{ℕ, ap, arith, length, refl, subst, ◌∙◌}
use Rattle.disk_model.specs.Image.{Image}
use Rattle.disk_model.specs.Laws.{elapses_none, elapses_on, reads_none, reads_on}
use Rattle.per_base.specs.Causes.{Rose}
use Rattle.per_run.proofs.Prepared.{blank_on, not_blank, on_err}
use Rattle.per_run.proofs.preparing.is_blank.Goals as goal

pub loop-file-init : goal.loop-file-init
loop-file-init g c = record {
  empty = λ tells f lt. absurd (omega (arith, lt));
  reads = reads_none (g.met.D.Disk.lawful c.args.disk.now);
  time = elapses_none (g.met.D.Disk.lawful c.args.disk.now);
  passes = refl;
}

pub loop-file-preserved : goal.loop-file-preserved
loop-file-preserved g c =
    let it = c.loop-file.invariant in
    let old = g.D.Disk.medium c.args.disk.now in
    record {
      empty = λ tells. blank_on old.image c.loop-file.file (it.empty tells)
          (omega (
            arith,
            c.if-size-gt0.false,
            c.in_ok-size.ensures.size tells,
            ap (λ (i : Image). length (i c.loop-file.file)) it.reads.image,
          ));
      reads = reads_on it.time it.reads c.size.ensures.time c.size.ensures.reads;
      time = elapses_on it.time c.size.ensures.time;
      passes = c.in_ok-size.ensures.passes ∙ it.passes;
    }

pub returns-then-size-gt0-clause-says : goal.returns-then-size-gt0-clause-says
returns-then-size-gt0-clause-says g c = λ tells.
    let it = c.loop-file.invariant in
    not_blank (g.D.Disk.medium c.args.disk.now).image c.loop-file.file (omega (arith, c.loop-file-test.true))
    (omega (
      arith,
      c.if-size-gt0.true,
      c.in_ok-size.ensures.size tells,
      ap (λ (i : Image). length (i c.loop-file.file)) it.reads.image,
    ))

pub returns-then-size-gt0-clause-reads : goal.returns-then-size-gt0-clause-reads
returns-then-size-gt0-clause-reads g c =
    reads_on c.loop-file.invariant.time c.loop-file.invariant.reads c.size.ensures.time c.size.ensures.reads

pub returns-then-size-gt0-clause-passes : goal.returns-then-size-gt0-clause-passes
returns-then-size-gt0-clause-passes g c = c.in_ok-size.ensures.passes ∙ c.loop-file.invariant.passes

pub returns-then-size-gt0-clause-time : goal.returns-then-size-gt0-clause-time
returns-then-size-gt0-clause-time g c = elapses_on c.loop-file.invariant.time c.size.ensures.time

pub returns-in_err-size-clause-reads : goal.returns-in_err-size-clause-reads
returns-in_err-size-clause-reads g c =
    reads_on c.loop-file.invariant.time c.loop-file.invariant.reads c.size.ensures.time c.size.ensures.reads

pub returns-in_err-size-clause-cause : goal.returns-in_err-size-clause-cause
returns-in_err-size-clause-cause g c = on_err _
    (subst (λ (n : ℕ). Rose n (g.D.Disk.medium c.size.new.self).faults) c.loop-file.invariant.passes
    c.in_err-size.ensures.cause)

pub returns-in_err-size-clause-time : goal.returns-in_err-size-clause-time
returns-in_err-size-clause-time g c = elapses_on c.loop-file.invariant.time c.size.ensures.time

pub returns-clause-says : goal.returns-clause-says
returns-clause-says g c = λ tells f lt.
    c.loop-file.invariant.empty tells f (omega (arith, lt, c.loop-file-test.false))
