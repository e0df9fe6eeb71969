use Rattle.std.proofs.lemmas.Bool.{false≢true}
use Rattle.disk_model.specs.Place.{IsNoSlot}
use Rattle.disk_model.specs.Laws.{elapses_on}
use Rattle.guarded_cell.specs.Register.{own, other}
use Rattle.guarded_cell.proofs.Putting.{chosen_elsewhere, spares_on}
use Rattle.guarded_cell.proofs.Blanked.{keep_first, keep_second, kept_alone}
use Rattle.guarded_cell.proofs.Sparing.{clear_first, clear_both}
use Rattle.std.proofs.Common.{arith}
use Rattle.guarded_cell.proofs.keeping.blank_both.Goals as goal

pub returns-in_err-write_starts-clause-clears : goal.returns-in_err-write_starts-clause-clears
returns-in_err-write_starts-clause-clears g c = record {
  elsewhere = λ tells.
      chosen_elsewhere c.args.place (own c.args.generation) c.args.others.now
      (g.D.Disk.medium c.args.disk.now).image (g.D.Disk.medium c.write_starts.new.disk).image (omega arith)
      (c.write_starts.ensures.elsewhere tells);
  right = λ tells.
      clear_first c.args.place c.args.generation c.args.text.now
      (g.D.Disk.medium c.args.disk.now).image c.args.others.now c.args.stale.now
      (g.D.Disk.medium c.write_starts.new.disk).image (c.requires.others tells)
      (c.write_starts.ensures.elsewhere tells);
  any_moment = λ tells quiet.
      let old = g.D.Disk.medium c.args.disk.now in
      let mid = g.D.Disk.medium c.write_starts.new.disk in
      keep_first c.args.place c.args.generation c.args.text.now g.D.Disk.told old mid mid
      c.args.others.now c.args.stale.now
      (c.requires.others tells) (c.requires.stale tells) quiet c.write_starts.ensures.during;
  written = omega (arith, c.write_starts.ensures.written);
  time = c.write_starts.ensures.time;
}

pub returns-in_err-write_durably-clause-clears : goal.returns-in_err-write_durably-clause-clears
returns-in_err-write_durably-clause-clears g c = record {
  elsewhere = λ tells.
      let old = (g.D.Disk.medium c.args.disk.now).image in
      let mid = (g.D.Disk.medium c.write_starts.new.disk).image in
      let new = (g.D.Disk.medium c.write_durably.new.disk).image in
      spares_on (IsNoSlot c.args.place) old mid new
      (chosen_elsewhere c.args.place (own c.args.generation) c.args.others.now old mid
      (omega arith) (c.write_starts.ensures.elsewhere tells))
      (chosen_elsewhere c.args.place (other c.args.generation) c.args.stale.now mid new
      (omega arith) (c.write_durably.ensures.elsewhere tells));
  right = λ tells.
      clear_both c.args.place c.args.generation c.args.text.now
      (g.D.Disk.medium c.args.disk.now).image c.args.others.now c.args.stale.now
      (g.D.Disk.medium c.write_starts.new.disk).image (g.D.Disk.medium c.write_durably.new.disk).image
      (c.requires.others tells) (c.requires.stale tells)
      (c.write_starts.ensures.elsewhere tells) (c.write_durably.ensures.elsewhere tells);
  any_moment = λ tells quiet.
      let old = g.D.Disk.medium c.args.disk.now in
      let mid = g.D.Disk.medium c.write_starts.new.disk in
      let new = g.D.Disk.medium c.write_durably.new.disk in
      keep_second c.args.place c.args.generation c.args.text.now g.D.Disk.told old mid new
      c.args.others.now c.args.stale.now
      (c.requires.others tells) (c.requires.stale tells) quiet c.write_starts.ensures.during
      _ (g.met.D.Disk.lawful c.write_starts.new.disk) c.write_starts.ensures.time c.write_durably.ensures.time
      (λ x. absurd (false≢true x)) (λ x. absurd (false≢true x)) c.in_err-write_durably.ensures.during;
  written = omega (arith, c.write_starts.ensures.written, c.write_durably.ensures.written);
  time = elapses_on c.write_starts.ensures.time c.write_durably.ensures.time;
}

pub returns-clause-clears : goal.returns-clause-clears
returns-clause-clears g c = record {
  elsewhere = λ tells.
      let old = (g.D.Disk.medium c.args.disk.now).image in
      let mid = (g.D.Disk.medium c.write_starts.new.disk).image in
      let new = (g.D.Disk.medium c.write_durably.new.disk).image in
      spares_on (IsNoSlot c.args.place) old mid new
      (chosen_elsewhere c.args.place (own c.args.generation) c.args.others.now old mid
      (omega arith) (c.write_starts.ensures.elsewhere tells))
      (chosen_elsewhere c.args.place (other c.args.generation) c.args.stale.now mid new
      (omega arith) (c.write_durably.ensures.elsewhere tells));
  right = λ tells.
      clear_both c.args.place c.args.generation c.args.text.now
      (g.D.Disk.medium c.args.disk.now).image c.args.others.now c.args.stale.now
      (g.D.Disk.medium c.write_starts.new.disk).image (g.D.Disk.medium c.write_durably.new.disk).image
      (c.requires.others tells) (c.requires.stale tells)
      (c.write_starts.ensures.elsewhere tells) (c.write_durably.ensures.elsewhere tells);
  any_moment = λ tells quiet.
      let old = g.D.Disk.medium c.args.disk.now in
      let mid = g.D.Disk.medium c.write_starts.new.disk in
      let new = g.D.Disk.medium c.write_durably.new.disk in
      keep_second c.args.place c.args.generation c.args.text.now g.D.Disk.told old mid new
      c.args.others.now c.args.stale.now
      (c.requires.others tells) (c.requires.stale tells) quiet c.write_starts.ensures.during
      _ (g.met.D.Disk.lawful c.write_starts.new.disk) c.write_starts.ensures.time c.write_durably.ensures.time
      (λ x. c.in_ok-write_starts.ensures.put tells) (λ x. c.in_ok-write_durably.ensures.put tells)
      c.in_ok-write_durably.ensures.during;
  written = omega (arith, c.write_starts.ensures.written, c.write_durably.ensures.written);
  time = elapses_on c.write_starts.ensures.time c.write_durably.ensures.time;
}

pub returns-clause-alone : goal.returns-clause-alone
returns-clause-alone g c = λ tells.
    let old = (g.D.Disk.medium c.args.disk.now).image in
    let mid = (g.D.Disk.medium c.write_starts.new.disk).image in
    let new = (g.D.Disk.medium c.write_durably.new.disk).image in
    kept_alone c.args.place c.args.generation c.args.text.now old c.args.others.now
    c.args.stale.now (c.requires.others tells) (c.requires.stale tells)
    mid new (c.in_ok-write_starts.ensures.put tells) (c.in_ok-write_durably.ensures.put tells)
