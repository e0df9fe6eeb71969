use Rattle.std.proofs.lemmas.Bool.{false≢true}
use Rattle.std.proofs.Common.{◌∙◌, length, ap, arith}
use Rattle.hash_guard.specs.Laws.{length-sealed}
use Rattle.disk_model.specs.Place.{IsNoSlot}
use Rattle.disk_model.specs.Laws.{goes_on, elapses_on}
use Rattle.guarded_cell.specs.Stops.{FormatStops}
use Rattle.guarded_cell.proofs.Putting.{chosen_elsewhere, spares_on, format_written}
use Rattle.guarded_cell.proofs.Flags.{all}
use Rattle.guarded_cell.proofs.Anew.{format_first, format_second, format_third, text_alone}
use Rattle.guarded_cell.proofs.formatting.format_in.Goals as goal

pub returns-in_err-write_starts-clause-formats : goal.returns-in_err-write_starts-clause-formats
returns-in_err-write_starts-clause-formats g c = record {
  elsewhere = λ tells.
      chosen_elsewhere c.args.place 0 all (g.D.Disk.medium c.args.disk.now).image
      (g.D.Disk.medium c.write_starts.new.disk).image (omega arith) (c.write_starts.ensures.elsewhere tells);
  any_moment = λ tells quiet.
      let old = g.D.Disk.medium c.args.disk.now in
      let even = g.D.Disk.medium c.write_starts.new.disk in
      format_first c.args.place c.args.place.few c.args.text.now g.D.Disk.told old even even
      even quiet c.write_starts.ensures.during;
  written = omega (arith, c.write_starts.ensures.written);
  time = c.write_starts.ensures.time;
}

pub returns-in_err-write_durably-clause-formats : goal.returns-in_err-write_durably-clause-formats
returns-in_err-write_durably-clause-formats g c = record {
  elsewhere = λ tells.
      let old = (g.D.Disk.medium c.args.disk.now).image in
      let even = (g.D.Disk.medium c.write_starts.new.disk).image in
      let blank = (g.D.Disk.medium c.write_durably.new.disk).image in
      spares_on (IsNoSlot c.args.place) old even blank
      (chosen_elsewhere c.args.place 0 all old even (omega arith)
      (c.write_starts.ensures.elsewhere tells))
      (chosen_elsewhere c.args.place 1 all even blank (omega arith)
      (c.write_durably.ensures.elsewhere tells));
  any_moment = λ tells quiet.
      let old = g.D.Disk.medium c.args.disk.now in
      let even = g.D.Disk.medium c.write_starts.new.disk in
      let blank = g.D.Disk.medium c.write_durably.new.disk in
      format_second c.args.place c.args.place.few c.args.text.now g.D.Disk.told old even blank
      blank quiet c.write_starts.ensures.during
      _ (g.met.D.Disk.lawful c.write_starts.new.disk) c.write_starts.ensures.time c.write_durably.ensures.time
      (λ x. absurd (false≢true x)) (λ x. absurd (false≢true x)) c.in_err-write_durably.ensures.during;
  written = omega (arith, c.write_starts.ensures.written, c.write_durably.ensures.written);
  time = elapses_on c.write_starts.ensures.time c.write_durably.ensures.time;
}

pub returns-in_err-write_durably-2-clause-formats : goal.returns-in_err-write_durably-2-clause-formats
returns-in_err-write_durably-2-clause-formats g c = record {
  elsewhere = λ tells.
      let old = (g.D.Disk.medium c.args.disk.now).image in
      let even = (g.D.Disk.medium c.write_starts.new.disk).image in
      let blank = (g.D.Disk.medium c.write_durably.new.disk).image in
      let new = (g.D.Disk.medium c.write_durably-2.new.disk).image in
      spares_on (IsNoSlot c.args.place) old blank new
      (spares_on (IsNoSlot c.args.place) old even blank
      (chosen_elsewhere c.args.place 0 all old even (omega arith)
      (c.write_starts.ensures.elsewhere tells))
      (chosen_elsewhere c.args.place 1 all even blank (omega arith)
      (c.write_durably.ensures.elsewhere tells)))
      (chosen_elsewhere c.args.place 1 all blank new (omega arith)
      (c.write_durably-2.ensures.elsewhere tells));
  any_moment = λ tells quiet.
      let old = g.D.Disk.medium c.args.disk.now in
      let even = g.D.Disk.medium c.write_starts.new.disk in
      let blank = g.D.Disk.medium c.write_durably.new.disk in
      let new = g.D.Disk.medium c.write_durably-2.new.disk in
      let put = c.in_ok-write_starts.ensures.put tells in
      let blanked = c.in_ok-write_durably.ensures.put tells in
      goes_on (FormatStops c.args.place 1 c.args.text.now old.image)
      (elapses_on c.write_starts.ensures.time c.write_durably.ensures.time) c.write_durably-2.ensures.time
      (format_second c.args.place c.args.place.few c.args.text.now g.D.Disk.told old even
      blank new quiet c.write_starts.ensures.during
      _ (g.met.D.Disk.lawful c.write_starts.new.disk) c.write_starts.ensures.time c.write_durably.ensures.time
      (λ x. put) (λ x. blanked) c.in_ok-write_durably.ensures.during)
      (format_third c.args.place c.args.place.few c.args.text.now g.D.Disk.told old even blank
      new quiet c.write_starts.ensures.during
      _ c.requires.short c.args.sealed_text.now c.requires.text c.in_ok-write_durably.ensures.quiet put blanked
      (λ x. absurd (false≢true x)) c.in_err-write_durably-2.ensures.during);
  written = format_written c.args.place.copies (length c.args.text.now) (length c.args.sealed_text.now)
      (g.D.Disk.medium c.args.disk.now).written
      (g.D.Disk.medium c.write_starts.new.disk).written (g.D.Disk.medium c.write_durably.new.disk).written
      (g.D.Disk.medium c.write_durably-2.new.disk).written
      (ap length c.requires.text ∙ length-sealed 1 c.args.text.now) c.write_starts.ensures.written
      c.write_durably.ensures.written c.write_durably-2.ensures.written;
  time = elapses_on (elapses_on c.write_starts.ensures.time c.write_durably.ensures.time)
      c.write_durably-2.ensures.time;
}

pub returns-clause-formats : goal.returns-clause-formats
returns-clause-formats g c = record {
  elsewhere = λ tells.
      let old = (g.D.Disk.medium c.args.disk.now).image in
      let even = (g.D.Disk.medium c.write_starts.new.disk).image in
      let blank = (g.D.Disk.medium c.write_durably.new.disk).image in
      let new = (g.D.Disk.medium c.write_durably-2.new.disk).image in
      spares_on (IsNoSlot c.args.place) old blank new
      (spares_on (IsNoSlot c.args.place) old even blank
      (chosen_elsewhere c.args.place 0 all old even (omega arith)
      (c.write_starts.ensures.elsewhere tells))
      (chosen_elsewhere c.args.place 1 all even blank (omega arith)
      (c.write_durably.ensures.elsewhere tells)))
      (chosen_elsewhere c.args.place 1 all blank new (omega arith)
      (c.write_durably-2.ensures.elsewhere tells));
  any_moment = λ tells quiet.
      let old = g.D.Disk.medium c.args.disk.now in
      let even = g.D.Disk.medium c.write_starts.new.disk in
      let blank = g.D.Disk.medium c.write_durably.new.disk in
      let new = g.D.Disk.medium c.write_durably-2.new.disk in
      let put = c.in_ok-write_starts.ensures.put tells in
      let blanked = c.in_ok-write_durably.ensures.put tells in
      goes_on (FormatStops c.args.place 1 c.args.text.now old.image)
      (elapses_on c.write_starts.ensures.time c.write_durably.ensures.time) c.write_durably-2.ensures.time
      (format_second c.args.place c.args.place.few c.args.text.now g.D.Disk.told old even
      blank new quiet c.write_starts.ensures.during
      _ (g.met.D.Disk.lawful c.write_starts.new.disk) c.write_starts.ensures.time c.write_durably.ensures.time
      (λ x. put) (λ x. blanked) c.in_ok-write_durably.ensures.during)
      (format_third c.args.place c.args.place.few c.args.text.now g.D.Disk.told old even blank
      new quiet c.write_starts.ensures.during
      _ c.requires.short c.args.sealed_text.now c.requires.text c.in_ok-write_durably.ensures.quiet put blanked
      (λ x. c.in_ok-write_durably-2.ensures.put tells) c.in_ok-write_durably-2.ensures.during);
  written = format_written c.args.place.copies (length c.args.text.now) (length c.args.sealed_text.now)
      (g.D.Disk.medium c.args.disk.now).written
      (g.D.Disk.medium c.write_starts.new.disk).written (g.D.Disk.medium c.write_durably.new.disk).written
      (g.D.Disk.medium c.write_durably-2.new.disk).written
      (ap length c.requires.text ∙ length-sealed 1 c.args.text.now) c.write_starts.ensures.written
      c.write_durably.ensures.written c.write_durably-2.ensures.written;
  time = elapses_on (elapses_on c.write_starts.ensures.time c.write_durably.ensures.time)
      c.write_durably-2.ensures.time;
}

pub returns-clause-alone : goal.returns-clause-alone
returns-clause-alone g c = λ tells.
    text_alone c.args.place c.args.place.few c.args.text.now
    (g.D.Disk.medium c.args.disk.now).image
    (g.D.Disk.medium c.write_starts.new.disk).image (g.D.Disk.medium c.write_durably.new.disk).image
    (c.in_ok-write_starts.ensures.put tells) (c.in_ok-write_durably.ensures.put tells) c.requires.short
    c.args.sealed_text.now c.requires.text
    (g.D.Disk.medium c.write_durably-2.new.disk).image (c.in_ok-write_durably-2.ensures.put tells)
