use Rattle.std.proofs.lemmas.Bool.{false≢true}
use Rattle.std.proofs.Common.{◌∙◌, ◌+◌, ◌≤◌, ℕ, List, subst, length, ap, arith}
use Rattle.guarded_cell.specs.Differing.{texts_cost}
use Rattle.hash_guard.specs.Laws.{length-sealed}
use Rattle.disk_model.specs.Laws.{goes_on, elapses_on}
use Rattle.disk_model.specs.Place.{IsNoSlot}
use Rattle.guarded_cell.specs.Register.{own, other}
use Rattle.guarded_cell.specs.Stops.{PutStops}
use Rattle.guarded_cell.proofs.Putting.{first_moment, second_moment, chosen_elsewhere, spares_on, new_alone}
use Rattle.guarded_cell.proofs.Putting.{first_written, both_written}
use Rattle.guarded_cell.proofs.Sparing.{right_first, right_both, none_lacking, none_stale}
use Rattle.guarded_cell.proofs.Behind.{over}
use Rattle.guarded_cell.proofs.replacing.replace.Goals as goal

pub returns-in_err-put_durably-clause-brings : goal.returns-in_err-put_durably-clause-brings
returns-in_err-put_durably-clause-brings g c = record {
  puts = record {
    elsewhere = λ tells.
        chosen_elsewhere c.args.place (own c.args.generation) c.args.lacking.now
        (g.D.Disk.medium c.args.disk.now).image (g.D.Disk.medium c.put_durably.new.disk).image (omega arith)
        (c.put_durably.ensures.elsewhere tells);
    any_moment = λ tells quiet.
        let old = g.D.Disk.medium c.args.disk.now in
        let mid = g.D.Disk.medium c.put_durably.new.disk in
        first_moment c.args.place c.args.generation c.args.text.now old mid mid
        c.requires.positive (omega arith) c.requires.short c.args.lacking.now c.args.stale.now c.args.sealed_text.now
        c.requires.text
        (c.requires.lacking tells) (c.requires.stale tells) _ quiet (λ x. absurd (false≢true x))
        (c.in_err-put_durably.ensures.during tells quiet);
    written = first_written c.args.place.copies (length c.args.text.now) (length c.args.sealed_text.now)
        (g.D.Disk.medium c.args.disk.now).written (g.D.Disk.medium c.put_durably.new.disk).written
        (ap length c.requires.text ∙ length-sealed c.args.generation c.args.text.now) c.put_durably.ensures.written;
    differing = λ tells.
        omega (
          arith,
          subst (λ (bytes : List ℕ). (g.D.Disk.medium c.put_durably.new.disk).written
              ≤ (g.D.Disk.medium c.args.disk.now).written
              + texts_cost c.args.place (own c.args.generation) bytes (g.D.Disk.medium c.args.disk.now).image
              c.args.place.copies) c.requires.text (c.put_durably.ensures.differing tells),
        );
    time = c.put_durably.ensures.time;
  };
  right = λ tells.
      right_first c.args.place c.args.generation c.args.text.now
      (g.D.Disk.medium c.args.disk.now).image c.args.lacking.now c.args.stale.now
      (g.D.Disk.medium c.put_durably.new.disk).image (c.requires.lacking tells)
      (c.put_durably.ensures.elsewhere tells);
  already = λ tells alone. c.put_durably.ensures.none
      (none_lacking c.args.place c.args.generation c.args.text.now
      (g.D.Disk.medium c.args.disk.now).image alone c.args.lacking.now (c.requires.lacking tells));
}

pub returns-in_err-write_durably-clause-brings : goal.returns-in_err-write_durably-clause-brings
returns-in_err-write_durably-clause-brings g c = record {
  puts = record {
    elsewhere = λ tells.
        let old = (g.D.Disk.medium c.args.disk.now).image in
        let mid = (g.D.Disk.medium c.put_durably.new.disk).image in
        let new = (g.D.Disk.medium c.write_durably.new.disk).image in
        spares_on (IsNoSlot c.args.place) old mid new
        (chosen_elsewhere c.args.place (own c.args.generation) c.args.lacking.now old mid
        (omega arith) (c.put_durably.ensures.elsewhere tells))
        (chosen_elsewhere c.args.place (other c.args.generation) c.args.stale.now mid new
        (omega arith) (c.write_durably.ensures.elsewhere tells));
    any_moment = λ tells quiet.
        let old = g.D.Disk.medium c.args.disk.now in
        let mid = g.D.Disk.medium c.put_durably.new.disk in
        let new = g.D.Disk.medium c.write_durably.new.disk in
        let put = c.in_ok-put_durably.ensures.put tells in
        goes_on (PutStops c.args.place c.args.generation c.args.text.now old.image)
        c.put_durably.ensures.time c.write_durably.ensures.time
        (first_moment c.args.place c.args.generation c.args.text.now old mid new
        c.requires.positive (omega arith) c.requires.short c.args.lacking.now c.args.stale.now c.args.sealed_text.now
        c.requires.text
        (c.requires.lacking tells) (c.requires.stale tells) _ quiet (λ x. put) (c.in_ok-put_durably.ensures.during
        tells quiet))
        (second_moment c.args.place c.args.generation c.args.text.now old mid new
        c.requires.positive (omega arith) c.requires.short c.args.lacking.now c.args.stale.now c.args.sealed_text.now
        c.requires.text
        (c.requires.lacking tells) (c.requires.stale tells) _ c.in_ok-put_durably.ensures.quiet put
        (λ x. absurd (false≢true x)) c.in_err-write_durably.ensures.during);
    written = both_written c.args.place.copies (length c.args.text.now) (length c.args.sealed_text.now)
        (g.D.Disk.medium c.args.disk.now).written (g.D.Disk.medium c.put_durably.new.disk).written
        (g.D.Disk.medium c.write_durably.new.disk).written
        (ap length c.requires.text ∙ length-sealed c.args.generation c.args.text.now) c.put_durably.ensures.written
        c.write_durably.ensures.written;
    differing = λ tells.
        omega (
          arith,
          c.write_durably.ensures.written,
          subst (λ (bytes : List ℕ). (g.D.Disk.medium c.put_durably.new.disk).written
              ≤ (g.D.Disk.medium c.args.disk.now).written
              + texts_cost c.args.place (own c.args.generation) bytes (g.D.Disk.medium c.args.disk.now).image
              c.args.place.copies) c.requires.text (c.put_durably.ensures.differing tells),
        );
    time = elapses_on c.put_durably.ensures.time c.write_durably.ensures.time;
  };
  right = λ tells.
      right_both c.args.place c.args.generation c.args.text.now
      (g.D.Disk.medium c.args.disk.now).image c.args.lacking.now c.args.stale.now
      (g.D.Disk.medium c.put_durably.new.disk).image (g.D.Disk.medium c.write_durably.new.disk).image
      (c.requires.lacking tells) (c.requires.stale tells)
      (c.put_durably.ensures.elsewhere tells) (c.write_durably.ensures.elsewhere tells);
  already = λ tells alone.
      c.write_durably.ensures.none
      (none_stale c.args.place c.args.generation c.args.text.now
      (g.D.Disk.medium c.args.disk.now).image alone c.args.stale.now (c.requires.stale tells))
      ∙ c.put_durably.ensures.none
      (none_lacking c.args.place c.args.generation c.args.text.now
      (g.D.Disk.medium c.args.disk.now).image alone c.args.lacking.now (c.requires.lacking tells));
}

pub returns-clause-brings : goal.returns-clause-brings
returns-clause-brings g c = record {
  puts = record {
    elsewhere = λ tells.
        let old = (g.D.Disk.medium c.args.disk.now).image in
        let mid = (g.D.Disk.medium c.put_durably.new.disk).image in
        let new = (g.D.Disk.medium c.write_durably.new.disk).image in
        spares_on (IsNoSlot c.args.place) old mid new
        (chosen_elsewhere c.args.place (own c.args.generation) c.args.lacking.now old mid
        (omega arith) (c.put_durably.ensures.elsewhere tells))
        (chosen_elsewhere c.args.place (other c.args.generation) c.args.stale.now mid new
        (omega arith) (c.write_durably.ensures.elsewhere tells));
    any_moment = λ tells quiet.
        let old = g.D.Disk.medium c.args.disk.now in
        let mid = g.D.Disk.medium c.put_durably.new.disk in
        let new = g.D.Disk.medium c.write_durably.new.disk in
        let put = c.in_ok-put_durably.ensures.put tells in
        goes_on (PutStops c.args.place c.args.generation c.args.text.now old.image)
        c.put_durably.ensures.time c.write_durably.ensures.time
        (first_moment c.args.place c.args.generation c.args.text.now old mid new
        c.requires.positive (omega arith) c.requires.short c.args.lacking.now c.args.stale.now c.args.sealed_text.now
        c.requires.text
        (c.requires.lacking tells) (c.requires.stale tells) _ quiet (λ x. put) (c.in_ok-put_durably.ensures.during
        tells quiet))
        (second_moment c.args.place c.args.generation c.args.text.now old mid new
        c.requires.positive (omega arith) c.requires.short c.args.lacking.now c.args.stale.now c.args.sealed_text.now
        c.requires.text
        (c.requires.lacking tells) (c.requires.stale tells) _ c.in_ok-put_durably.ensures.quiet put
        (λ x. c.in_ok-write_durably.ensures.put tells) c.in_ok-write_durably.ensures.during);
    written = both_written c.args.place.copies (length c.args.text.now) (length c.args.sealed_text.now)
        (g.D.Disk.medium c.args.disk.now).written (g.D.Disk.medium c.put_durably.new.disk).written
        (g.D.Disk.medium c.write_durably.new.disk).written
        (ap length c.requires.text ∙ length-sealed c.args.generation c.args.text.now) c.put_durably.ensures.written
        c.write_durably.ensures.written;
    differing = λ tells.
        omega (
          arith,
          c.write_durably.ensures.written,
          subst (λ (bytes : List ℕ). (g.D.Disk.medium c.put_durably.new.disk).written
              ≤ (g.D.Disk.medium c.args.disk.now).written
              + texts_cost c.args.place (own c.args.generation) bytes (g.D.Disk.medium c.args.disk.now).image
              c.args.place.copies) c.requires.text (c.put_durably.ensures.differing tells),
        );
    time = elapses_on c.put_durably.ensures.time c.write_durably.ensures.time;
  };
  right = λ tells.
      right_both c.args.place c.args.generation c.args.text.now
      (g.D.Disk.medium c.args.disk.now).image c.args.lacking.now c.args.stale.now
      (g.D.Disk.medium c.put_durably.new.disk).image (g.D.Disk.medium c.write_durably.new.disk).image
      (c.requires.lacking tells) (c.requires.stale tells)
      (c.put_durably.ensures.elsewhere tells) (c.write_durably.ensures.elsewhere tells);
  already = λ tells alone.
      c.write_durably.ensures.none
      (none_stale c.args.place c.args.generation c.args.text.now
      (g.D.Disk.medium c.args.disk.now).image alone c.args.stale.now (c.requires.stale tells))
      ∙ c.put_durably.ensures.none
      (none_lacking c.args.place c.args.generation c.args.text.now
      (g.D.Disk.medium c.args.disk.now).image alone c.args.lacking.now (c.requires.lacking tells));
}

pub returns-clause-alone : goal.returns-clause-alone
returns-clause-alone g c = λ tells.
    let old = g.D.Disk.medium c.args.disk.now in
    let mid = g.D.Disk.medium c.put_durably.new.disk in
    let new = g.D.Disk.medium c.write_durably.new.disk in
    new_alone c.args.place c.args.generation c.args.text.now old.image
    c.requires.positive (omega arith) c.requires.short c.args.lacking.now c.args.stale.now c.args.sealed_text.now
    c.requires.text
    (c.requires.lacking tells) (c.requires.stale tells) mid.image (c.in_ok-put_durably.ensures.put tells) new.image
    (c.in_ok-write_durably.ensures.put tells)

pub returns-clause-over : goal.returns-clause-over
returns-clause-over g c = λ tells.
    over c.args.place c.args.generation c.args.lacking.now c.args.stale.now c.args.sealed_text.now
    (g.D.Disk.medium c.args.disk.now).image (g.D.Disk.medium c.put_durably.new.disk).image
    (g.D.Disk.medium c.write_durably.new.disk).image (c.in_ok-put_durably.ensures.put tells)
    (c.in_ok-write_durably.ensures.put tells)
