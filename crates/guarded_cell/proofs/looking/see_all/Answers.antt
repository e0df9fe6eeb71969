use Rattle.std.proofs.Common.{◌∙◌, refl, sym, subst, arith}
use Rattle.std.proofs.lemmas.List.{length-set}
use Rattle.disk_model.specs.Image.{Image}
use Rattle.disk_model.specs.Laws.{reads_none, reads_on, elapses_none, elapses_on}
use Rattle.disk_model.specs.Place.{slot}
use Rattle.guarded_cell.specs.Slots.{IsFlag}
use Rattle.guarded_cell.proofs.Marked.{flags_more}
use Rattle.guarded_cell.proofs.Seeing.{held_none, held_more}
use Rattle.guarded_cell.proofs.looking.see_all.Goals as goal

pub loop-copy-init : goal.loop-copy-init
loop-copy-init g c = record {
  held = λ tells. c.new-seens.ensures.items ∙ sym (held_none (g.D.Disk.medium c.args.disk.now).image
      c.args.place);
  even = λ tells copy lt. absurd (omega (arith, lt));
  odd = λ tells copy lt. absurd (omega (arith, lt));
  evens = refl;
  odds = refl;
  room = c.requires;
  sealable = λ k d lt. absurd (omega (arith, lt, c.new-seens.ensures.len));
  reads = reads_none (g.met.D.Disk.lawful c.args.disk.now);
  time = elapses_none (g.met.D.Disk.lawful c.args.disk.now);
  passes = refl;
}

pub loop-copy-preserved : goal.loop-copy-preserved
loop-copy-preserved g c =
    let start = (g.D.Disk.medium c.args.disk.now).image in
    let first_reads = reads_on c.loop-copy.invariant.time c.loop-copy.invariant.reads c.see_slot.ensures.time
    c.see_slot.ensures.reads in
    let first_time = elapses_on c.loop-copy.invariant.time c.see_slot.ensures.time in
    record {
      held = λ tells. held_more start (g.D.Disk.medium c.loop-copy.disk).image
          (g.D.Disk.medium c.see_slot.new.disk).image c.args.place c.loop-copy.copy
          c.loop-copy.seens.items c.see_slot.new.seens.items c.see_slot-in-loop-copy.new.seens.items
          c.loop-copy.invariant.reads.image first_reads.image (c.loop-copy.invariant.held tells)
          (c.in_ok-even.ensures.seen tells) (c.in_ok-odd.ensures.seen tells);
      even = λ tells. flags_more start c.args.place 0 c.loop-copy.copy c.loop-copy.even c.in_ok-even.field-0
          c.loop-copy.invariant.evens (omega arith) (c.loop-copy.invariant.even tells)
          (subst (λ (im : Image). IsFlag (im (slot c.args.place c.loop-copy.copy 0)) c.in_ok-even.field-0)
          c.loop-copy.invariant.reads.image (c.in_ok-even.ensures.flag tells));
      odd = λ tells. flags_more start c.args.place 1 c.loop-copy.copy c.loop-copy.odd c.in_ok-odd.field-0
          c.loop-copy.invariant.odds (omega arith) (c.loop-copy.invariant.odd tells)
          (subst (λ (im : Image). IsFlag (im (slot c.args.place c.loop-copy.copy 1)) c.in_ok-odd.field-0)
          first_reads.image (c.in_ok-odd.ensures.flag tells));
      evens = length-set c.loop-copy.even c.loop-copy.copy c.in_ok-even.field-0 ∙ c.loop-copy.invariant.evens;
      odds = length-set c.loop-copy.odd c.loop-copy.copy c.in_ok-odd.field-0 ∙ c.loop-copy.invariant.odds;
      room = c.see_slot-in-loop-copy.ensures.room;
      sealable = c.in_ok-odd.ensures.sealable;
      reads = reads_on first_time first_reads c.see_slot-in-loop-copy.ensures.time
          c.see_slot-in-loop-copy.ensures.reads;
      time = elapses_on first_time c.see_slot-in-loop-copy.ensures.time;
      passes = c.in_ok-odd.ensures.faults.passes ∙ c.in_ok-even.ensures.faults.passes
          ∙ c.loop-copy.invariant.passes;
    }
