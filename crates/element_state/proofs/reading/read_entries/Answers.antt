use Rattle.std.proofs.Common.{◌<◌, length, take, List, [], ◌∷◌, ◌++◌, ◌+◌, ap, sym, subst, ◌∙◌, arith}
use Rattle.std.specs.List.{AllZip}
use Rattle.disk_model.specs.Laws.{reads_on, elapses_on}
use Rattle.element_state.specs.Views.{entry_view}
use Rattle.per_base.specs.declared.elements.Entry.{Entry}
use Rattle.element_state.specs.Chosen.{IsReadBy, HasBlocks}
use Rattle.element_state.specs.Surveys.{AreOfEntry}
use Rattle.element_state.specs.lemmas.Entrywise.{read_none, read_on, all_at, zip_more, zip_push, map_push}
use Rattle.element_state.proofs.reading.read_entries.Goals as goal

pub loop-entry-init : goal.loop-entry-init
loop-entry-init g c = record {
  disk = read_none (g.met.D.Disk.lawful c.args.disk.now);
  views = λ tells. c.new-views.ensures.items;
  read = subst (AllZip (IsReadBy c.args.place.copies) []) (sym c.new-views.ensures.items) tt;
  states = subst (λ (es : List Entry). AllZip AreOfEntry es c.new-states.result.items) (sym c.new-views.ensures.items)
      (subst (AllZip AreOfEntry []) (sym c.new-states.ensures.items) tt);
}

pub returns-in_err-read-clause-reads : goal.returns-in_err-read-clause-reads
returns-in_err-read-clause-reads g c = reads_on c.loop-entry.invariant.disk.time c.loop-entry.invariant.disk.reads
    c.read_entry.ensures.time c.read_entry.ensures.reads

pub returns-in_err-read-clause-time : goal.returns-in_err-read-clause-time
returns-in_err-read-clause-time g c = elapses_on c.loop-entry.invariant.disk.time c.read_entry.ensures.time

pub returns-in_err-push-clause-reads : goal.returns-in_err-push-clause-reads
returns-in_err-push-clause-reads g c = reads_on c.loop-entry.invariant.disk.time c.loop-entry.invariant.disk.reads
    c.read_entry.ensures.time c.read_entry.ensures.reads

pub returns-in_err-push-clause-time : goal.returns-in_err-push-clause-time
returns-in_err-push-clause-time g c = elapses_on c.loop-entry.invariant.disk.time c.read_entry.ensures.time

pub returns-in_err-push-2-clause-reads : goal.returns-in_err-push-2-clause-reads
returns-in_err-push-2-clause-reads g c = reads_on c.loop-entry.invariant.disk.time c.loop-entry.invariant.disk.reads
    c.read_entry.ensures.time c.read_entry.ensures.reads

pub returns-in_err-push-2-clause-time : goal.returns-in_err-push-2-clause-time
returns-in_err-push-2-clause-time g c = elapses_on c.loop-entry.invariant.disk.time c.read_entry.ensures.time

pub loop-entry-preserved : goal.loop-entry-preserved
loop-entry-preserved g c =
    let entries = c.args.entries.now in
    let old = g.D.Disk.medium c.args.disk.now in
    let i = c.loop-entry.entry-index in
    let here : i < length entries = omega (arith, c.loop-entry-test.true) in
    record {
      disk = read_on c.loop-entry.invariant.disk c.read_entry.ensures.reads c.read_entry.ensures.time
          c.in_ok-read.ensures.passes;
      views = λ tells.
          c.in_ok-push.ensures.items
          ∙ map_push (entry_view old.image c.args.place c.args.m) entries c.loop-entry.views.items i c.entry-item.result
          c.in_ok-read.read.entry here c.entry-item.is
          (c.loop-entry.invariant.views tells)
          (c.in_ok-read.ensures.view tells ∙ ap (λ image. entry_view image c.args.place c.args.m c.entry-item.result)
          c.loop-entry.invariant.disk.reads.image);
      read = subst (AllZip (IsReadBy c.args.place.copies) (take (i + 1) entries)) (sym c.in_ok-push.ensures.items)
          (zip_more (IsReadBy c.args.place.copies) entries c.loop-entry.views.items i c.entry-item.result
          c.in_ok-read.read.entry here c.entry-item.is
          c.loop-entry.invariant.read c.in_ok-read.ensures.read);
      states = subst (λ (es : List Entry). AllZip AreOfEntry es c.push-in-loop-entry.new.self.items)
          (sym c.in_ok-push.ensures.items) (subst (AllZip AreOfEntry (c.loop-entry.views.items ++ c.in_ok-read.read.entry
          ∷ [])) (sym c.in_ok-push-2.ensures.items) (zip_push AreOfEntry c.loop-entry.views.items
          c.loop-entry.states.items c.in_ok-read.read.entry c.in_ok-read.read.states c.loop-entry.invariant.states
          c.in_ok-read.ensures.states));
    }

pub read_entry-requires-clause-blocks : goal.read_entry-requires-clause-blocks
read_entry-requires-clause-blocks g c =
    subst HasBlocks (sym c.entry-item.is) (all_at HasBlocks c.args.entries.now c.loop-entry.entry-index
    c.entry-item.result c.requires.blocks c.loop-entry-test.true)
