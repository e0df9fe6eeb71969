use Rattle.std.proofs.Common.{ℕ, List, Option, map, ap, subst, ◌∙◌}
use Rattle.std.specs.Prelude.{IfSome}
use Rattle.std.specs.List.{All}
use Rattle.per_base.specs.declared.elements.Entry.{Entry}
use Rattle.index_text.specs.declared.entries.IndexEntry.{IndexEntry}
use Rattle.element_state.specs.declared.surveying.Found.{Found}
use Rattle.element_state.specs.States.{mended_entry}
use Rattle.element_state.specs.Surveys.{IsFoundView}
use Rattle.element_store.specs.Hashing.{AreOfElement}
use Rattle.element_store.specs.Stores.{AreTaken}
use Rattle.element_store.proofs.Finds.{found_first, found_view, found_opens, found_copies, found_slots}
use Rattle.element_store.proofs.ReadStates.{found_states, mended_ascend, mended_states}
use Rattle.element_store.proofs.opening.prepare.Goals as goal

pub kept_of-kept-requires-clause-ascend : goal.kept_of-kept-requires-clause-ascend
kept_of-kept-requires-clause-ascend g c =
    let f = c.in-Some-true.field-0 in
    let read = subst (λ (o : Option Found). IfSome o (IsFoundView c.args.shape.now)) c.in-Some-true.is
    c.in_ok-seen.ensures.found in
    mended_ascend f.view.entries c.deref.result.now (c.deref.ensures.value ∙ c.in_ok-entries.ensures
    ∙ ap (map mended_entry) c.as_slice.ensures) read.read.names_ascend

pub kept_of-kept-requires-clause-states : goal.kept_of-kept-requires-clause-states
kept_of-kept-requires-clause-states g c =
    let f = c.in-Some-true.field-0 in
    mended_states f.view.entries c.deref.result.now f.states.items (c.deref.ensures.value ∙ c.in_ok-entries.ensures
    ∙ ap (map mended_entry) c.as_slice.ensures) (found_states c.in_ok-seen.field-0 f c.in-Some-true.is
    c.in_ok-seen.ensures.states)

pub returns-clause-ready : goal.returns-clause-ready
returns-clause-ready g c =
    let f = c.in-Some-true.field-0 in
    let found = subst (λ (o : Option Found). IfSome o (IsFoundView c.args.shape.now)) c.in-Some-true.is
    c.in_ok-seen.ensures.found in
    record {
      text = found.text;
      generation = found.generation;
      read = found.entries;
      view = found.read;
      entries = c.in_ok-entries.ensures ∙ ap (map mended_entry) c.as_slice.ensures;
      kept = subst (λ (es : List Entry). All (AreOfElement es) c.kept_of-kept.result.items) c.deref.ensures.value
          c.kept_of-kept.ensures;
      reports = c.in_ok-reports.ensures;
      taken = subst (λ (n : ℕ). AreTaken n f.index.entries c.in_ok-used.used) c.blocks_in_area.ensures
          (subst (λ (es : List IndexEntry). AreTaken c.blocks_in_area.result es c.in_ok-used.used) c.as_slice-2.ensures
          c.in_ok-used.ensures);
    }

pub returns-clause-found : goal.returns-clause-found
returns-clause-found g c = λ tells.
    let image = (g.D.Disk.medium c.args.disk.now).image in
    let chose = c.in_ok-seen.ensures.chosen tells in
    let viewed = c.in_ok-seen.ensures.viewed tells in
    record {
      first = found_first image c.args.shape.now c.in_ok-seen.field-0 c.in-Some-true.field-0 c.in-Some-true.is (cc)
          chose viewed;
      view = found_view image c.args.shape.now c.in_ok-seen.field-0 c.in-Some-true.field-0 c.in-Some-true.is (cc) chose
          viewed;
      opens = found_opens image c.args.shape.now c.in_ok-seen.field-0 c.in-Some-true.field-0 c.in-Some-true.is (cc)
          chose viewed;
      copies = found_copies image c.args.shape.now c.in_ok-seen.field-0 c.in-Some-true.field-0 c.in-Some-true.is (cc)
          chose viewed;
      slots = found_slots image c.args.shape.now.place c.in_ok-seen.field-0
          c.in-Some-true.field-0 c.in-Some-true.is (c.in_ok-seen.ensures.slots tells);
    }
