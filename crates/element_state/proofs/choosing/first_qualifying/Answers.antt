use Rattle.std.proofs.Common.{◌≡◌, Option, Some, None, true, IfSome, sym, ap, subst, ◌∙◌}
use Rattle.std.specs.List.{AllZip}
use Rattle.std.proofs.lemmas.List.{get_or_default}
use Rattle.disk_model.specs.Image.{Image}
use Rattle.element_state.specs.declared.reading.ReadEntries.{ReadEntries}
use Rattle.element_state.specs.Fit.{FitText}
use Rattle.element_state.specs.Views.{qualifies, entries_seen}
use Rattle.element_state.specs.Chosen.{IsFit, IsReadBy}
use Rattle.element_state.specs.Surveys.{AreOfEntry, IsHeldOn, IsTried}
use Rattle.element_state.specs.lemmas.Entrywise.{read_on, all_at}
use Rattle.element_state.proofs.Finding.{none_more, found_at}
use Rattle.element_state.proofs.choosing.first_qualifying.Goals as goal

pub try_text-requires-clause-fit : goal.try_text-requires-clause-fit
try_text-requires-clause-fit g c =
    let x = c.index-texts-at.result in
    subst (IsFit c.args.shape.now) (sym c.index-texts-at.is)
    (all_at (IsFit c.args.shape.now) c.args.texts.now c.loop-at.at x c.requires.fit c.loop-at-test.true)

pub try_text-requires-clause-held : goal.try_text-requires-clause-held
try_text-requires-clause-held g c = λ tells.
    let shape = c.args.shape.now in
    let old = (g.D.Disk.medium c.args.disk.now).image in
    let x = c.index-texts-at.result in
    subst (λ (image : Image). IsHeldOn image shape x) (sym c.loop-at.invariant.disk.reads.image)
    (subst (IsHeldOn old shape) (sym c.index-texts-at.is)
    (all_at (IsHeldOn old shape) c.args.texts.now c.loop-at.at x (c.requires.held tells) c.loop-at-test.true))

pub returns-in-Some-clause-first : goal.returns-in-Some-clause-first
returns-in-Some-clause-first g c = λ tells d.
    let shape = c.args.shape.now in
    let old = (g.D.Disk.medium c.args.disk.now).image in
    let mid = (g.D.Disk.medium c.loop-at.disk).image in
    let x = c.index-texts-at.result in
    let is = c.index-texts-at.is ∙ get_or_default c.args.texts.now c.loop-at.at x d c.loop-at-test.true in
    let some = subst (λ (o : Option ReadEntries). IsTried mid shape x o) c.in-Some.is
    (c.in_ok-tried.ensures.tried tells) in
    let tried = subst (λ (image : Image). IsTried image shape x (Some c.in-Some.read))
    c.loop-at.invariant.disk.reads.image some in
    let here = subst (λ (t : FitText). (qualifies old shape t ≡ true)
    × (c.in-Some.read.entries ≡ entries_seen old shape t)) is
    tried in (
      found_at (qualifies old shape) c.args.texts.now c.loop-at.at d c.loop-at-test.true
          (c.loop-at.invariant.none tells)
          here.0,
      here.1,
    )

pub returns-in-Some-clause-among : goal.returns-in-Some-clause-among
returns-in-Some-clause-among g c =
    let n = c.args.shape.now.place.copies in
    let x = c.index-texts-at.result in (
      c.loop-at-test.true,
      λ d. (
          let is = c.index-texts-at.is ∙ get_or_default c.args.texts.now c.loop-at.at x d c.loop-at-test.true in
          subst (λ (t : FitText). AllZip (IsReadBy n) t.1.entries c.in-Some.read.entries) is
          (subst (λ (o : Option ReadEntries). IfSome o (λ r. AllZip (IsReadBy n) x.1.entries r.entries)) c.in-Some.is
          c.in_ok-tried.ensures.read)),
    )

pub returns-in-Some-clause-states : goal.returns-in-Some-clause-states
returns-in-Some-clause-states g c =
    subst (λ (o : Option ReadEntries). IfSome o (λ r. AllZip AreOfEntry r.entries r.states.items)) c.in-Some.is
    c.in_ok-tried.ensures.states

pub loop-at-preserved : goal.loop-at-preserved
loop-at-preserved g c =
    let shape = c.args.shape.now in
    let old = (g.D.Disk.medium c.args.disk.now).image in
    let mid = (g.D.Disk.medium c.loop-at.disk).image in
    let x = c.index-texts-at.result in
    record {
      disk = read_on c.loop-at.invariant.disk c.try_text.ensures.reads c.try_text.ensures.time
          c.in_ok-tried.ensures.passes;
      none = λ tells. (
          let none = subst (λ (o : Option ReadEntries). IsTried mid shape x o) c.in_default.is
          (c.in_ok-tried.ensures.tried tells) in
          let fails = subst (λ (image : Image). IsTried image shape x None) c.loop-at.invariant.disk.reads.image none in
          none_more (qualifies old shape) c.args.texts.now c.loop-at.at x c.loop-at-test.true
          (c.loop-at.invariant.none tells)
          (ap (qualifies old shape) (sym c.index-texts-at.is) ∙ fails));
    }
