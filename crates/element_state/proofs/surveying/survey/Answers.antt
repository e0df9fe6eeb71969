use Rattle.std.proofs.Common.{sym, ap, subst, ◌∙◌}
use Rattle.std.specs.List.{AllByRecursion}
use Rattle.disk_model.specs.Image.{Image}
use Rattle.guarded_cell.specs.Seens.{IsSealable}
use Rattle.element_state.specs.Fit.{FitText, fit_texts}
use Rattle.element_state.specs.States.{store_at, salvage_of}
use Rattle.element_state.specs.Chosen.{IsFit, IsFitIndex, opened_of}
use Rattle.element_state.specs.Surveys.{IsHeldOn}
use Rattle.element_state.proofs.Finding.{all_rec, both_all, fit_all, fit_held, fit_texts_among, survey_opened}
use Rattle.element_state.proofs.Finding.{survey_salvaged, found_slots}
use Rattle.element_state.proofs.surveying.survey.Goals as goal

pub choose-requires-clause-fit : goal.choose-requires-clause-fit
choose-requires-clause-fit g c =
    let shape = c.args.shape.now in
    let seens = c.in_ok-seens.field-0.seens.items in
    let texts = c.in_ok-texts.texts.items in
    let sealable = subst (AllByRecursion (λ (t : FitText). IsSealable t.0)) (sym c.in_ok-texts.ensures.texts)
    (fit_all shape IsSealable seens (all_rec IsSealable seens c.in_ok-seens.ensures.sealable)) in
    both_all (λ (t : FitText). IsSealable t.0) (λ (t : FitText). IsFitIndex shape t.0.text t.1) (IsFit shape)
    (λ t seal fit. record { sealable = seal; index = fit }) texts sealable c.in_ok-texts.ensures.fit

pub choose-requires-clause-texts : goal.choose-requires-clause-texts
choose-requires-clause-texts g c = λ tells.
    let shape = c.args.shape.now in
    let old = (g.D.Disk.medium c.args.disk.now).image in
    c.in_ok-texts.ensures.texts
    ∙ fit_texts_among shape old c.in_ok-seens.field-0.seens.items (c.in_ok-seens.ensures.held tells)
    ∙ ap (λ (image : Image). fit_texts shape image) (sym c.look.ensures.image)

pub choose-requires-clause-held : goal.choose-requires-clause-held
choose-requires-clause-held g c = λ tells.
    let shape = c.args.shape.now in
    let old = (g.D.Disk.medium c.args.disk.now).image in
    let new = (g.D.Disk.medium c.look.new.disk).image in
    let are = c.in_ok-texts.ensures.texts
    ∙ fit_texts_among shape old c.in_ok-seens.field-0.seens.items (c.in_ok-seens.ensures.held tells)
    ∙ ap (λ (image : Image). fit_texts shape image) (sym c.look.ensures.image) in
    subst (AllByRecursion (IsHeldOn new shape)) (sym are) (fit_held shape new)

pub returns-clause-opened : goal.returns-clause-opened
returns-clause-opened g c = λ tells.
    let shape = c.args.shape.now in
    let new = (g.D.Disk.medium c.look.new.disk).image in
    ap (λ (image : Image). opened_of (store_at image shape)) (sym c.look.ensures.image)
    ∙ survey_opened new shape c.in_ok-found.found (c.in_ok-found.ensures.chosen tells)
    (c.in_ok-found.ensures.viewed tells)

pub returns-clause-salvaged : goal.returns-clause-salvaged
returns-clause-salvaged g c = λ tells.
    let shape = c.args.shape.now in
    let new = (g.D.Disk.medium c.look.new.disk).image in
    ap (λ (image : Image). salvage_of (store_at image shape)) (sym c.look.ensures.image)
    ∙ survey_salvaged new shape c.in_ok-found.found (c.in_ok-found.ensures.chosen tells)
    (c.in_ok-found.ensures.viewed tells)

pub returns-clause-slots : goal.returns-clause-slots
returns-clause-slots g c = λ tells.
    let place = c.args.shape.now.place in
    found_slots (g.D.Disk.medium c.args.disk.now).image place c.in_ok-seens.field-0.slots
    c.in_ok-found.found c.in_ok-found.ensures.slots (c.in_ok-seens.ensures.slots tells)
