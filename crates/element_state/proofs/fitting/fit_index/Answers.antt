use Rattle.std.proofs.Common.{Some, None, sym, subst, ◌∙◌}
use Rattle.index_text.specs.Reading.{FailsToRead, index_of}
use Rattle.element_state.specs.lemmas.Entrywise.{fit_index_by, if_fits_yes, if_fits_no}
use Rattle.element_state.proofs.fitting.fit_index.Goals as goal

pub returns-then-fits-clause-index : goal.returns-then-fits-clause-index
returns-then-fits-clause-index c =
    let shape = c.args.shape.now in
    let i = c.in-Ok.index in
    sym (fit_index_by shape c.args.text.now (Some i) c.in-Ok.ensures.read
    ∙ if_fits_yes shape i (sym c.fits.ensures ∙ c.if-fits.true))

pub returns-then-fits-clause-spelled : goal.returns-then-fits-clause-spelled
returns-then-fits-clause-spelled c =
    let shape = c.args.shape.now in
    let i = c.in-Ok.index in
    record {
      spelled = c.in-Ok.ensures.spelled;
      rules = c.in-Ok.ensures.rules.0;
      in_range = c.in-Ok.ensures.rules.1;
      fits = sym c.fits.ensures ∙ c.if-fits.true;
      fit = fit_index_by shape c.args.text.now (Some i) c.in-Ok.ensures.read
          ∙ if_fits_yes shape i (sym c.fits.ensures ∙ c.if-fits.true);
    }

pub returns-else-fits-clause-index : goal.returns-else-fits-clause-index
returns-else-fits-clause-index c =
    let shape = c.args.shape.now in
    let i = c.in-Ok.index in
    sym (fit_index_by shape c.args.text.now (Some i) c.in-Ok.ensures.read
    ∙ if_fits_no shape i (sym c.fits.ensures ∙ c.if-fits.false))

pub returns-in-Err-NotAnIndex-clause-index : goal.returns-in-Err-NotAnIndex-clause-index
returns-in-Err-NotAnIndex-clause-index c = sym (fit_index_by c.args.shape.now c.args.text.now None
    (subst (λ e. FailsToRead e (index_of c.args.text.now)) c.in-Err-NotAnIndex.field-0-is
    c.in-Err-NotAnIndex.ensures.read))
