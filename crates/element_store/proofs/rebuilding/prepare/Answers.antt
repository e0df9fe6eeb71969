use Rattle.std.proofs.Common.{sym, ap, ◌∙◌, subst}
use Rattle.std.specs.Prelude.{IfSome, Option}
use Rattle.std.specs.Option.{option_map}
use Rattle.disk_model.specs.Image.{Image}
use Rattle.element_state.specs.declared.surveying.Found.{Found}
use Rattle.element_state.specs.Surveys.{IsFoundView, found_text}
use Rattle.element_store.proofs.Prepared.{surveyed_kept, none_ready, settled_kept, settled_ready, found_below}
use Rattle.element_store.proofs.Prepared.{found_taken, found_room}
use Rattle.element_store.proofs.rebuilding.prepare.Goals as goal

pub returns-in_err-found-clause-kept : goal.returns-in_err-found-clause-kept
returns-in_err-found-clause-kept g c = λ tells state. surveyed_kept c.args.shape.now c.requires.shape
    (g.D.Disk.medium c.args.disk.now) (g.D.Disk.medium c.survey.new.disk)
    c.in_err-found.ensures.image state c.in_err-found.ensures.idle

pub blocks_taken_by-requires : goal.blocks_taken_by-requires
blocks_taken_by-requires g c = found_below c.args.shape.now c.in-Some.found
    (subst (λ (o : Option Found). IfSome o (IsFoundView c.args.shape.now)) c.in-Some.is c.in_ok-found.ensures.found)
    c.as_slice.result.now c.as_slice.ensures
    c.blocks_in_area-blocks.result c.blocks_in_area-blocks.ensures

pub returns-in_err-used-in-Some-clause-kept : goal.returns-in_err-used-in-Some-clause-kept
returns-in_err-used-in-Some-clause-kept g c = λ tells state.
    surveyed_kept c.args.shape.now c.requires.shape (g.D.Disk.medium c.args.disk.now)
    (g.D.Disk.medium c.survey.new.disk)
    c.in_ok-found.ensures.image state c.in_ok-found.ensures.idle

pub returns-in_err-leave_one_text-in-Some-clause-kept : goal.returns-in_err-leave_one_text-in-Some-clause-kept
returns-in_err-leave_one_text-in-Some-clause-kept g c = λ tells state.
    settled_kept c.args.shape.now c.requires.shape (g.D.Disk.medium c.args.disk.now) (g.D.Disk.medium c.survey.new.disk)
    c.in_ok-found.ensures.image (g.D.Disk.medium c.leave_one_text.new.disk) c.in-Some.found state
    c.in_ok-found.ensures.time
    c.in_err-leave_one_text-in-Some.ensures.time
    c.in_ok-found.ensures.idle (sym (ap (option_map found_text) c.in-Some.is) ∙ c.in_ok-found.ensures.chosen tells)
    (c.in_err-leave_one_text-in-Some.ensures.any_moment tells c.in_ok-found.ensures.quiet)

pub returns-in_err-leave_one_text-in-Some-clause-elsewhere :
    goal.returns-in_err-leave_one_text-in-Some-clause-elsewhere
returns-in_err-leave_one_text-in-Some-clause-elsewhere g c = λ tells f out.
    c.in_err-leave_one_text-in-Some.ensures.elsewhere tells f out ∙ ap (λ (im : Image). im f)
    c.in_ok-found.ensures.image

pub returns-in_err-used-in-None-clause-kept : goal.returns-in_err-used-in-None-clause-kept
returns-in_err-used-in-None-clause-kept g c = λ tells state.
    surveyed_kept c.args.shape.now c.requires.shape (g.D.Disk.medium c.args.disk.now)
    (g.D.Disk.medium c.survey.new.disk)
    c.in_ok-found.ensures.image state c.in_ok-found.ensures.idle

pub returns-in_ok-leave_one_text-in-Some-clause-ready : goal.returns-in_ok-leave_one_text-in-Some-clause-ready
returns-in_ok-leave_one_text-in-Some-clause-ready g c = λ tells clean.
    settled_ready c.args.shape.now c.requires.shape (g.D.Disk.medium c.args.disk.now)
    (g.D.Disk.medium c.survey.new.disk)
    c.in_ok-found.ensures.image (g.D.Disk.medium c.leave_one_text.new.disk) c.in-Some.found
    (subst (λ (o : Option Found). IfSome o (IsFoundView c.args.shape.now)) c.in-Some.is c.in_ok-found.ensures.found)
    c.in_ok-used-in-Some.used
    (found_taken c.args.shape.now c.in-Some.found (subst (λ (o : Option Found). IfSome o (IsFoundView c.args.shape.now))
    c.in-Some.is c.in_ok-found.ensures.found) c.as_slice.result.now c.as_slice.ensures
    c.blocks_in_area-blocks.result c.blocks_in_area-blocks.ensures c.in_ok-used-in-Some.used
    c.in_ok-used-in-Some.ensures)
    c.saturating_add-generation.result (c.requires.not_worn tells)
    (c.in_ok-found.ensures.salvaged tells ∙ ap (option_map (λ (f : Found). f.view)) c.in-Some.is)
    c.saturating_add-generation.ensures clean (sym (ap (option_map found_text) c.in-Some.is)
    ∙ c.in_ok-found.ensures.chosen tells)
    (c.in_ok-leave_one_text-in-Some.ensures.left tells) (c.in_ok-leave_one_text-in-Some.ensures.elsewhere tells)

pub returns-in_ok-leave_one_text-in-Some-clause-free : goal.returns-in_ok-leave_one_text-in-Some-clause-free
returns-in_ok-leave_one_text-in-Some-clause-free g c = found_room c.args.shape.now c.in-Some.found
    (subst (λ (o : Option Found). IfSome o (IsFoundView c.args.shape.now)) c.in-Some.is c.in_ok-found.ensures.found)
    c.as_slice.result.now c.as_slice.ensures
    c.blocks_in_area-blocks.result c.blocks_in_area-blocks.ensures c.in_ok-used-in-Some.used
    c.in_ok-used-in-Some.ensures

pub returns-in_ok-leave_one_text-in-Some-clause-kept : goal.returns-in_ok-leave_one_text-in-Some-clause-kept
returns-in_ok-leave_one_text-in-Some-clause-kept g c = λ tells state.
    settled_kept c.args.shape.now c.requires.shape (g.D.Disk.medium c.args.disk.now) (g.D.Disk.medium c.survey.new.disk)
    c.in_ok-found.ensures.image (g.D.Disk.medium c.leave_one_text.new.disk) c.in-Some.found state
    c.in_ok-found.ensures.time
    c.in_ok-leave_one_text-in-Some.ensures.time
    c.in_ok-found.ensures.idle (sym (ap (option_map found_text) c.in-Some.is) ∙ c.in_ok-found.ensures.chosen tells)
    (c.in_ok-leave_one_text-in-Some.ensures.any_moment tells c.in_ok-found.ensures.quiet)

pub returns-in_ok-leave_one_text-in-Some-clause-elsewhere :
    goal.returns-in_ok-leave_one_text-in-Some-clause-elsewhere
returns-in_ok-leave_one_text-in-Some-clause-elsewhere g c = λ tells f out.
    c.in_ok-leave_one_text-in-Some.ensures.elsewhere tells f out
    ∙ ap (λ (im : Image). im f) c.in_ok-found.ensures.image

pub returns-in_ok-used-in-None-clause-ready : goal.returns-in_ok-used-in-None-clause-ready
returns-in_ok-used-in-None-clause-ready g c = λ tells clean.
    none_ready c.args.shape.now c.requires.shape (g.D.Disk.medium c.args.disk.now) (g.D.Disk.medium c.survey.new.disk)
    c.in_ok-found.ensures.image c.in_ok-used-in-None.used clean
    (sym (c.in_ok-found.ensures.chosen tells) ∙ ap (option_map found_text) c.in-None.is)

pub returns-in_ok-used-in-None-clause-kept : goal.returns-in_ok-used-in-None-clause-kept
returns-in_ok-used-in-None-clause-kept g c = λ tells state.
    surveyed_kept c.args.shape.now c.requires.shape (g.D.Disk.medium c.args.disk.now)
    (g.D.Disk.medium c.survey.new.disk)
    c.in_ok-found.ensures.image state c.in_ok-found.ensures.idle
