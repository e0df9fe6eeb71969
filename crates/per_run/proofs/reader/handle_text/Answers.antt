-- A line is handled, or the handling ends at it.
use Rattle.std.proofs.Common.{List, ℕ, Bool, ◌∷◌, ◌≡◌, ◌⊎◌, inl, inr, Err, None, ap, refl, subst, take}
use Rattle.std.proofs.KnownBytes.{Appends-nil}
use Rattle.std.proofs.lemmas.Result.{IfErr-weaker, on_ok_weaker}
use Rattle.disk_model.specs.Medium.{Medium}
use Rattle.command_text.specs.Grammar.{IsLine}
use Rattle.command_text.specs.declared.calls.Event.{Event}
use Rattle.command_text.specs.declared.errors.LineError.{LineError}
use Rattle.command_text.specs.declared.lines.Line.{Line}
use Rattle.command_text.specs.declared.lines.Line.TheVariants as line
use Rattle.run_model.specs.Converters.{Converters}
use Rattle.run_model.specs.Runtimes.{Memory, world_of, runtime_at}
use Rattle.per_runtime.specs.Needs.{CommandMayStarve}
use Rattle.per_run.specs.Needs.{HandlingMayStarve, ReplyMayStarve}
use Rattle.per_run.proofs.Gives.{front_bad, front_says}
use Rattle.per_run.proofs.Courses.{course_end, course_memory, course_refused, handled_nothing}
use Rattle.per_run.proofs.reader.handle_text.Goals as goal

-- the whole line says what its prefix does
says : (text whole : List ℕ) (found said : Line) → found ≡ said → text ≡ take 262145 whole → IsLine text found
    → IsLine whole said
says text whole found said is front spelled =
    front_says text whole said front (subst (λ (l : Line). IsLine text l) is spelled)

-- the command may need memory, or its reply's text
starves : (told : Bool) (converters : Converters) (text : List ℕ) (before after : Memory)
    (old new : Medium) (event : Event) → IsLine text (line.Event event)
    → CommandMayStarve (world_of old.image before None) event
    ⊎ ReplyMayStarve told converters text (runtime_at before old) (runtime_at after new)
    → HandlingMayStarve told converters text (runtime_at before old) (runtime_at after new)
starves told converters text before after old new event spelled (inl needs) = inl (inr (event, spelled, needs))
starves told converters text before after old new event spelled (inr made) = inr (inl made)

pub returns-in-Ok-Nothing-clause-goes_on : goal.returns-in-Ok-Nothing-clause-goes_on
returns-in-Ok-Nothing-clause-goes_on g c = λ start before lines whole front handled.
    handled_nothing _ _ _ before g.D.Disk.medium lines _ _ _ _ _ whole handled
    (says _ whole _ line.Nothing c.in-Ok-Nothing.field-0-is front c.in-Ok-Nothing.ensures.line) refl refl

pub returns-in-Ok-Event-clause-goes_on : goal.returns-in-Ok-Event-clause-goes_on
returns-in-Ok-Event-clause-goes_on g c = on_ok_weaker c.handle_event-handled.result
    (λ handles start before lines whole front handled. handles start before lines whole
    (says _ whole _ (line.Event c.in-Ok-Event.event) c.in-Ok-Event.field-0-is front c.in-Ok-Event.ensures.line)
    handled)
    c.handle_event-handled.ensures.goes_on

pub returns-in-Ok-Event-clause-ends : goal.returns-in-Ok-Event-clause-ends
returns-in-Ok-Event-clause-ends g c = IfErr-weaker c.handle_event-handled.result _ _
    (λ ending ends laws start before lines others whole front number handled. ends laws start before lines others
    whole
    (says _ whole _ (line.Event c.in-Ok-Event.event) c.in-Ok-Event.field-0-is front c.in-Ok-Event.ensures.line)
    handled)
    c.handle_event-handled.ensures.ends

pub returns-in-Ok-End-clause-ends : goal.returns-in-Ok-End-clause-ends
returns-in-Ok-End-clause-ends g c = λ laws start before lines others whole front number handled.
    let is = says _ whole _ line.End c.in-Ok-End.field-0-is front c.in-Ok-End.ensures.line in
    course_end _ _ _ before g.D.Disk.medium laws lines others _ _ _ _ whole handled is.spelled refl

pub returns-in-Err-NotALine-clause-ends : goal.returns-in-Err-NotALine-clause-ends
returns-in-Err-NotALine-clause-ends g c = λ laws start before lines others whole front number handled.
    let bad = c.in-Err-NotALine.ensures.none (ap (λ (e : LineError). Err e) c.in-Err-NotALine.field-0-is) in
    course_refused _ _ _ before g.D.Disk.medium laws c.refuse.result lines others _ _ _ _ _ whole c.args.number
    handled (front_bad _ whole front bad) number c.refuse.ensures.refuses refl

pub returns-in-Err-OutOfMemory-clause-ends : goal.returns-in-Err-OutOfMemory-clause-ends
returns-in-Err-OutOfMemory-clause-ends g c = λ laws start before lines others whole front number handled.
    course_memory _ _ _ before laws lines (whole ∷ others) _ _ _ _ handled (Appends-nil _)

pub returns-in-Ok-Event-clause-needs : goal.returns-in-Ok-Event-clause-needs
returns-in-Ok-Event-clause-needs g c = λ told starved.
    let is = subst (λ (l : Line). IsLine c.args.text.now l) c.in-Ok-Event.field-0-is c.in-Ok-Event.ensures.line in
    starves _ _ c.args.text.now _ _ _ _ c.in-Ok-Event.event is
    (c.handle_event-handled.ensures.needs told starved c.args.text.now is)

pub returns-in-Err-NotALine-clause-needs : goal.returns-in-Err-NotALine-clause-needs
returns-in-Err-NotALine-clause-needs g c = λ told starved.
    inr (inr (c.in-Err-NotALine.ensures.none (ap (λ (e : LineError). Err e) c.in-Err-NotALine.field-0-is)))

pub returns-in-Err-OutOfMemory-clause-needs : goal.returns-in-Err-OutOfMemory-clause-needs
returns-in-Err-OutOfMemory-clause-needs g c = λ told starved.
    inl (inl (c.in-Err-OutOfMemory.ensures.memory (ap (λ (e : LineError). Err e) c.in-Err-OutOfMemory.field-0-is)))
