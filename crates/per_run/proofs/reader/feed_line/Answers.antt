-- The line is kept and handled, or the handling ends at it.
use Rattle.std.proofs.Common.{◌∷◌, ◌++◌, ◌∙◌, inr, take, Result, Ok, Err, OnOk}
use Rattle.std.proofs.lemmas.Result.{IfErr-weaker}
use Rattle.per_run.specs.Steps.{ending_of}
use Rattle.per_run.proofs.Fronts.{front_alone, is_empty}
use Rattle.per_run.proofs.Reaches.{ends_line, ends_short, reached_line}
use Rattle.per_run.proofs.reader.feed_line.Goals as goal

on_all : {T E P Q R S : Type 0} (r : Result T E) → (P → Q → R → S) → OnOk r P → OnOk r Q → OnOk r R → OnOk r S
on_all (Ok x) then p q r = then p q r
on_all (Err e) then p q r = tt

pub returns-then-is_empty-clause-goes_on : goal.returns-then-is_empty-clause-goes_on
returns-then-is_empty-clause-goes_on g c =
    let none = is_empty _ _ _ c.as_slice.ensures.value c.is_empty.ensures c.if-is_empty.true in
    on_all c.handle_whole.result
    (λ goes_on counts keeps start before given small reached.
    reached_line _ _ _ before given c.args.line.now _ _ _ _ _ _ _ (take 262145 c.args.line.now) _ _ _ small reached
    c.requires.clean (front_alone c.args.line.now _ none) (λ lines text. goes_on start before lines text) counts
    (keeps ∙ none)) c.handle_whole.ensures.goes_on c.handle_whole.ensures.counts c.handle_whole.ensures.keeps

pub returns-then-is_empty-clause-ends : goal.returns-then-is_empty-clause-ends
returns-then-is_empty-clause-ends g c =
    let none = is_empty _ _ _ c.as_slice.ensures.value c.is_empty.ensures c.if-is_empty.true in
    IfErr-weaker c.handle_whole.result _ _
    (λ ending ends laws start before given others small reached.
    ends_line _ _ _ before (ending_of ending) given c.args.line.now others _ _ _ _ _ _ (take 262145 c.args.line.now) _
    small reached c.requires.clean (front_alone c.args.line.now _ none)
    (λ lines more text. ends laws start before lines more text)) c.handle_whole.ensures.ends

pub returns-in-Err-clause-ends : goal.returns-in-Err-clause-ends
returns-in-Err-clause-ends g c = λ laws start before given others small reached.
    ends_short _ _ _ before laws c.in-Err.ending given (c.args.line.now ++ 10 ∷ others) _ _ _ _ _
    c.in-Err.ensures.memory reached

pub returns-in-Ok-handle_line-clause-goes_on : goal.returns-in-Ok-handle_line-clause-goes_on
returns-in-Ok-handle_line-clause-goes_on g c = λ start before given small reached.
    reached_line _ _ _ before given c.args.line.now _ _ _ _ _ _ _ _ _ _ _ small reached c.requires.clean
    c.in-Ok.ensures.kept (λ lines text. c.in-Ok-handle_line.ensures.goes_on start before lines text)
    c.in-Ok-handle_line.ensures.counts c.in-Ok-handle_line.ensures.clears

pub returns-in-Err-handle_line-clause-ends : goal.returns-in-Err-handle_line-clause-ends
returns-in-Err-handle_line-clause-ends g c = λ laws start before given others small reached.
    ends_line _ _ _ before (ending_of c.in-Err-handle_line.ending) given c.args.line.now others _ _ _ _ _ _ _ _ small
    reached c.requires.clean c.in-Ok.ensures.kept
    (λ lines more text. c.in-Err-handle_line.ensures.ends laws start before lines more text)

pub returns-then-is_empty-clause-needs : goal.returns-then-is_empty-clause-needs
returns-then-is_empty-clause-needs g c = λ told starved. inr (c.handle_whole.ensures.needs told starved)
