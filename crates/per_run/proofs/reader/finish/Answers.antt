-- No line is left, or the last one is handled.
use Rattle.std.proofs.Common.{ℕ, List, [], length, Bool, Err, false, ◌==◌, ◌≡◌, ◌∙◌, ap, arith}
use Rattle.std.proofs.lemmas.Bool.Decides.{nat_tests}
use Rattle.per_run.specs.declared.endings.Ending.{Ending}
use Rattle.per_run.specs.Steps.{ending_of}
use Rattle.per_run.proofs.Fronts.{is_empty}
use Rattle.per_run.proofs.Reaches.{ends_read, ends_last, ends_at_last}
use Rattle.per_run.proofs.reader.finish.Goals as goal

some_is : (text kept : List ℕ) (none : Bool) → text ≡ kept → none ≡ (length text == 0) → none ≡ false → kept ≡ [] → ⊥
some_is text kept none same says is empty = let long : length text ≡ 0 =
    ap length (same ∙ empty) in grind (arith, nat_tests)

pub returns-then-is_empty-clause-ends : goal.returns-then-is_empty-clause-ends
returns-then-is_empty-clause-ends g c = λ laws start before given small reached.
    ends_read _ _ _ before laws given _ _ _ _ _ reached
    (is_empty _ _ _ c.as_slice.ensures.value c.is_empty.ensures c.if-is_empty.true)

pub returns-in-Ok-clause-ends : goal.returns-in-Ok-clause-ends
returns-in-Ok-clause-ends g c = λ laws start before given small reached.
    ends_last _ _ _ before laws given _ _ _ _ _ _ _ _ reached
    (some_is _ _ _ c.as_slice.ensures.value c.is_empty.ensures c.if-is_empty.false)
    (λ lines text. c.in-Ok.ensures.goes_on start before lines text)

pub returns-in-Err-clause-ends : goal.returns-in-Err-clause-ends
returns-in-Err-clause-ends g c = λ laws start before given small reached.
    ends_at_last _ _ _ before (ending_of c.in-Err.ending) given _ _ _ _ _ _ _ small reached
    (some_is _ _ _ c.as_slice.ensures.value c.is_empty.ensures c.if-is_empty.false)
    (λ lines more text. c.in-Err.ensures.ends laws start before lines more text)

pub returns-in-Err-clause-needs : goal.returns-in-Err-clause-needs
returns-in-Err-clause-needs g c = λ told starved.
    c.in-Err.ensures.needs told (ap (λ (e : Ending). Err e) starved)
