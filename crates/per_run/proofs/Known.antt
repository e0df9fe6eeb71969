-- What a sink took, piece by piece.
use Rattle.std.proofs.Common.{ℕ, List, ◌≡◌, ◌≤◌, ◌+◌, ◌-◌, length, take, drop, Option, arith, Result, Ok, Err, OnOk}
use Rattle.std.proofs.Common.{IfErr}
use Rattle.std.proofs.Math.Seq.{take-add}
use Rattle.std.proofs.KnownBytes.{Appends-trans}
use Rattle.std.proofs.lemmas.List.{length-drop, length-take, take_all}
use Rattle.std.specs.Io.KnownBytes.{Appends}
use Rattle.per_run.specs.declared.endings.Ending.{Ending}
use Rattle.per_run.specs.declared.endings.Ending.TheVariants.{AllRead, EndLine, BadLine, OutOfMemory, Source, Sink}
use Rattle.per_run.specs.declared.endings.Ending.TheVariants.{TooLong}
use Rattle.per_run.specs.Steps.{IsBadLineAnswer, PutsOutput}

rest_is : (text : List ℕ) (done : ℕ) → take (length text - done) (drop done text) ≡ drop done text
rest_is text done = take_all (length text - done) (drop done text) (omega (arith, length-drop done text))

pub took_more : (a b c : Option (List ℕ)) (text : List ℕ) (done count : ℕ) → Appends a b (take done text)
    → Appends b c (take count (take (length text - done) (drop done text))) → Appends a c (take (done + count) text)
took_more a b c text done count first second =
    rw (take-add done count text) (Appends-trans a b c _ _ first (rw (rest_is text done) at second))

pub within_rest : (text : List ℕ) (done count : ℕ) → done ≤ length text
    → count ≤ length (take (length text - done) (drop done text)) → done + count ≤ length text
within_rest text done count within more = omega (
  arith,
  length-take (length text - done) (drop done text),
  length-drop done text,
)

-- ---- a text that was handed to the sink

pub on_ok : {T : Type 0} (text : List ℕ) (before now : Option (List ℕ)) (r : Result T Ending) (P : Type 0)
    → PutsOutput text before now r → (Appends before now text → P) → OnOk r P
on_ok text before now (Ok x) P puts then = then puts
on_ok text before now (Err e) P puts then = tt

pub if_err : {T : Type 0} (text : List ℕ) (before now : Option (List ℕ)) (r : Result T Ending) (P : Ending → Type 0)
    → PutsOutput text before now r
    → ((e : Ending) → PutsOutput {T = T} text before now (Err e) → P e) → IfErr r P
if_err text before now (Ok x) P puts then = tt
if_err text before now (Err e) P puts then = then e puts

pub refuses : (T : Type 0) (text : List ℕ) (before now : Option (List ℕ)) (e : Ending)
    → PutsOutput {T = T} text before now (Err e) → IsBadLineAnswer text before now e
refuses T text before now AllRead puts = puts
refuses T text before now EndLine puts = puts
refuses T text before now BadLine puts = absurd puts
refuses T text before now OutOfMemory puts = puts
refuses T text before now Source puts = puts
refuses T text before now Sink puts = puts
refuses T text before now TooLong puts = puts
