-- Which lines are those of events.
use Rattle.std.proofs.Common.{◌≡◌, ◌↔◌, ◌∙◌, ℕ, List, Result, Ok, Err, true, ap, sym, subst}
use Rattle.command_text.specs.Grammar.{IsEventLine, IsLine}
use Rattle.command_text.specs.declared.errors.LineError.{LineError}
use Rattle.command_text.specs.declared.errors.LineError.TheVariants as error
use Rattle.command_text.specs.declared.lines.Line.{Line}
use Rattle.command_text.specs.declared.lines.Line.TheVariants as line
use Rattle.per_words.specs.Words.{is_event}

of_event : (text : List ℕ) (said : Line) → IsLine text said → is_event said ≡ true → IsEventLine text
of_event text line.Nothing p h = absurd cc
of_event text line.End p h = absurd cc
of_event text (line.Event e) p h = (e, p)

-- as a text says one thing
pub event_told : ((text : List ℕ) (said other : Line) → IsLine text said → IsLine text other → said ≡ other)
    → (text : List ℕ) (said : Line) → IsLine text said → (is_event said ≡ true) ↔ IsEventLine text
event_told law text said p =
    (of_event text said p, λ one. ap is_event (law text said (line.Event one.0) p one.1))

error_in : {S : Type 0} → Result S LineError → LineError
error_in (Ok x) = error.NotALine
error_in (Err e) = e

-- one error in place of another value
pub other_value : {S T : Type 0} (r : Result S LineError) (q : Result T LineError) (e f : LineError) → r ≡ Err e
    → q ≡ Err e → r ≡ Err f → q ≡ Err f
unfolding error_in
other_value r q e f a b h = subst (λ (x : LineError). q ≡ Err x) (ap error_in (sym a ∙ h)) b
