-- Nothing is found exactly where the findings are none.
use Rattle.std.proofs.Common.{sym, ◌∙◌}
use Rattle.per_run.proofs.Answered.{sound_none, unsound_some}
use Rattle.per_run.proofs.auditing.verdict.Goals as goal

pub returns-then-is_sound-clause-sound : goal.returns-then-is_sound-clause-sound
returns-then-is_sound-clause-sound c = λ none. sound_none _ (sym c.is_sound.ensures ∙ c.if-is_sound.true)

pub returns-else-is_sound-clause-found : goal.returns-else-is_sound-clause-found
returns-else-is_sound-clause-found c = λ eight. unsound_some _ (sym c.is_sound.ensures ∙ c.if-is_sound.false)
