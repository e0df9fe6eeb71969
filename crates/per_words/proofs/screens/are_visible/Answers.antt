use Rattle.std.proofs.Common.{sym, ◌∙◌}
use Rattle.std.proofs.lemmas.Str.{IsUtf8-past_char}
use Rattle.per_words.proofs.Seen.{all_seen, one_seen, one_unseen}
use Rattle.per_words.proofs.screens.are_visible.Goals as goal

pub returns-then-not-is_visible : goal.returns-then-not-is_visible
returns-then-not-is_visible c = one_unseen _ _ c.in-Some.c _ c.loop-c.invariant.0 c.in-Some.ensures.steps.0
    (sym c.is_visible.ensures ∙ c.if-not-is_visible.true) c.loop-c.invariant.1

pub loop-c-preserved : goal.loop-c-preserved
loop-c-preserved c = (
  IsUtf8-past_char _ _ c.in-Some.c c.loop-c.invariant.0 c.in-Some.ensures.steps.0,
  one_seen _ _ c.in-Some.c _ c.loop-c.invariant.0 c.in-Some.ensures.steps.0
      (sym c.is_visible.ensures ∙ c.if-not-is_visible.false) c.loop-c.invariant.1,
)

pub returns : goal.returns
returns c = all_seen _ _ c.in-None.ensures.steps.0.0 c.loop-c.invariant.1
