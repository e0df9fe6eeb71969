use Rattle.std.proofs.Common.{◌<◌}
use Rattle.per_embed.proofs.installing.is_empty_root.Given as goal

abbrev pub invariant-loop-number : goal.invariant-loop-number
invariant-loop-number g l = l.app < 8
