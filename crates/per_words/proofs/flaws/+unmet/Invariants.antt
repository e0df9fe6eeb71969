use Rattle.std.proofs.Common.{length}
use Rattle.per_words.proofs.flaws.+unmet.Given as goal

abbrev pub decreases-unmet : goal.decreases-unmet
decreases-unmet l = length l.needed.now
