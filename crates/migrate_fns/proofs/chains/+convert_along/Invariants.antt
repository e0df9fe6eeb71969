use Rattle.std.proofs.Common.{length}
use Rattle.migrate_fns.proofs.chains.+convert_along.Given as goal

abbrev pub decreases-convert_along : goal.decreases-convert_along
decreases-convert_along g l = length l.places.now
