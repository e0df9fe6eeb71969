use Rattle.std.proofs.Common.{length}
use Rattle.per_run.proofs.octets.+write_digits.Given as goal

abbrev pub decreases-write_digits : goal.decreases-write_digits
decreases-write_digits g l = length l.bytes.now
